-- The invariant of the loop: the verdict on what is left, in the state reached, is the verdict on the whole.
use Rattle.std.proofs.Common.{◌≡◌, ◌≤◌, ◌-◌, length}
use Rattle.checking.proofs.run.Given as goal

abbrev pub invariant-loop-at : goal.invariant-loop-at
invariant-loop-at g l =
    let check = g.C.Check in
    (l.at ≤ length l.document) × check.fits l.state l.at × (check.rest l.document l.state l.at ≡ check.rest l.document l.fn.begin 0)

abbrev pub decreases-loop-at : goal.decreases-loop-at
decreases-loop-at g l = length l.document - l.at
