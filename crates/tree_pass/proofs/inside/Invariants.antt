-- The invariant: the machines of the checks at the offset, in the state that the array stands for, give the verdicts of the whole,
-- and n elements were opened. The measure is what is left of the document.
use Rattle.std.proofs.Common.{length, ◌-◌}
use Rattle.tree_pass.proofs.Turns.{Passing}
use Rattle.tree_pass.proofs.inside.Given as goal

abbrev pub invariant-loop-at : goal.invariant-loop-at
invariant-loop-at l = Passing l.table l.t l.around l.top l.here.kind l.here.had l.n l.at

abbrev pub decreases-loop-at : goal.decreases-loop-at
decreases-loop-at l = length l.t - l.at
