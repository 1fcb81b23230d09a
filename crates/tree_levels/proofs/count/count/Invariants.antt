-- The invariant of the loop: the elements counted and those that the commands left open are all.
use Rattle.std.proofs.Common.{length, ◌-◌}
use Rattle.tree_levels.proofs.Elements.{Counting}
use Rattle.tree_levels.proofs.count.count.Given as goal

abbrev pub invariant-loop-at : goal.invariant-loop-at
invariant-loop-at l = Counting l.t l.at l.n

abbrev pub decreases-loop-at : goal.decreases-loop-at
decreases-loop-at l = length l.t - l.at
