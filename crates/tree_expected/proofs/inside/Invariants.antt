-- The invariant: the machines at the offset, in the state that the array stands for, give the verdicts of the whole; the checks
-- before say what can come. The measure is what is left of the document.
use Rattle.std.proofs.Common.{length, ◌-◌}
use Rattle.tree_expected.specs.Expected.{Inside}
use Rattle.tree_expected.proofs.inside.Given as goal

abbrev pub invariant-loop-turn : goal.invariant-loop-turn
invariant-loop-turn l = Inside l.table l.t l.around l.top l.here.kind l.here.had l.at

abbrev pub decreases-loop-turn : goal.decreases-loop-turn
decreases-loop-turn l = length l.t - l.at
