-- `run` meets its contract: the operations so far are carried out, and what is left gives the whole.
use Prim.Native.Nat.{◌-◌}
use lib.ListN.{length}
use Rattle.extending.proofs.Running.{Ran}
use Rattle.extending.proofs.run.Given as goal

abbrev pub invariant-loop-at : goal.invariant-loop-at
invariant-loop-at l = Ran l.ops l.initial.table l.answers l.table l.at l.filled

abbrev pub decreases-loop-at : goal.decreases-loop-at
decreases-loop-at l = length l.ops - l.at
