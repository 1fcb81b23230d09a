-- `clear_counts` meets its contract: the types below t have no members.
use Rattle.table_load.specs.Loading.{CountsCleared}
use Rattle.table_load.proofs.clear_counts.Given as goal

abbrev pub invariant-loop-t : goal.invariant-loop-t
invariant-loop-t l = CountsCleared l.t l.table
