-- `openings` meets its contract: what was counted and what is left of the row make up the whole.
use Rattle.path_elements.proofs.RowCounts.{CountedTo}
use Rattle.path_elements.proofs.openings.Given as goal

abbrev pub invariant-loop-i : goal.invariant-loop-i
invariant-loop-i l = CountedTo l.pool l.from l.to l.i l.n
