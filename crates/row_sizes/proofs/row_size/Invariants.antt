-- `row_size` meets its contract.
use Rattle.row_sizes.proofs.Adding.{SumsAlong}
use Rattle.row_sizes.proofs.row_size.Given as goal

abbrev pub invariant-loop-i : goal.invariant-loop-i
invariant-loop-i l = SumsAlong l.target l.pool l.from l.to l.depth l.sums l.i
