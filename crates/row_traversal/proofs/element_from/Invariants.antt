-- `element_from` meets its contract: the elements before the one that is sought are passed over.
use Prim.Native.Nat.{◌-◌}
use Rattle.row_traversal.proofs.Finding.{ToPass}
use Rattle.row_traversal.proofs.element_from.Given as goal

abbrev pub invariant-loop-passed : goal.invariant-loop-passed
invariant-loop-passed l = ToPass l.tr l.i l.o (l.left - l._passed)
