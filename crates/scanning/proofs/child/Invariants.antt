-- `child` meets its contract: the loop's invariant says, for every content that begins at `from`, what the sibling reached has to do with it.
use Prim.Native.Nat.{◌+◌, ◌-◌}
use Rattle.scanning.proofs.Searching.{Seeks}
use Rattle.scanning.proofs.child.Given as goal

abbrev pub invariant-loop : goal.invariant-loop
invariant-loop l = Seeks l.tr l.from l.p l.at (l.p + 1 - l.counter)
