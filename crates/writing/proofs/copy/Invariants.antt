-- `copy` meets its contract: the loop's invariant says that what is left to copy gives the whole.
use Prim.Native.Nat.{◌-◌}
use Rattle.writing.proofs.Copying.{Copies}
use Rattle.writing.proofs.copy.Given as goal

abbrev pub invariant-loop-i : goal.invariant-loop-i
invariant-loop-i l = Copies l.from l.a l.e l.initial.out l.at l.out l.i l.to

abbrev pub decreases-loop-i : goal.decreases-loop-i
decreases-loop-i l = l.e - l.i
