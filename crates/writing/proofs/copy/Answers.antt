use mathlib.Core.Path.{refl}
use native.Mathlib.Omega.{arith}
use Rattle.writing.proofs.Copying.{copies_more, copies_all}
use Rattle.writing.proofs.copy.Goals as goal

pub loop-i-init : goal.loop-i-init
loop-i-init c = record { high = omega arith; place = refl; long = refl; left = refl }

pub bounds-from-i : goal.bounds-from-i
bounds-from-i c = omega arith

pub bounds-out-to : goal.bounds-out-to
bounds-out-to c = omega arith

pub overflow_add-to : goal.overflow_add-to
overflow_add-to c = omega arith

pub overflow_add-i : goal.overflow_add-i
overflow_add-i c = omega arith

pub loop-i-smaller : goal.loop-i-smaller
loop-i-smaller c = omega arith

pub loop-i-preserved : goal.loop-i-preserved
loop-i-preserved c = copies_more _ _ _ _ _ _ _ _ c.loop-i.invariant c.loop-i-test.true (omega arith)

pub shape_of-out : goal.shape_of-out
shape_of-out c = c.loop-i.invariant.long

pub returns : goal.returns
returns c = copies_all _ _ _ _ _ _ _ _ c.loop-i.invariant c.loop-i-test.false (omega arith) (omega arith)
