-- `clash_at` meets its contract, number by number.
use mathlib.Core.Path.{refl}
use native.Mathlib.Omega.{arith}
use Rattle.embedding_clash.proofs.clash.clash_at.Goals as goal

pub overflow_add-result : goal.overflow_add-result
overflow_add-result c = omega (arith, c.requires.1)

pub overflow_add-result-2 : goal.overflow_add-result-2
overflow_add-result-2 c = omega (arith, c.requires.0)

pub overflow_mul-s : goal.overflow_mul-s
overflow_mul-s c = omega (arith, c.requires.0)

pub overflow_add-s : goal.overflow_add-s
overflow_add-s c = omega (arith, c.requires.0)

pub start-requires : goal.start-requires
start-requires c = c.requires.0

pub returns : goal.returns
returns c = record { of_type = refl; earlier_is = refl; later_is = refl; shared_is = refl; reason_is = refl; mark_is = c.start.ensures.0 }
