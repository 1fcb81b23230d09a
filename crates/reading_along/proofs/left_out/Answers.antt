-- `left_out` meets its contract: the root and the elements on paths are taken away.
use native.Mathlib.Omega.{arith}
use Rattle.reading_along.proofs.left_out.Goals as goal

pub overflow_sub-result : goal.overflow_sub-result
overflow_sub-result c = omega (arith, c.requires)

pub overflow_sub-result-2 : goal.overflow_sub-result-2
overflow_sub-result-2 c = omega (arith, c.requires)

pub returns : goal.returns
returns c = omega (arith, c.requires)
