-- `held_sum` meets its contract: the least of the sum and the number at which lengths are held.
use native.Mathlib.Omega.{arith}
use Rattle.table_fill.proofs.held_sum.Goals as goal

pub returns : goal.returns
returns c = omega (arith, c.min.ensures, c.from.ensures, c.from-2.ensures)
