-- `with_character` meets its contract.
use mathlib.Core.Path.{refl}
use native.Mathlib.Omega.{arith}
use Rattle.measuring.proofs.with_character.Goals as goal

pub returns : goal.returns
returns c = (refl, omega (arith, c.min.ensures), refl)
