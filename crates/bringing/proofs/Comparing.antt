-- What an answer says.
use mathlib.Core.Path.{◌≡◌}
use mathlib.Core.Bool.{Bool, true, false}
use mathlib.Core.Logic.{◌↔◌}
use Rattle.model.proofs.Theorems.Tools.{true_false}

-- no says that the fact does not hold, and yes that it does
pub denied : (b : Bool) {P : Type 0} → (b ≡ true) ↔ P → b ≡ false → P → ⊥
denied b h e p = true_false (h.1 p) e

pub confirmed : (b : Bool) {P : Type 0} → (b ≡ true) ↔ P → b ≡ true → P
confirmed b h e = h.0 e
