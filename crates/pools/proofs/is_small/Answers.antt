-- `is_small` meets its contract.
use mathlib.Core.Path.{refl}
use Rattle.model.proofs.Theorems.Tools.{true_false}
use Rattle.pools.proofs.is_small.Goals as goal

pub returns-then-types-gt-SMALL_TYPES : goal.returns-then-types-gt-SMALL_TYPES
returns-then-types-gt-SMALL_TYPES c e = true_false e refl
