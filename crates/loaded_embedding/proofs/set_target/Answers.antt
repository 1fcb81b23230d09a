-- `set_target` meets its contract: the first section begins at 0.
use mathlib.Core.Path.{ap}
use Prim.Native.Nat.{ℕ}
use native.Mathlib.Nat.{zero-add}
use lib.ListN.{set}
use Rattle.loaded_embedding.proofs.set_target.Goals as goal

pub returns : goal.returns
returns c = ap (λ (i : ℕ). set c.args.map.now i c.args.target) (zero-add c.args.s)
