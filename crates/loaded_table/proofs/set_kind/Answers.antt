-- `set_kind` meets its contract: the first section begins at 0.
use mathlib.Core.Path.{ap}
use Prim.Native.Nat.{ℕ}
use native.Mathlib.Nat.{zero-add}
use lib.ListN.{set}
use Rattle.loaded_table.proofs.set_kind.Goals as goal

pub returns : goal.returns
returns c = ap (λ (i : ℕ). set c.args.table.now i c.args.kind) (zero-add c.args.t)
