-- `put` meets its contract: one store.
use mathlib.Core.Path.{refl}
use mathlib.Core.List.{[], ◌∷◌}
use borrow.Author.Rules.{rules}
use Rattle.growing.proofs.put.Goals as goal

pub returns : goal.returns
returns c = record { numbers = _ ∷ []; written = refl; after = search rules; means = refl }
