-- Paths in an embedding's document that exist in a loaded table, and where a path is divided.
use Rattle.std.specs.Prelude.{◌≡◌, List, [], ◌∷◌, ℕ, zero, suc, ◌+◌, ◌-◌, ◌*◌, ◌≤◌, ◌<◌, length, get_or}
use Rattle.model.specs.Definitions.Embedding.{Divided}
use Rattle.model.proofs.Theorems.Facts.{WellFormed, Walks}
use Rattle.loaded_table.specs.Loaded.{types_in, table_by, Bounded}
use Rattle.loaded_embedding.specs.Loaded.{starts_of, lengths_of, steps_from}
use Rattle.paths.specs.declared.Cut.{Cut}

-- the path of the edge at a place of a loaded embedding, and n paths from a place on
abbrev pub path_at : List ℕ → List ℕ → ℕ → List ℕ
path_at em map i = steps_from em (get_or (starts_of map) i 0 + 2) (get_or (lengths_of map) i 0)

unfoldable pub paths_from : List ℕ → List ℕ → ℕ → ℕ → List (List ℕ)
paths_from em map i zero = []
paths_from em map i (suc n) = path_at em map i ∷ paths_from em map (suc i) n

-- the steps stand in the document and exist from type t on, in a table without unknown members
pub record Followable (target em : List ℕ) (start steps t : ℕ) : Type 0 where
  pub bounded : Bounded target
  pub well_formed : WellFormed (table_by target)
  pub is_type : t < types_in target
  pub within : start + 1 + 2 * steps ≤ length em
  pub walks : Walks (table_by target) t (steps_from em (start + 2) steps)

-- d steps of a path are taken, and led to type t, from which the rest can be followed
pub record Taken (target em : List ℕ) (start steps d t : ℕ) : Type 0 where
  pub rest : Followable target em (start + 2 * d) (steps - d) t

-- a path is divided behind r .depth of its steps; the next step leaves a list of items r .item, and the rest is a path that begins behind it
pub record Cuts (em : List ℕ) (start steps : ℕ) (d : Divided) (r : Cut) : Type 0 where
  pub depth : r.depth ≡ length d.before
  pub item : r.item ≡ d.item
  pub few : r.depth ≤ steps
  pub before : steps_from em (start + 2) r.depth ≡ d.before
  pub rest : steps_from em (start + 2 * suc r.depth + 2) (steps - suc r.depth) ≡ d.rest
