-- Paths as values, and what is known of a path before it is followed.
use Rattle.std.specs.Prelude.{◌≡◌, List, [], ◌++◌, ℕ, ◌+◌, ◌-◌, ◌≤◌, ◌<◌, get_or, take, replicate}
use Rattle.std.proofs.Math.Option.{some}
use Rattle.model.specs.Definitions.Table.{kind_of, step_from}
use Rattle.model.specs.Definitions.Embedding.{next}
use Rattle.model.proofs.Theorems.Facts.{Walks}
use Rattle.loaded_table.specs.Loaded.{table_by, Bounded}
use Rattle.loaded_embedding.specs.Loaded.{steps_from, starts_of, lengths_of}

-- the path whose 21 stands at `start`, as 12 numbers: its steps, and then zeros
unfoldable pub path_in : List ℕ → ℕ → ℕ → List ℕ
path_in em start count = steps_from em (start + 2) count ++ replicate (12 - count) 0

-- the path of the edge at a place
abbrev pub path_of : List ℕ → List ℕ → ℕ → List ℕ
path_of em map edge = path_in em (get_or (starts_of map) edge 0) (get_or (lengths_of map) edge 0)

-- step p leads on from type t
pub record StepExists (target : List ℕ) (t p : ℕ) : Type 0 where
  pub bounded : Bounded target
  pub exists : step_from (kind_of (table_by target) t) p ≡ some (next (table_by target) t p)

-- each of the first steps of a path leads on
pub record Walkable (target : List ℕ) (from : ℕ) (path : List ℕ) (count : ℕ) : Type 0 where
  pub bounded : Bounded target
  pub short : count ≤ 12
  pub walks : Walks (table_by target) from (take count path)

-- the first n of a list of paths as values are those of edges b to b + n
pub record PathsAt (em map : List ℕ) (b n : ℕ) (paths : List (List ℕ)) : Type 0 where
  pub path_at_lem : (j : ℕ) → j < n → get_or paths j [] ≡ path_of em map (b + j)
