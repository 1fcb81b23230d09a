-- The embedding of the model that a loaded embedding stands for, together with its document.
use Rattle.std.specs.Prelude.{◌≡◌, refl, List, [], ◌∷◌, ◌++◌, ℕ, zero, suc, ◌+◌, ◌*◌, ◌≤◌, length, get_or, replicate}
use Rattle.std.proofs.Common.{ap, arith}
use Rattle.loaded_table.specs.Loaded.{section, get_d_replicate}
use Rattle.model.specs.Definitions.Table.{edges_of}
use Rattle.model.specs.Definitions.Table as table
use Rattle.model.specs.Definitions.EmbeddingChecks.{max_steps}
use Rattle.model.specs.Definitions.Refusals.{max_length}
use Rattle.model.specs.Definitions.Embedding as model
use Rattle.model.specs.Definitions.Embedding.{Edge, TypeMap}

-- n steps, the first of them the operand at offset `at`, each two bytes behind the one before
unfoldable pub steps_from : List ℕ → ℕ → ℕ → List ℕ
steps_from em at zero = []
steps_from em at (suc n) = get_or em at 0 ∷ steps_from em (at + 2) n

-- the edge at a place of the arrays: its path's 21, and the steps behind it
unfoldable pub edge_in : List ℕ → List ℕ → List ℕ → ℕ → Edge
edge_in em starts lengths i = record { at = get_or starts i 0; steps = steps_from em (get_or starts i 0 + 2) (get_or lengths i 0) }

-- n edges, from a place on
unfoldable pub edges_from : List ℕ → List ℕ → List ℕ → ℕ → ℕ → List Edge
edges_from em starts lengths i zero = []
edges_from em starts lengths i (suc n) = edge_in em starts lengths i ∷ edges_from em starts lengths (suc i) n

-- the maps of source types, the first of them type s
unfoldable pub maps_from : List ℕ → List ℕ → List ℕ → List ℕ → ℕ → table.Table → List TypeMap
maps_from em targets starts lengths s [] = []
maps_from em targets starts lengths s (κ ∷ S) =
    record { target = get_or targets s 0; edges = edges_from em starts lengths (s * 16) (edges_of κ) } ∷ maps_from em targets starts lengths (suc s) S

-- the embedding of source table S that arrays and the document stand for
unfoldable pub embedding_in : List ℕ → table.Table → List ℕ → List ℕ → List ℕ → model.Embedding
embedding_in em S targets starts lengths = maps_from em targets starts lengths 0 S

-- ---- one array with sections: 64 targets, 1024 starts, 1024 lengths

-- how many numbers a loaded embedding has, and where its sections begin
abbrev pub map_size : ℕ
map_size = 2112

abbrev pub starts_start : ℕ
starts_start = 64

abbrev pub lengths_start : ℕ
lengths_start = 1088

-- how many edges have a place
abbrev pub edge_places : ℕ
edge_places = 1024

abbrev pub targets_of : List ℕ → List ℕ
targets_of map = section 0 64 map

abbrev pub starts_of : List ℕ → List ℕ
starts_of map = section 64 1024 map

abbrev pub lengths_of : List ℕ → List ℕ
lengths_of map = section 1088 1024 map

-- the embedding of source table S that one array and the document stand for
abbrev pub embedding_by : List ℕ → table.Table → List ℕ → model.Embedding
embedding_by em S map = embedding_in em S (targets_of map) (starts_of map) (lengths_of map)

-- the array has all its places; every path is within the document, which is not too long, and has at most 12 steps
pub record PathsBounded (em map : List ℕ) : Type 0 where
  pub size : length map ≡ map_size
  pub short : (i : ℕ) → get_or (lengths_of map) i 0 ≤ max_steps
  pub within : (i : ℕ) → get_or (starts_of map) i 0 + 1 + 2 * get_or (lengths_of map) i 0 ≤ length em
  pub document_short : length em ≤ max_length

-- ---- laws

-- one step more at the end of a path
pub steps_more : (em : List ℕ) (at n : ℕ) (rest : List ℕ) → steps_from em at (suc n) ++ rest ≡ steps_from em at n ++ get_or em (at + 2 * n) 0 ∷ rest
unfolding steps_from
steps_more em at zero rest = let here : at + 2 * zero ≡ at = omega arith in rw here refl
steps_more em at (suc n) rest =
    let there : at + 2 * suc n ≡ at + 2 + 2 * n = omega arith in
    rw there (ap {B = List ℕ} (λ ps. get_or em at 0 ∷ ps) (steps_more em (at + 2) n rest))

-- an array that holds nothing yet
pub record Cleared (map : List ℕ) : Type 0 where
  pub size : length map ≡ map_size
  pub zeros : (i : ℕ) → get_or map i 0 ≡ 0

pub cleared_map : Cleared (replicate map_size 0)
cleared_map = record { size = refl; zeros = get_d_replicate map_size }
