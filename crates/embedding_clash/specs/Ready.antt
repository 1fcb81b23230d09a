-- What checks 2 to 4 and loading have established before checks 7 to 10 are made.
use Rattle.std.specs.Prelude.{ℕ, ◌*◌, ◌<◌, List, get_or}
use Rattle.model.specs.Definitions.Table.{kind_of, edges_of}
use Rattle.model.specs.Definitions.Embedding.{Edge, TypeMap, no_map, target_of}
use Rattle.model.proofs.Theorems.Facts.{WellFormed, Walks, All}
use Rattle.loaded_table.specs.Loaded.{table_by, types_in}
use Rattle.loaded_table.specs.Loaded as loaded_table
use Rattle.loaded_embedding.specs.Loaded.{embedding_by}
use Rattle.loaded_embedding.specs.Loaded as loaded_embedding
use Rattle.embedding_clash.specs.Paths.{PathsAt}

-- the map of source type s
abbrev pub map_of : List ℕ → List ℕ → List ℕ → ℕ → TypeMap
map_of source em map s = get_or (embedding_by em (table_by source) map) s no_map

-- A source table, a target table, and an embedding with its document, loaded: both tables are well formed, every path's
-- steps exist, and every target type does.
pub record Checkable (source target em map : List ℕ) : Type 0 where
  pub source_bounded : loaded_table.Bounded source
  pub target_bounded : loaded_table.Bounded target
  pub paths_bounded : loaded_embedding.PathsBounded em map
  pub source_formed : WellFormed (table_by source)
  pub target_formed : WellFormed (table_by target)
  pub walks : (s : ℕ) → s < types_in source
      → All (λ (d : Edge). Walks (table_by target) (target_of (embedding_by em (table_by source) map) s) d.steps) (map_of source em map s).edges
  pub targets_exist : (s : ℕ) → s < types_in source → target_of (embedding_by em (table_by source) map) s < types_in target

-- The same at edge i of source type s, with the paths of all its edges as values.
pub record CheckableAt (source target em map : List ℕ) (s i : ℕ) (paths : List (List ℕ)) : Type 0 where
  pub ready : Checkable source target em map
  pub type_exists : s < types_in source
  pub edge_exists : i < edges_of (kind_of (table_by source) s)
  pub stored : PathsAt em map (s * 16) (edges_of (kind_of (table_by source) s)) paths
