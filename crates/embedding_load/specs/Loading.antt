-- What each command of an embedding document does to the sections of the array that it is loaded into, and what `load` gives.
use Rattle.std.specs.Prelude.{◌≡◌, List, ℕ, ◌+◌, ◌-◌, ◌*◌, ◌≤◌, ◌<◌, length, get_or, set}
use Rattle.embedding_load.specs.declared.Place.{Place}
use Rattle.loaded_embedding.specs.Loaded.{targets_of, starts_of, lengths_of, embedding_by, PathsBounded}
use Rattle.model.specs.Definitions.Commands.{EmbeddingCommand, maps_to, path, step, embedding_end, alien_e}
use Rattle.model.specs.Definitions.Table.{Table}
use Rattle.model.specs.Definitions.Embedding.{embedding_of}

-- The maps loaded so far, and the number of paths of the last one. Source type s is mapped to targets[s]. The 21 of its
-- edge i stands at starts[s * 16 + i], and lengths[s * 16 + i] steps follow it.
pub record MapArrays : Type 0 where
  pub maps : ℕ
  pub edges : ℕ
  pub targets : List ℕ
  pub starts : List ℕ
  pub lengths : List ℕ

-- the sections of one array, with so many maps loaded, the last with so many paths
abbrev pub loaded_in : ℕ → ℕ → List ℕ → MapArrays
loaded_in maps edges map = record { maps = maps; edges = edges; targets = targets_of map; starts = starts_of map; lengths = lengths_of map }

abbrev pub loaded_at : Place → List ℕ → MapArrays
loaded_at p map = loaded_in p.types p.edges map

-- ---- what a command does

-- one type more, mapped to t, with no path yet
unfoldable pub mapped : MapArrays → ℕ → MapArrays
mapped a t =
    record { maps = a.maps + 1; edges = 0; targets = set a.targets a.maps t; starts = a.starts; lengths = a.lengths }

-- one path more of the last type, whose 21 stands at an offset, with no step yet
unfoldable pub begun : MapArrays → ℕ → MapArrays
begun a at =
    let place = (a.maps - 1) * 16 + a.edges in
    record { maps = a.maps; edges = a.edges + 1; targets = a.targets; starts = set a.starts place at; lengths = set a.lengths place 0 }

-- one step more of the last path
unfoldable pub stepped : MapArrays → MapArrays
stepped a =
    let place = (a.maps - 1) * 16 + (a.edges - 1) in
    record { maps = a.maps; edges = a.edges; targets = a.targets; starts = a.starts; lengths = set a.lengths place (get_or a.lengths place 0 + 1) }

-- what the arrays are after the command at an offset
unfoldable pub puts : MapArrays → ℕ → EmbeddingCommand → MapArrays
puts a at (maps_to t) = mapped a t
puts a at path = begun a at
puts a at (step p) = stepped a
puts a at embedding_end = a
puts a at alien_e = a

-- the array has as many numbers as before, and its sections are what the command at an offset makes of them
pub record MapPut (p : Place) (map : List ℕ) (at : ℕ) (c : EmbeddingCommand) (r : Place) (after : List ℕ) : Type 0 where
  pub same_size : length after ≡ length map
  pub put_there : loaded_at r after ≡ puts (loaded_at p map) at c

-- ---- room for a command

-- there is room for one map more
pub record TypeMayFollow (a : MapArrays) : Type 0 where
  pub room : a.maps < 64

-- there is a type, with room for one path more, at an offset that fits its entry
pub record PathMayBegin (a : MapArrays) (at : ℕ) : Type 0 where
  pub some : 0 < a.maps
  pub few : a.maps ≤ 64
  pub room : a.edges < 16
  pub fits : at < 60000

-- there is a path, with room for one step more
pub record StepMayFollow (a : MapArrays) : Type 0 where
  pub some : 0 < a.maps
  pub few : a.maps ≤ 64
  pub some_edge : 0 < a.edges
  pub few_edges : a.edges ≤ 16
  pub room : get_or a.lengths ((a.maps - 1) * 16 + (a.edges - 1)) 0 < 12

abbrev pub MapRoom : MapArrays → ℕ → EmbeddingCommand → Type 0
MapRoom a at (maps_to t) = TypeMayFollow a
MapRoom a at path = PathMayBegin a at
MapRoom a at (step p) = StepMayFollow a
MapRoom a at embedding_end = Unit {0}
MapRoom a at alien_e = Unit {0}

-- ---- what is loaded

-- a loaded embedding, with its document, stands for the embedding of S that the document writes, within bounds
pub record EmbeddingLoaded (bs : List ℕ) (S : Table) (map : List ℕ) : Type 0 where
  pub same_embedding : embedding_by bs S map ≡ embedding_of bs
  pub bounded : PathsBounded bs map
