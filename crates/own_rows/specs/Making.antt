-- Edges of a source type as paths with holes, and the row of what they stand in.
use Rattle.std.specs.Prelude.{◌≡◌, List, [], ◌∷◌, ℕ, zero, suc, ◌+◌, ◌*◌, ◌≤◌, ◌<◌, get_or}
use Rattle.std.proofs.Common.{arith}
use Rattle.model.specs.Definitions.Filler.{fillers}
use Rattle.model.specs.Definitions.Image.{Placement, place}
use Rattle.model.specs.Definitions.Templates.{Shape, shaped, Symbol, row_of}
use Rattle.loaded_table.specs.Loaded.{table_by, kinds_of, counts_of, text_kind, empty_kind, sequence_kind}
use Rattle.loaded_embedding.specs.Loaded.{starts_of, lengths_of, PathsBounded}
use Rattle.growing.specs.declared.Edges.{Edges}
use Rattle.growing.specs.Growing.{placement_of, placements_of, PathsReadable}
use Rattle.rows.specs.Rows.{child_symbol, characters_symbol}

-- an edge has few steps, and the place of the first is a small number
abbrev pub EdgeSmall : List ℕ → ℕ → Type 0
EdgeSmall map i = (get_or (lengths_of map) i 0 ≤ 12) × (get_or (starts_of map) i 0 + 2 < 65536)

pub edges_small : {em map : List ℕ} → PathsBounded em map → (i : ℕ) → EdgeSmall map i
edges_small paths i = (paths.short i, omega (arith, paths.within i, paths.document_short))

-- what stands along the paths of n edges from a place on, the holes having the numbers from h on
unfoldable pub edge_placements : List ℕ → List ℕ → ℕ → ℕ → ℕ → List (Placement Shape)
edge_placements em map i h zero = []
edge_placements em map i h (suc n) = placement_of em (get_or (starts_of map) i 0 + 2) (get_or (lengths_of map) i 0) h ∷ edge_placements em map (suc i) (suc h) n

-- these are the paths, in every document within which they stand
pub record EdgesFrom (map : List ℕ) (first hole count : ℕ) (r : Edges) : Type 0 where
  pub many : r.count ≡ count
  pub readable : (em : List ℕ) → PathsBounded em map → PathsReadable em r
  pub placements : (em : List ℕ) → PathsBounded em map → placements_of em r ≡ edge_placements em map first hole count

-- the paths of a source type that is a text, empty or a sequence
pub record OwnEdges (source map : List ℕ) (s : ℕ) (r : Edges) : Type 0 where
  pub of_text : get_or (kinds_of source) s 0 ≡ text_kind → EdgesFrom map (s * 16) characters_symbol 1 r
  pub of_empty : get_or (kinds_of source) s 0 ≡ empty_kind → EdgesFrom map (s * 16) child_symbol 0 r
  pub of_sequence : get_or (kinds_of source) s 0 ≡ sequence_kind → EdgesFrom map (s * 16) child_symbol (get_or (counts_of source) s 0) r

-- the row of what an element of type t holds
unfoldable pub held_row : List ℕ → List ℕ → Edges → ℕ → List Symbol
held_row target em e t = row_of (place shaped (table_by target) (fillers shaped (table_by target)) t (placements_of em e))
