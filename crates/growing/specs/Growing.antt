-- Paths with holes as arrays, the placements of the model that they stand for, and rows written into a pool.
use Rattle.std.specs.Prelude.{◌≡◌, List, [], ◌∷◌, map, ℕ, zero, suc, ◌+◌, ◌*◌, ◌≤◌, ◌<◌, length, get_or, set, replicate}
use Rattle.std.proofs.lemmas.List.Edits.{sets}
use Rattle.model.specs.Definitions.Filler.{fillers}
use Rattle.model.specs.Definitions.Image.{Placement, placed, is_placed, grow}
use Rattle.model.specs.Definitions.Refusals.{max_length}
use Rattle.model.specs.Definitions.Templates.{Shape, bare, gap, framed, shaped, Symbol, row_of}
use Rattle.model.proofs.Theorems.Facts.{WellFormed, Fits}
use Rattle.loaded_table.specs.Loaded.{Bounded, table_by, types_in, kinds_of, counts_of, sequence_kind}
use Rattle.loaded_embedding.specs.Loaded.{steps_from}
use Rattle.rows.specs.Rows.{symbol_of, hole_of, IsHole}
use Rattle.growing.specs.declared.Edges.{Edges}
use Rattle.std.specs.declared.ops.Range.{Range}

-- ---- paths

-- the first of some steps, 0 where there are none
unfoldable pub first_of : List ℕ → ℕ
first_of [] = 0
first_of (p ∷ ps) = p

-- what stands along one path
unfoldable pub placement_of : List ℕ → ℕ → ℕ → ℕ → Placement Shape
placement_of em next left hole = placed (steps_from em next left) (gap (hole_of hole))

-- what stands along n paths, from path j on
unfoldable pub placements_from : List ℕ → List ℕ → List ℕ → List ℕ → ℕ → ℕ → List (Placement Shape)
placements_from em next left hole j zero = []
placements_from em next left hole j (suc n) =
    placement_of em (get_or next j 0) (get_or left j 0) (get_or hole j 0) ∷ placements_from em next left hole (suc j) n

abbrev pub placements_of : List ℕ → Edges → List (Placement Shape)
placements_of em e = placements_from em e.next e.left e.hole 0 e.count

unfoldable pub no_edges : Edges
no_edges = record { count = 0; next = replicate 16 0; left = replicate 16 0; hole = replicate 16 0 }

-- one path more, behind the others
unfoldable pub push : Edges → ℕ → ℕ → ℕ → Edges
push e next left hole =
    record { count = e.count + 1; next = set e.next e.count next; left = set e.left e.count left; hole = set e.hole e.count hole }

-- the paths stand in the document, and lead to holes
pub record PathsReadable (em : List ℕ) (e : Edges) : Type 0 where
  pub few : e.count ≤ 16
  pub next_places : length e.next ≡ 16
  pub left_places : length e.left ≡ 16
  pub hole_places : length e.hole ≡ 16
  pub within : (j : ℕ) → j < e.count → get_or e.next j 0 + 2 * get_or e.left j 0 ≤ length em + 1
  pub is_hole : (j : ℕ) → j < e.count → IsHole (get_or e.hole j 0)

-- ---- rows

-- a row is written at place `at`, and `next` is the place after it
pub record Puts (old new : List ℕ) (at : ℕ) (row : List Symbol) (next : ℕ) : Type 0 where
  pub numbers : List ℕ
  pub written : new ≡ sets old at numbers
  pub after : next ≡ at + length numbers
  pub means : map symbol_of numbers ≡ row

-- all members of a sequence, else the one that step q names
pub record MemberRange (target : List ℕ) (t q : ℕ) (r : Range ℕ) : Type 0 where
  pub of_sequence : get_or (kinds_of target) t 0 ≡ sequence_kind → (r.start ≡ 1) × (r.end ≡ get_or (counts_of target) t 0 + 1)
  pub of_other : (get_or (kinds_of target) t 0 ≡ sequence_kind → ⊥) → (r.start ≡ q) × (r.end ≡ q + 1)

-- ---- elements

-- one more than the steps that a path has at most
abbrev pub step_bound : ℕ
step_bound = 13

-- below an element of target type t there is a place for what stands along the paths, none in another's way; no path has n steps,
-- and their document is not too long
pub record Task (target em : List ℕ) (e : Edges) (n t : ℕ) : Type 0 where
  pub bounded : Bounded target
  pub well_formed : WellFormed (table_by target)
  pub is_type : t < types_in target
  pub short : length em ≤ max_length
  pub paths : PathsReadable em e
  pub fits : Fits (table_by target) n t (placements_of em e)

-- the row of an element of type t with what stands along the paths below it; filler where there is no path
unfoldable pub element_row : List ℕ → List ℕ → Edges → ℕ → ℕ → List Symbol
element_row target em e n t =
    row_of (framed (is_placed (placements_of em e)) t (grow shaped (table_by target) (fillers shaped (table_by target)) n t (placements_of em e)) bare)
