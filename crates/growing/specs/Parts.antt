-- The row of an element, in parts.
use Rattle.std.specs.Prelude.{◌≡◌, get_or}
use Rattle.std.proofs.Math.Path.{refl}
use mathlib.Core.List.{List, [], ◌∷◌, ◌++◌}
use Prim.Native.Nat.{ℕ, suc, ◌-◌, ◌<◌}
use native.Mathlib.Omega.{arith}
use Rattle.model.specs.Definitions.Table.{Table}
use Rattle.model.specs.Definitions.Filler.{fillers}
use Rattle.model.specs.Definitions.Image.{Placement, is_placed, grow}
use Rattle.model.specs.Definitions.Templates.{Shape, bare, framed, shaped, Symbol, opening, closing, filler, row_of}
use Rattle.model.proofs.Theorems.Facts.{Fits, nothing_placed, right_here, below_sequence, below_choice, below_list}
use Rattle.loaded_table.specs.Loaded.{table_by}
use Rattle.growing.specs.declared.Edges.{Edges}
use Rattle.growing.specs.Growing.{placement_of, placements_from, placements_of, element_row}

-- no path is too long
pub fits_positive : {T : Table} {n t : ℕ} {ps : List (Placement Shape)} → Fits T n t ps → 0 < n
fits_positive nothing_placed = omega arith
fits_positive right_here = omega arith
fits_positive (below_sequence ms kind starts fits) = omega arith
fits_positive (below_choice need ms kind step starts fits) = omega arith
fits_positive (below_list m kind starts fits) = omega arith

module _ (target em : List ℕ) (e : Edges) (n t : ℕ) where
  abbrev T : Table
  T = table_by target

  abbrev ps : List (Placement Shape)
  ps = placements_of em e

  -- what the element holds
  abbrev pub held : List Symbol
  held = row_of (grow shaped T (fillers shaped T) n t ps)

  -- without paths it is filler
  pub row_none : e.count ≡ 0 → element_row target em e n t ≡ filler t ∷ []
  unfolding element_row row_of is_placed placements_from
  row_none none = rw none refl

  module _ (some : e.count ≡ 0 → ⊥) where
    abbrev next : ℕ
    next = get_or e.next 0 0

    abbrev left : ℕ
    left = get_or e.left 0 0

    abbrev goal : ℕ
    goal = get_or e.hole 0 0

    abbrev others : List (Placement Shape)
    others = placements_from em e.next e.left e.hole 1 (e.count - 1)

    pub first_path_lem : ps ≡ placement_of em next left goal ∷ others
    unfolding placements_from
    first_path_lem = let more : e.count ≡ suc (e.count - 1) = omega arith in go e.count more
      where
        go : (c : ℕ) → c ≡ suc (e.count - 1) → placements_from em e.next e.left e.hole 0 c ≡ placement_of em next left goal ∷ others
        go c is = rw is refl

    pub row-built : element_row target em e n t ≡ opening t ∷ (held ++ closing ∷ [])
    unfolding element_row row_of is_placed
    row-built = go ps first_path_lem
      where
        go : (qs : List (Placement Shape)) → qs ≡ placement_of em next left goal ∷ others → row_of (framed (is_placed qs) t (grow shaped T (fillers shaped T) n t qs) bare) ≡ opening t ∷ (row_of (grow shaped T (fillers shaped T) n t qs) ++ closing ∷ [])
        go qs is = rw is refl
