-- Sizes of rows from the numbers that a loaded target table keeps.
use Rattle.std.specs.Prelude.{◌≡◌, List, ◌∷◌, ℕ, ◌+◌, ◌≤◌, ◌<◌, min, max, length, get_or}
use Rattle.std.proofs.Math.Option.{Option}
use Rattle.model.specs.Definitions.Table.{kind_of}
use Rattle.model.specs.Definitions.Templates.{Symbol, row_length, row_levels, row_filler}
use Rattle.loaded_table.specs.Loaded.{heights_of, fill_of, table_by}
use Rattle.rows.specs.declared.Size.{Size}
use Rattle.rows.specs.Rows.{symbol_of, depth_in, row_at, SizeAt, FirstChild, source_row, item_row}
use Rattle.row_sizes.specs.declared.Sums.{Sums}

-- the height and the filler length that are kept of a type
abbrev pub height_at : List ℕ → ℕ → ℕ
height_at target t = get_or (heights_of target) t 0

abbrev pub fill_at : List ℕ → ℕ → ℕ
fill_at target t = get_or (fill_of target) t 0

-- sums within bounds
pub record Small (s : Sums) : Type 0 where
  pub depth : s.depth < 18446744073709000000
  pub levels : s.levels ≤ 60001
  pub bytes : s.bytes ≤ 60001
  pub filler : s.filler ≤ 60001

-- sums with one symbol more: with what follows they come to the same
pub record AddsSymbol (target : List ℕ) (n : ℕ) (s r : Sums) : Type 0 where
  pub depth : r.depth ≤ s.depth + 1
  pub high : (r.levels ≤ 60001) × (r.bytes ≤ 60001) × (r.filler ≤ 60001)
  pub levels : (rest : List Symbol) → min 60001 (max r.levels (row_levels (height_at target) r.depth rest)) ≡ min 60001 (max s.levels (row_levels (height_at target) s.depth (symbol_of n ∷ rest)))
  pub bytes : (rest : List Symbol) → min 60001 (r.bytes + row_length (fill_at target) rest) ≡ min 60001 (s.bytes + row_length (fill_at target) (symbol_of n ∷ rest))
  pub filler : (rest : List Symbol) → min 60001 (r.filler + row_filler (fill_at target) rest) ≡ min 60001 (s.filler + row_filler (fill_at target) (symbol_of n ∷ rest))

-- the size of a row, `depth` elements being open around it
pub record Measures (target : List ℕ) (row : List Symbol) (depth : ℕ) (r : Size) : Type 0 where
  pub levels : r.levels ≡ min 60001 (row_levels (height_at target) depth row)
  pub bytes : r.bytes ≡ min 60001 (row_length (fill_at target) row)
  pub filler : r.filler ≡ min 60001 (row_filler (fill_at target) row)

-- the size of row r is stored
pub record Sized (target pool places sizes : List ℕ) (r : ℕ) : Type 0 where
  pub at : SizeAt sizes r (row_levels (height_at target) (depth_in places r) (row_at pool places r)) (row_length (fill_at target) (row_at pool places r)) (row_filler (fill_at target) (row_at pool places r))

-- what is stored stays
pub record Keeps (target pool places before after : List ℕ) : Type 0 where
  pub long : length after ≡ length before
  pub kept : (r : ℕ) → Sized target pool places before r → Sized target pool places after r

-- the sizes of the rows of source type s are stored
pub record TypeSized (source target pool places sizes : List ℕ) (s : ℕ) : Type 0 where
  pub own : (t : Option ℕ) → FirstChild t (kind_of (table_by source) s) → Sized target pool places sizes (source_row (table_by source) s t)
  pub item : Sized target pool places sizes (item_row s)
