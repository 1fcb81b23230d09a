-- Prepared templates as arrays: a pool of symbols, places that say where each row stands in it, and the sizes of rows.
use Rattle.std.specs.Prelude.{◌≡◌, List, [], ◌∷◌, map, ℕ, suc, ◌+◌, ◌-◌, ◌*◌, ◌≤◌, ◌<◌, min, length, take, drop, get_or, set, eqb, ltb, Option as Possible, Some, None}
use Rattle.std.proofs.Math.Option.{Option, none, some}
use Rattle.model.specs.Definitions.Basics.{pick}
use Rattle.model.specs.Definitions.Commands.{Need, optional}
use Rattle.model.specs.Definitions.Table.{Table, Kind, text, empty, sequence, choice, list, kind_of}
use Rattle.model.specs.Definitions.Image.{Setting}
use Rattle.model.specs.Definitions.Templates.{Hole, Symbol, opening, closing, filler, hole, characters, child, items, template, item_template, filler_row, divided_of, own_length, own_filler, own_levels, item_length, item_filler, item_levels}

-- ---- symbols as numbers

-- the least numbers of filler elements and of children, and the numbers of the characters, the items and the end of an element
abbrev pub filler_symbol : ℕ
filler_symbol = 64

abbrev pub child_symbol : ℕ
child_symbol = 128

abbrev pub characters_symbol : ℕ
characters_symbol = 144

abbrev pub items_symbol : ℕ
items_symbol = 145

abbrev pub closing_symbol : ℕ
closing_symbol = 146

-- below 64 an element of that type opens, below 128 a filler element of type n - 64, below 144 child n - 128, then the
-- characters, the items, and the end of an element
unfoldable pub symbol_of : ℕ → Symbol
symbol_of n =
    pick (ltb n 64) (opening n)
    (pick (ltb n 128) (filler (n - 64))
    (pick (ltb n 144) (hole (child (n - 128)))
    (pick (eqb n 144) (hole characters)
    (pick (eqb n 145) (hole items)
    closing))))

-- the hole that a symbol's number stands for, and the numbers of holes
unfoldable pub hole_of : ℕ → Hole
hole_of n = pick (ltb n 144) (child (n - 128)) (pick (eqb n 144) characters items)

abbrev pub IsHole : ℕ → Type 0
IsHole n = (128 ≤ n) × (n ≤ 145)

-- the row that stands in a pool from one place up to another
unfoldable pub row_in : List ℕ → ℕ → ℕ → List Symbol
row_in pool from to = map symbol_of (take (to - from) (drop from pool))

-- ---- rows by number: three numbers each, where a row begins and ends, and how many elements are open around it

abbrev pub from_of : List ℕ → ℕ → ℕ
from_of places r = get_or places (3 * r) 0

abbrev pub to_of : List ℕ → ℕ → ℕ
to_of places r = get_or places (3 * r + 1) 0

abbrev pub depth_in : List ℕ → ℕ → ℕ
depth_in places r = get_or places (3 * r + 2) 0

-- three numbers are stored for row r
abbrev pub set_row : List ℕ → ℕ → ℕ → ℕ → ℕ → List ℕ
set_row l r a b c = set (set (set l (3 * r) a) (3 * r + 1) b) (3 * r + 2) c

abbrev pub row_at : List ℕ → List ℕ → ℕ → List Symbol
row_at pool places r = row_in pool (from_of places r) (to_of places r)

-- a number of 32 bits, as a place is held
abbrev pub IsWord : ℕ → Type 0
IsWord n = n < 4294967296

-- the place of t in a list, its length where it is not there
unfoldable pub index_in : ℕ → List ℕ → ℕ
index_in t [] = 0
index_in t (m ∷ ms) = pick (eqb t m) 0 (suc (index_in t ms))

-- the type of the first child of an element, if it has one, as the code holds it
abbrev pub first_from : Possible ℕ → Option ℕ
first_from None = none
first_from (Some t) = some t

-- the place of a choice's member among them; where there is none, the place behind them
unfoldable pub member_index : Option ℕ → List ℕ → ℕ
member_index none ms = length ms
member_index (some t) ms = index_in t ms

-- which row of its type an element takes whose first child, if it has one, has type t: a choice has one for each member, and behind
-- them one for nothing
unfoldable pub row_index : Kind → Option ℕ → ℕ
row_index text t = 0
row_index empty t = 0
row_index (sequence ms) t = 0
row_index (choice need ms) t = member_index t ms
row_index (list m) t = 0

-- rows of a source type
abbrev pub type_rows : ℕ
type_rows = 17

-- row τ is what filler of target type τ holds; 17 rows for each source type follow: row j of type s, and how many are before type s
abbrev pub type_row : ℕ → ℕ → ℕ
type_row s j = 64 + (s * 17 + j)

abbrev pub rows_before : ℕ → ℕ
rows_before s = 64 + s * 17

unfoldable pub source_row : Table → ℕ → Option ℕ → ℕ
source_row S s t = type_row s (row_index (kind_of S s) t)

-- the last of a list's is what stands around an item
unfoldable pub item_row : ℕ → ℕ
item_row s = type_row s 16

-- a list has the three numbers of row r, and those of all rows of so many source types
abbrev pub HasRow : List ℕ → ℕ → Type 0
HasRow l r = 3 * r + 2 < length l

abbrev pub HasRows : List ℕ → ℕ → Type 0
HasRows l types = 3 * rows_before types ≤ length l

-- t can be the type of the first child of an element of this kind: for a choice it is a member, or none where none is needed
pub data FirstChild : Option ℕ → Kind → Type 0 where
  of_text : {t : Option ℕ} → FirstChild t text
  of_empty : {t : Option ℕ} → FirstChild t empty
  of_sequence : {t : Option ℕ} {ms : List ℕ} → FirstChild t (sequence ms)
  of_choice : {t : ℕ} {need : Need} {ms : List ℕ} → index_in t ms < length ms → FirstChild (some t) (choice need ms)
  of_nothing : {ms : List ℕ} → FirstChild none (choice optional ms)
  of_list : {t : Option ℕ} {m : ℕ} → FirstChild t (list m)

-- the pool and the places hold the templates of a setting
pub record Rows (X : Setting) (pool places : List ℕ) : Type 0 where
  pub long : HasRows places (length X.source)
  pub within : (r : ℕ) → to_of places r ≤ length pool
  pub filler_at : (τ : ℕ) → τ < length X.target → row_at pool places τ ≡ filler_row X.target τ
  pub template_at : (s : ℕ) (t : Option ℕ) → s < length X.source → FirstChild t (kind_of X.source s) → row_at pool places (source_row X.source s t) ≡ template X s t
  pub item_at : (s m : ℕ) → s < length X.source → kind_of X.source s ≡ list m → row_at pool places (item_row s) ≡ item_template X s
  pub own_depth : (s : ℕ) (t : Option ℕ) → s < length X.source → FirstChild t (kind_of X.source s) → depth_in places (source_row X.source s t) ≡ 0
  pub item_depth : (s m : ℕ) → s < length X.source → kind_of X.source s ≡ list m → depth_in places (item_row s) ≡ length (divided_of X s).before

-- ---- sizes of rows: three numbers each, levels, bytes and bytes of filler, held at 60,001

abbrev pub levels_in : List ℕ → ℕ → ℕ
levels_in sizes r = get_or sizes (3 * r) 0

abbrev pub bytes_in : List ℕ → ℕ → ℕ
bytes_in sizes r = get_or sizes (3 * r + 1) 0

abbrev pub filler_in : List ℕ → ℕ → ℕ
filler_in sizes r = get_or sizes (3 * r + 2) 0

-- the three numbers of one row
pub record SizeAt (sizes : List ℕ) (r levels bytes fill : ℕ) : Type 0 where
  pub levels_are : levels_in sizes r ≡ min 60001 levels
  pub bytes_are : bytes_in sizes r ≡ min 60001 bytes
  pub filler_is : filler_in sizes r ≡ min 60001 fill

-- the sizes of the templates of a setting
pub record Sizes (X : Setting) (sizes : List ℕ) : Type 0 where
  pub long : HasRows sizes (length X.source)
  pub own_size : (s : ℕ) (t : Option ℕ) → s < length X.source → FirstChild t (kind_of X.source s)
      → SizeAt sizes (source_row X.source s t) (own_levels X s t) (own_length X s t) (own_filler X s t)
  pub item_size : (s m : ℕ) → s < length X.source → kind_of X.source s ≡ list m → SizeAt sizes (item_row s) (item_levels X s) (item_length X s) (item_filler X s)
