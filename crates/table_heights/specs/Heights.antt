-- What the contracts of this crate say: arrays that hold a table's heights, and the sets of bits.
use Rattle.std.specs.Prelude.{◌≡◌, Bool, true, false, List, [], ◌∷◌, map, ℕ, zero, suc, ◌+◌, ◌*◌, ◌≤◌, min, length, get_or, set, leb, ltb}
use Rattle.loaded_table.specs.Loaded.{heights_of, table_by}
use Rattle.model.specs.Definitions.Basics.{pick}
use Rattle.model.specs.Definitions.Table.{Table, kind_of}
use Rattle.model.specs.Definitions.Heights.{height_in, height_of_kind, heights}
use Rattle.table_heights.specs.Sections.{Elsewhere}

-- ---- heights

-- an array holds the heights of a table's types, and 0 from the number of types on
pub record HoldsHeights (T : Table) (hs : List ℕ) : Type 0 where
  pub height_at_lem : (t : ℕ) → get_or hs t 0 ≡ height_in (heights T) t

-- the next height of a type, held at one more than the number of types
abbrev pub next_height : Table → List ℕ → ℕ → ℕ
next_height T hs t = min (length T + 1) (height_of_kind hs (kind_of T t))

-- numbers that are nowhere below a table's heights, held as these are, and 0 from the number of types on
pub record NowhereBelow (T : Table) (hs : List ℕ) : Type 0 where
  pub at_least : (t : ℕ) → height_in (heights T) t ≤ get_or hs t 0
  pub held : (t : ℕ) → get_or hs t 0 ≤ length T + 1
  pub none_beyond : (t : ℕ) → length T ≤ t → get_or hs t 0 ≡ 0

-- the number with which rounds begin for a type of so many
unfoldable pub first_height : ℕ → ℕ → ℕ
first_height all t = pick (ltb t all) (all + 1) 0

-- the heights after those of the types below a number are found anew, from the last to the first
unfoldable pub raised : Table → ℕ → List ℕ → List ℕ
raised T zero hs = hs
raised T (suc t) hs = raised T t (set hs t (next_height T hs t))

-- after a round of heights in place; where none is said to have changed, none has
pub record HoldsRound (T : Table) (before hs : List ℕ) (changed : Bool) : Type 0 where
  pub round : hs ≡ raised T (length T) before
  pub unchanged : changed ≡ false → hs ≡ before

-- a loaded table with its heights found, and nothing else changed
pub record HeightsFound (rows after : List ℕ) : Type 0 where
  pub elsewhere : Elsewhere 128 64 rows after
  pub found : HoldsHeights (table_by rows) (heights_of after)

-- ---- sets of types as bits

-- a test as a bit
abbrev pub bit : Bool → ℕ
bit true = 1
bit false = 0

-- the value of a list of bits, the lowest first
unfoldable pub word : List Bool → ℕ
word [] = 0
word (b ∷ bs) = bit b + 2 * word bs

-- a bit for each height: whether it is at most the number of types
unfoldable pub finite_bits : ℕ → List ℕ → List Bool
finite_bits types hs = map (λ h. leb h types) hs
