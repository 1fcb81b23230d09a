-- What the contracts of this crate say: arrays that hold a table's filler lengths.
use Rattle.std.specs.Prelude.{◌≡◌, Bool, false, List, [], ◌∷◌, ℕ, ◌+◌, ◌≤◌, ◌<◌, min, length, get_or}
use Rattle.loaded_table.specs.Loaded.{fill_of, table_by}
use Rattle.model.specs.Definitions.Table.{Table, kind_of}
use Rattle.model.specs.Definitions.Heights.{height_of}
use Rattle.model.specs.Definitions.Filler.{filler_length}
use Rattle.model.proofs.Theorems.Facts.{SoundTable}
use Rattle.model.proofs.Theorems.FillerLaws.{filled}
use Rattle.table_heights.specs.Sections.{Elsewhere}

-- an array holds the byte lengths of a table's filler elements, held at 60,001
pub record HoldsFill (T : Table) (fill : List ℕ) : Type 0 where
  pub fill_at_lem : (t : ℕ) → t < length T → get_or fill t 0 ≡ min 60001 (filler_length T t)

-- it holds those of the types of height at most n
abbrev pub FillTo : Table → ℕ → List ℕ → Type 0
FillTo T n fill = (t : ℕ) → t < length T → height_of T t ≤ n → get_or fill t 0 ≡ min 60001 (filler_length T t)

-- the byte length of members together, by the lengths in an array
unfoldable pub fill_sum : List ℕ → List ℕ → ℕ
fill_sum fill [] = 0
fill_sum fill (m ∷ ms) = get_or fill m 0 + fill_sum fill ms

-- the next length of a type, held at 60,001, by the heights and the lengths in arrays
abbrev pub next_fill : Table → List ℕ → List ℕ → ℕ → ℕ
next_fill T hs fill t = min 60001 (3 + fill_sum fill (filled hs (kind_of T t)))

-- After a round of lengths in place those of one height more are held; where none is said to have changed, all are.
pub record HoldsFillRound (T : Table) (before fill : List ℕ) (changed : Bool) : Type 0 where
  pub higher : (n : ℕ) → FillTo T n before → FillTo T (n + 1) fill
  pub unchanged : changed ≡ false → HoldsFill T fill

-- a loaded table with the filler lengths of a sound table found, and nothing else changed
pub record FillFound (rows after : List ℕ) : Type 0 where
  pub elsewhere : Elsewhere 192 64 rows after
  pub found : SoundTable (table_by rows) → HoldsFill (table_by rows) (fill_of after)
