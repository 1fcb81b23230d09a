-- What the contracts of this crate say: loaded tables, what the checks of a new type and what is kept with it, and what each operation of
-- 02, N8 answers and leaves.
use Rattle.std.specs.Prelude.{◌≡◌, ⊤, Result, Ok, Err, Bool, true, false, List, ◌⊎◌, ℕ, ◌+◌, ◌≤◌, ◌<◌, ◌/◌, length, get_or}
use Rattle.answers.specs.Answers.{refusal, counted_result}
use Rattle.answers.specs.declared.Refusal.{Refusal}
use Rattle.loaded_table.specs.Loaded.{types_in, counts_of, heights_of, fill_of, table_by, Bounded, Kept, Stands}
use Rattle.model.specs.Definitions.Basics.{passes, member_of}
use Rattle.model.specs.Definitions.Commands.{Need, optional}
use Rattle.model.specs.Definitions.Table.{Table, choice, is_choice, kind_of}
use Rattle.model.specs.Definitions.Heights.{height_of, heights, lowest}
use Rattle.model.specs.Definitions.TableChecks.{table_operands, table_repeats}
use Rattle.model.specs.Definitions.ValidTable.{ValidTable}
use Rattle.model.specs.Definitions.Entries.{refused}
use Rattle.model.specs.Definitions.Operations.{kept_length, Operation, operate, type_appended}
use Rattle.model.proofs.Theorems.Facts.{WellFormed, SoundTable}
use Rattle.table_heights.specs.Sections.{members_at, Elsewhere}
use Rattle.type_commands.specs.Types.{is_one_type}

-- ---- loaded tables

-- an array stands for a valid table, with its height and its filler's length kept true for each type
pub record Loaded (rows : List ℕ) (T : Table) : Type 0 where
  pub stands : Stands rows T
  pub valid : ValidTable T

-- the table that it stands for is the one that it holds
abbrev pub IsLoaded : List ℕ → Type 0
IsLoaded rows = Loaded rows (table_by rows)

-- what an operation answers; where it is done, the array holds the table then
pub record Grown (o : Operation) (rows : List ℕ) (r : Result ℕ Refusal) (after : List ℕ) : Type 0 where
  pub answer : counted_result r ≡ (operate (table_by rows) o).result
  pub done : (n : ℕ) → r ≡ Ok n → Loaded after (operate (table_by rows) o).table

-- ---- a type

-- the type that its own commands write passes checks 2 to 5 behind so many types
pub record TypeFits (all : ℕ) (cs : List ℕ) : Type 0 where
  pub one : is_one_type cs ≡ true
  pub few : all < 64
  pub short : length cs / 2 ≤ 16
  pub known : table_operands (all + 1) cs ≡ passes
  pub distinct : table_repeats cs ≡ passes

-- it does, or this is why it can't be appended to any valid table of so many types
abbrev pub TypeChecked : ℕ → List ℕ → Result ⊤ Refusal → Type 0
TypeChecked all cs (Ok done) = TypeFits all cs
TypeChecked all cs (Err why) = (T : Table) → ValidTable T → length T ≡ all → (type_appended T cs).result ≡ refused (refusal why)

-- what is kept is right for all types but the last, t; of filler lengths where the table is sound
pub record KeptBefore (rows : List ℕ) (t : ℕ) : Type 0 where
  pub bounded : Bounded rows
  pub last : types_in rows ≡ t + 1
  pub well_formed : WellFormed (table_by rows)
  pub older_height : (s : ℕ) → s < t → get_or (heights_of rows) s 0 ≡ height_of (table_by rows) s
  pub none_beyond : (s : ℕ) → t < s → get_or (heights_of rows) s 0 ≡ 0
  pub older_fill : SoundTable (table_by rows) → (s : ℕ) → s < t → get_or (fill_of rows) s 0 ≡ kept_length (table_by rows) s
  pub older_finite : (s : ℕ) → s < t → height_of (table_by rows) s ≤ t

-- then for all of them, if the last one has a finite instance
pub record LastKept (rows : List ℕ) (t : ℕ) (finite : Bool) (after : List ℕ) : Type 0 where
  pub elsewhere : Elsewhere 128 128 rows after
  pub endless : finite ≡ false → t + 1 < height_of (table_by rows) t
  pub low : finite ≡ true → height_of (table_by rows) t ≤ t + 1
  pub kept : finite ≡ true → Kept after (table_by rows)

-- ---- a member

-- type t is a choice of either kind with room for member m, which it doesn't name yet
pub record MayJoin (rows : List ℕ) (t m : ℕ) : Type 0 where
  pub loaded : IsLoaded rows
  pub chooses : is_choice (kind_of (table_by rows) t) ≡ true
  pub exists : t < types_in rows
  pub room : get_or (counts_of rows) t 0 < 16
  pub known : m < types_in rows
  pub new : member_of m (members_at rows t) ≡ false

-- where no number is said to move, the choice may hold nothing, or the member is not lower than all it has
abbrev pub StaysUnless : List ℕ → ℕ → ℕ → Bool → Type 0
StaysUnless rows t m moves =
    (need : Need) → kind_of (table_by rows) t ≡ choice need (members_at rows t) → moves ≡ false
    → (need ≡ optional) ⊎ (lowest (heights (table_by rows)) (members_at rows t) ≤ height_of (table_by rows) m)
