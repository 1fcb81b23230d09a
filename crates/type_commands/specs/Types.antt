-- What the contracts of this crate say: the type that its own commands write, and the places of a type that holds it.
use Rattle.std.specs.Prelude.{◌≡◌, Bool, List, ℕ, ◌+◌, ◌*◌, ◌≤◌, ◌<◌, length, get_or, drop, eqb}
use Rattle.std.proofs.Math.Option.{Option, none, some}
use Rattle.model.specs.Definitions.Basics.{pick, is_there, and_then}
use Rattle.model.specs.Definitions.Table.{Kind, empty}
use Rattle.model.specs.Definitions.Operations.{members_written, with_at_least, type_in}
use Rattle.loaded_table.specs.Loaded.{counts_of}
use Rattle.loaded_table.specs.Places.{kind_at, SameButFor}

-- ---- commands

-- whether bytes are exactly one type's own commands
abbrev pub is_one_type : List ℕ → Bool
is_one_type cs = is_there (type_in cs)

-- the type that they write, where they are
abbrev pub or_empty : Option Kind → Kind
or_empty none = empty
or_empty (some κ) = κ

abbrev pub type_written : List ℕ → Kind
type_written cs = or_empty (type_in cs)

-- whether there are so many members or more behind the first byte, whatever kind of type begins there
abbrev pub MembersThere : ℕ → List ℕ → Bool → Type 0
MembersThere least cs b = (kind : List ℕ → Kind) → b ≡ is_there (and_then (members_written (drop 1 cs)) (with_at_least least kind))

-- the code of the kind that a byte begins; what begins none is taken for a list's
unfoldable pub code_begun : ℕ → ℕ
code_begun b =
    pick (eqb b 0x10) 0
    (pick (eqb b 0x11) 1
    (pick (eqb b 0x12) 2
    (pick (eqb b 0x13) 3
    (pick (eqb b 0x17) 4
    5))))

-- the offset of its first operand
unfoldable pub first_operand : ℕ → ℕ
first_operand b = pick (eqb b 0x14) 1 2

-- ---- places

-- in the places of type t its members are stored, so many
pub record OperandsPut (t : ℕ) (ms rows after : List ℕ) : Type 0 where
  pub same : SameButFor t rows after
  pub kind_kept : get_or after t 0 ≡ get_or rows t 0
  pub many : get_or after (64 + t) 0 ≡ length ms
  pub each : (i : ℕ) → i < length ms → get_or after (256 + (t * 16 + i)) 0 ≡ get_or ms i 0

-- in the places of type t a type is stored
pub record TypePut (t : ℕ) (κ : Kind) (rows after : List ℕ) : Type 0 where
  pub same : SameButFor t rows after
  pub stored : kind_at after t ≡ κ
  pub few : get_or (counts_of after) t 0 ≤ 16
