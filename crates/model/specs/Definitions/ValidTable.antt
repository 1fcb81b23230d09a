-- 01 "Three kinds of document", Table (of the optional choice 02, N3): which tables are valid, to be held against 01's list line by
-- line, and the bytes that write one. `TableChecks` and `Heights` have the checks; that a byte string passes them exactly where it
-- is `table_bytes` of a valid table is a theorem. Limits are 01's numbers, not the names that the checks use: a check with another
-- limit breaks that theorem.
use Rattle.std.specs.Prelude.{◌≡◌, ℕ, ◌≤◌, ◌<◌, length}
use mathlib.Core.List.{List, [], ◌∷◌, ◌++◌, Memᴰ}
use Rattle.std.proofs.Math.Option.{some}
use Rattle.model.specs.Definitions.Basics.{entry}
use Rattle.model.specs.Definitions.Commands.{needed, optional}
use Rattle.model.specs.Definitions.Table.{Kind, text, empty, sequence, choice, list, Table, kind_of}
use Rattle.model.specs.Definitions.Conformance.{Instance}

-- ---- valid tables

-- so many members or more, at most 16, each a type of a table of so many types
pub record ValidMembers (types least : ℕ) (ms : List ℕ) : Type 0 where
  pub enough : least ≤ length ms
  pub at_most_16 : length ms ≤ 16
  pub exist : (m : ℕ) → Memᴰ m ms → m < types

-- types are distinct: none stands at two positions
unfoldable pub Distinct : List ℕ → Type 0
Distinct ms = (p q m : ℕ) → entry p ms ≡ some m → entry q ms ≡ some m → p ≡ q

-- a sequence has one or more members, and a type may recur; a choice two or more, an optional choice one or more, and their
-- types are distinct; a list names a type
unfoldable pub ValidKind : ℕ → Kind → Type 0
ValidKind types text = Unit {0}
ValidKind types empty = Unit {0}
ValidKind types (sequence ms) = ValidMembers types 1 ms
ValidKind types (choice needed ms) = ValidMembers types 2 ms × Distinct ms
ValidKind types (choice optional ms) = ValidMembers types 1 ms × Distinct ms
ValidKind types (list m) = m < types

-- at least one type, at most 64, each of a valid kind and with a finite instance
pub record ValidTable (T : Table) : Type 0 where
  pub has_type : 1 ≤ length T
  pub at_most_64 : length T ≤ 64
  pub valid_kinds : (t : ℕ) → t < length T → ValidKind (length T) (kind_of T t)
  pub instances : (t : ℕ) → t < length T → Instance T t

-- ---- the bytes of a table

-- 15 t, for each member
unfoldable pub member_bytes : List ℕ → List ℕ
member_bytes [] = []
member_bytes (m ∷ ms) = 0x15 ∷ m ∷ member_bytes ms

-- 10 text, 11 empty, 12 sequence, 13 choice, 17 optional choice, each with its members behind it; 14 t list
unfoldable pub kind_bytes : Kind → List ℕ
kind_bytes text = 0x10 ∷ []
kind_bytes empty = 0x11 ∷ []
kind_bytes (sequence ms) = 0x12 ∷ member_bytes ms
kind_bytes (choice needed ms) = 0x13 ∷ member_bytes ms
kind_bytes (choice optional ms) = 0x17 ∷ member_bytes ms
kind_bytes (list m) = 0x14 ∷ m ∷ []

-- the types in order; 1F ends the table
unfoldable pub table_bytes : Table → List ℕ
table_bytes [] = 0x1F ∷ []
table_bytes (κ ∷ T) = kind_bytes κ ++ table_bytes T
