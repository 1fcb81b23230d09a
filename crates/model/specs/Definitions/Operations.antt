-- 02, N8 "Tables that keep their sums": what is kept with each type of a loaded table, and the two operations on one, append a type and
-- append a member to a choice of either kind. What an operation would give is judged as if it were written, by checks 2 to 6.
use Rattle.std.specs.Prelude.{◌≡◌, Bool, true, false, List, [], ◌∷◌, ◌++◌, ℕ, min, length, set, eqb, leb}
use Rattle.std.proofs.Math.Option.{Option, none, some}
use Rattle.model.specs.Definitions.Basics.{pick, and_then}
use Rattle.model.specs.Definitions.Commands.{Need, needed, optional}
use Rattle.model.specs.Definitions.Table.{Kind, text, empty, sequence, choice, list, Table, kind_of, is_choice}
use Rattle.model.specs.Definitions.Filler.{filler_length}
use Rattle.model.specs.Definitions.ValidTable.{table_bytes}
use Rattle.model.specs.Definitions.Refusals.{Fault, too_long, bad_form, over_limit, bad_operand, repeated_member, no_finite_instance, root_moved, wrong_end, wrong_steps, path_clash, unexpected, source_table, Refusal, faulty, no_choice, Judged, sound, has}
use Rattle.model.specs.Definitions.Entries.{Result, refused, accepted, checked_table}

-- ---- what is kept

-- the byte length of a type's filler element, held at 60,001; beside it the type's height is kept
unfoldable pub kept_length : Table → ℕ → ℕ
kept_length T t = min 60001 (filler_length T t)

-- ---- one type's own commands

-- the members that commands 15 t write, where there is nothing else
unfoldable pub members_written : List ℕ → Option (List ℕ)
members_written [] = some []
members_written (b ∷ []) = none
members_written (b ∷ m ∷ rest) =
    let later = members_written rest in
    pick (eqb b 0x15) (and_then later (λ ms. some (m ∷ ms))) none

-- a type of so many members or more
unfoldable pub with_at_least : ℕ → (List ℕ → Kind) → List ℕ → Option Kind
with_at_least least kind ms = pick (leb least (length ms)) (some (kind ms)) none

unfoldable pub where_none : Kind → List ℕ → Option Kind
where_none κ [] = some κ
where_none κ (b ∷ rest) = none

unfoldable pub where_one : List ℕ → Option Kind
where_one [] = none
where_one (m ∷ []) = some (list m)
where_one (m ∷ b ∷ rest) = none

-- the type that bytes write, where they are exactly one type's own commands: 10, 11, 14 t, or 12, 13 or 17 with one member or more, of
-- a choice two
unfoldable pub type_in : List ℕ → Option Kind
type_in [] = none
type_in (b ∷ rest) =
    pick (eqb b 0x10) (where_none text rest)
    (pick (eqb b 0x11) (where_none empty rest)
    (pick (eqb b 0x14) (where_one rest)
    (pick (eqb b 0x12) (and_then (members_written rest) (with_at_least 1 sequence))
    (pick (eqb b 0x13) (and_then (members_written rest) (with_at_least 2 (choice needed)))
    (pick (eqb b 0x17) (and_then (members_written rest) (with_at_least 1 (choice optional)))
    none)))))

-- ---- operations

-- a type by its own commands; to a type, a member by a type number
pub data Operation : Type 0 where
  append_type : List ℕ → Operation
  append_member : ℕ → ℕ → Operation

-- an answer, and the table that is there then
pub record Changed : Type 0 where
  pub result : Result
  pub table : Table

-- a refused operation returns the table as it was
unfoldable pub unchanged : Table → Refusal → Changed
unchanged T why = record { result = refused why; table = T }

-- a fault with mark 0: an operation marks nothing
unfoldable pub without_mark : Fault → Fault
without_mark too_long = too_long
without_mark (bad_form at) = bad_form 0
without_mark (over_limit at) = over_limit 0
without_mark (bad_operand at) = bad_operand 0
without_mark (repeated_member at) = repeated_member 0
without_mark (no_finite_instance t) = no_finite_instance 0
without_mark root_moved = root_moved
without_mark (wrong_end at) = wrong_end 0
without_mark (wrong_steps at) = wrong_steps 0
without_mark (path_clash at) = path_clash 0
without_mark (unexpected at) = unexpected 0

unfoldable pub changed_if : Judged → Table → Table → Changed
changed_if sound T after = record { result = accepted (length after) 0; table = after }
changed_if (has f) T after = unchanged T (faulty source_table (without_mark f))

-- from a table to another, where this one, written, passes checks 2 to 6: number of types
unfoldable pub changed_to : Table → Table → Changed
changed_to T after = changed_if (checked_table (table_bytes after)) T after

-- append a type: 2 where the bytes aren't exactly one type's own commands
unfoldable pub append_kind : Table → Option Kind → Changed
append_kind T none = unchanged T (faulty source_table (bad_form 0))
append_kind T (some κ) = changed_to T (T ++ κ ∷ [])

unfoldable pub type_appended : Table → List ℕ → Changed
type_appended T cs = append_kind T (type_in cs)

-- a choice of either kind with a member at its end; any other type stays as it is
unfoldable pub with_member : Kind → ℕ → Kind
with_member text m = text
with_member empty m = empty
with_member (sequence ms) m = sequence ms
with_member (choice need ms) m = choice need (ms ++ m ∷ [])
with_member (list t) m = list t

-- the table in which type t has a member more
unfoldable pub extended_at : Table → ℕ → ℕ → Table
extended_at T t m = set T t (with_member (kind_of T t) m)

unfoldable pub append_if : Bool → Table → ℕ → ℕ → Changed
append_if false T t m = unchanged T no_choice
append_if true T t m = changed_to T (extended_at T t m)

-- append a member: 19 where the type to extend doesn't exist or is no choice, tried first
unfoldable pub member_appended : Table → ℕ → ℕ → Changed
member_appended T t m = append_if (is_choice (kind_of T t)) T t m

unfoldable pub operate : Table → Operation → Changed
operate T (append_type cs) = type_appended T cs
operate T (append_member t m) = member_appended T t m

-- ---- what an operation gives, as a predicate

-- the table with one type more at its end, the one that the bytes write; or with one member more at the end of type t, a choice of
-- either kind
unfoldable pub Appends : Table → Operation → Table → Type 0
Appends T (append_type cs) after = (κ : Kind) × (type_in cs ≡ some κ) × (after ≡ T ++ κ ∷ [])
Appends T (append_member t m) after = (need : Need) × (ms : List ℕ) × (kind_of T t ≡ choice need ms) × (after ≡ set T t (choice need (ms ++ m ∷ [])))
