-- 02, N8, of the program `extend` and the C function beside it: a document of operations, in a form of this program's own, carried out one
-- after the other on a loaded table, and what is reported of them. docs/FORMATS.md has both forms with examples.
use Rattle.std.specs.Prelude.{Bool, true, false, List, [], ◌∷◌, ◌++◌, ℕ, zero, suc, ◌+◌, ◌/◌, ◌%◌, length, take, drop, eqb, leb}
use Rattle.std.proofs.lemmas.List.Edits.{sets}
use Rattle.model.specs.Definitions.Basics.{pick}
use Rattle.model.specs.Definitions.Table.{Table, table_of}
use Rattle.model.specs.Definitions.Heights.{height_of}
use Rattle.model.specs.Definitions.Refusals.{bad_form, too_long, source_table, operations, faulty, output_too_short, numbers_of, Judged, sound, fault_unless, fits}
use Rattle.model.specs.Definitions.Entries.{Result, refused, accepted, Outcome, unless_faulty, untouched, judged_table}
use Rattle.model.specs.Definitions.Operations.{kept_length, Operation, append_type, append_member, operate}

-- ---- a document of operations

-- the first operation of some bytes, with the number of bytes it takes; or none can be read there
pub data First : Type 0 where
  reads : Operation → ℕ → First
  unreadable : First

-- 51 n and n bytes: append the type that they write
unfoldable pub type_there : List ℕ → First
type_there [] = unreadable
type_there (n ∷ rest) = pick (leb n (length rest)) (reads (append_type (take n rest)) (2 + n)) unreadable

-- 52 t m: append member m to type t
unfoldable pub member_there : List ℕ → First
member_there [] = unreadable
member_there (t ∷ []) = unreadable
member_there (t ∷ m ∷ rest) = reads (append_member t m) 3

unfoldable pub first_operation : List ℕ → First
first_operation [] = unreadable
first_operation (b ∷ rest) = pick (eqb b 0x51) (type_there rest) (pick (eqb b 0x52) (member_there rest) unreadable)

-- ---- carried out

-- an answer for each operation, and the table after the last; or the offset of the first that can't be read
pub data Performed : Type 0 where
  performed : List Result → Table → Performed
  unread : ℕ → Performed

unfoldable pub with_answer : Result → Performed → Performed
with_answer r (performed rs T) = performed (r ∷ rs) T
with_answer r (unread at) = unread at

-- the operation that bytes at offset `at` begin with, then those behind it, each on the table that the one before left
unfoldable pub perform_one : First → ℕ → Table → (ℕ → Table → Performed) → Performed
perform_one unreadable at T onward = unread at
perform_one (reads o width) at T onward = with_answer (operate T o).result (onward width (operate T o).table)

-- where there are bytes at offset `at`
unfoldable pub perform_next : List ℕ → ℕ → Table → (ℕ → Table → Performed) → Performed
perform_next [] at T onward = performed [] T
perform_next (b ∷ bs) at T onward = perform_one (first_operation (b ∷ bs)) at T onward

-- the operations of the bytes from offset `at` on, at most so many
unfoldable pub perform_to : ℕ → ℕ → List ℕ → Table → Performed
perform_to zero at bs T = performed [] T
perform_to (suc most) at bs T = perform_next bs at T (λ width later. perform_to most (at + width) (drop width bs) later)

-- all operations of a document: there are no more than bytes
unfoldable pub perform : List ℕ → Table → Performed
perform bs T = perform_to (length bs) 0 bs T

-- ---- the report

-- of an operation two bytes: 0 and the number of types, or the refusal's number and 0
unfoldable pub answer_bytes : List Result → List ℕ
answer_bytes [] = []
answer_bytes (refused why ∷ rs) = (numbers_of why).number ∷ 0 ∷ answer_bytes rs
answer_bytes (accepted types f ∷ rs) = 0 ∷ types ∷ answer_bytes rs

-- of a type, and of the n - 1 behind it, three bytes: its height, and its filler's length, the higher byte first
unfoldable pub kept_bytes : Table → ℕ → ℕ → List ℕ
kept_bytes T t zero = []
kept_bytes T t (suc n) = height_of T t ∷ kept_length T t / 256 ∷ kept_length T t % 256 ∷ kept_bytes T (suc t) n

-- the number of types after all operations, what is kept of each type, and the answers in order
unfoldable pub report : List Result → Table → List ℕ
report rs T = length T ∷ (kept_bytes T 0 (length T) ++ answer_bytes rs)

-- ---- the function

unfoldable pub report_if : Bool → List ℕ → List ℕ → Outcome
report_if false out bytes = untouched out output_too_short
report_if true out bytes = record { result = accepted (length bytes) 0; output = sets out 0 bytes }

unfoldable pub reported : List ℕ → Performed → Outcome
reported out (unread at) = untouched out (faulty operations (bad_form at))
reported out (performed rs T) = report_if (leb (length (report rs T)) (length out)) out (report rs T)

unfoldable pub long_operations : List ℕ → Judged
long_operations bs = fault_unless too_long (fits bs) λ u. sound

-- Extend a table: length of the report, which is written. The table is judged first, then the operations: 1, and 2 at the offset of
-- the first that can't be read.
unfoldable pub extend : List ℕ → List ℕ → List ℕ → Outcome
extend table ops out =
    unless_faulty (untouched out) source_table (judged_table table) λ u.
    unless_faulty (untouched out) operations (long_operations ops) λ u.
    reported out (perform ops (table_of table))
