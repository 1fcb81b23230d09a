-- 01 "Refusal answers", and of 02 refusals 17 (N4) and 19 (N8): each refusal by a name, and for each its number, document and mark.
use Rattle.std.specs.Prelude.{Bool, true, false, List, ℕ, length, leb}
use Rattle.model.specs.Definitions.Basics.{Verdict, passes, fails}

-- what is wrong with a table, an embedding or a tree document; the number that a fault holds is its mark
pub data Fault : Type 0 where
  too_long : Fault
  bad_form : ℕ → Fault
  over_limit : ℕ → Fault
  bad_operand : ℕ → Fault
  repeated_member : ℕ → Fault
  no_finite_instance : ℕ → Fault
  root_moved : Fault
  wrong_end : ℕ → Fault
  wrong_steps : ℕ → Fault
  path_clash : ℕ → Fault
  unexpected : ℕ → Fault

-- documents 1 to 5; 11 is the document of operations on a table, whose form is the program's own (02, N8)
pub data Document : Type 0 where
  source_table target_table embedding tree output operations : Document

-- why an entry refuses
pub data Refusal : Type 0 where
  faulty : Document → Fault → Refusal
  no_image : Refusal
  unreadable : ℕ → Refusal
  image_too_deep : Refusal
  image_too_long : Refusal
  output_too_short : Refusal
  no_choice : Refusal

unfoldable pub fault_number : Fault → ℕ
fault_number too_long = 1
fault_number (bad_form at) = 2
fault_number (over_limit at) = 3
fault_number (bad_operand at) = 4
fault_number (repeated_member at) = 5
fault_number (no_finite_instance t) = 6
fault_number root_moved = 7
fault_number (wrong_end at) = 8
fault_number (wrong_steps at) = 9
fault_number (path_clash at) = 10
fault_number (unexpected at) = 11

unfoldable pub fault_mark : Fault → ℕ
fault_mark too_long = 0
fault_mark (bad_form at) = at
fault_mark (over_limit at) = at
fault_mark (bad_operand at) = at
fault_mark (repeated_member at) = at
fault_mark (no_finite_instance t) = t
fault_mark root_moved = 0
fault_mark (wrong_end at) = at
fault_mark (wrong_steps at) = at
fault_mark (path_clash at) = at
fault_mark (unexpected at) = at

unfoldable pub document_number : Document → ℕ
document_number source_table = 1
document_number target_table = 2
document_number embedding = 3
document_number tree = 4
document_number output = 5
document_number operations = 11

-- 01's answer of refusal: a number, a document and a mark
pub record Numbers : Type 0 where
  pub number : ℕ
  pub document : ℕ
  pub mark : ℕ

unfoldable pub numbers_of : Refusal → Numbers
numbers_of (faulty d f) = record { number = fault_number f; document = document_number d; mark = fault_mark f }
numbers_of no_image = record { number = 15; document = document_number tree; mark = 0 }
numbers_of (unreadable at) = record { number = 17; document = document_number tree; mark = at }
numbers_of image_too_deep = record { number = 12; document = document_number output; mark = 0 }
numbers_of image_too_long = record { number = 13; document = document_number output; mark = 0 }
numbers_of output_too_short = record { number = 14; document = document_number output; mark = 0 }
numbers_of no_choice = record { number = 19; document = document_number source_table; mark = 0 }

-- ---- judging by checks in order

-- a document is accepted, or has a fault
pub data Judged : Type 0 where
  sound : Judged
  has : Fault → Judged

-- the fault that a check finds, else what the checks after it say; these are computed only where they are asked
unfoldable pub fault_at : (ℕ → Fault) → Verdict → (Unit {0} → Judged) → Judged
fault_at name passes later = later tt
fault_at name (fails at) later = has (name at)

unfoldable pub fault_unless : Fault → Bool → (Unit {0} → Judged) → Judged
fault_unless f true later = later tt
fault_unless f false later = has f

-- no document is longer than 60,000 bytes
abbrev pub max_length : ℕ
max_length = 60000

unfoldable pub fits : List ℕ → Bool
fits bs = leb (length bs) max_length
