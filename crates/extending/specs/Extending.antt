-- What the contracts of this crate say: an operation read at an offset, a turn of carrying operations out, and what is reported. The
-- definitions are those of the model's Extending.antt.
use Rattle.std.specs.Prelude.{◌≡◌, Option, Some, None, Result, Ok, Err, List, ℕ, ◌+◌, ◌≤◌, length, take, drop}
use Rattle.answers.specs.Answers.{counted_result}
use Rattle.answers.specs.declared.Refusal.{Refusal}
use Rattle.model.specs.Definitions.Entries.{Outcome}
use Rattle.model.specs.Definitions.Operations as model
use Rattle.model.specs.Definitions.Operations.{append_type, append_member}
use Rattle.model.specs.Definitions.Extending.{reads, unreadable, first_operation}
use Rattle.table_operations.specs.declared.Table.{Table}
use Rattle.table_operations.specs.Operations.{Operated}
use Rattle.extending.specs.declared.Operation.{Operation}
use Rattle.extending.specs.declared.Operation.TheVariants.{NewType, NewMember}
use Rattle.extending.specs.declared.Turn.{Turn}

-- ---- an operation read

-- the model's operation at an offset, which ends within the document; or none can be read there
abbrev pub ReadAt : List ℕ → ℕ → Option Operation → Type 0
ReadAt ops at (Some (NewType n)) = (at + (2 + n) ≤ length ops) × (first_operation (drop at ops) ≡ reads (append_type (take n (drop (at + 2) ops))) (2 + n))
ReadAt ops at (Some (NewMember t m)) = (at + 3 ≤ length ops) × (first_operation (drop at ops) ≡ reads (append_member t m) 3)
ReadAt ops at None = first_operation (drop at ops) ≡ unreadable

-- ---- carried out

-- an operation of so many bytes stands at an offset and is carried out
pub record Performs (ops : List ℕ) (at : ℕ) (before : Table) (r : Turn) : Type 0 where
  pub operation : model.Operation
  pub there : first_operation (drop at ops) ≡ reads operation r.width
  pub within : at + r.width ≤ length ops
  pub wide : 2 ≤ r.width
  pub operated : Operated operation before (record { answer = r.answer; table = r.table })

-- or none can be read there
abbrev pub TurnAt : List ℕ → ℕ → Table → Option Turn → Type 0
TurnAt ops at before (Some r) = Performs ops at before r
TurnAt ops at before None = first_operation (drop at ops) ≡ unreadable

-- an answer whose numbers are bytes
abbrev pub Small : Result ℕ Refusal → Type 0
Small (Ok n) = n ≤ 255
Small (Err why) = Unit {0}

-- ---- reported

-- the result and the output are those of an outcome
pub record Reports (o : Outcome) (new : List ℕ) (r : Result ℕ Refusal) : Type 0 where
  pub same_result : counted_result r ≡ o.result
  pub same_output : new ≡ o.output
