-- What judging a table answers.
use Rattle.std.specs.Prelude.{◌≡◌, ⊤, Result, List, ℕ, length}
use Rattle.answers.specs.Answers.{judged}
use Rattle.answers.specs.declared.Fault.{Fault}
use Rattle.loaded_table.specs.Loaded.{Stands}
use Rattle.model.specs.Definitions.Table.{table_of}
use Rattle.model.specs.Definitions.Heights.{endless_type}
use Rattle.model.specs.Definitions.TableChecks.{table_operands, table_repeats}
use Rattle.model.specs.Definitions.Refusals.{Judged, sound, bad_operand, repeated_member, no_finite_instance, fault_at}
use Rattle.model.specs.Definitions.Entries.{judged_table}
use Rattle.model.proofs.Theorems.Facts.{SoundTable}

-- the model's judgement, and where it accepts, the table loaded
pub record TableJudged (bs : List ℕ) (r : Result ⊤ Fault) (rows : List ℕ) : Type 0 where
  pub judgement : judged r ≡ judged_table bs
  pub loaded : judged_table bs ≡ sound → Stands rows (table_of bs)

-- checks 4 to 6
unfoldable pub later_checks : List ℕ → Judged
later_checks bs =
    fault_at bad_operand (table_operands (length (table_of bs)) bs) λ u.
    fault_at repeated_member (table_repeats bs) λ u.
    fault_at no_finite_instance (endless_type (table_of bs)) λ u.
    sound

-- the same of these checks alone, where the table is sound
pub record AfterLimits (bs : List ℕ) (r : Result ⊤ Fault) (rows : List ℕ) : Type 0 where
  pub judgement : judged r ≡ later_checks bs
  pub loaded : later_checks bs ≡ sound → SoundTable (table_of bs) → Stands rows (table_of bs)
