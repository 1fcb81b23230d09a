-- What loading a table and its two operations promise (02, N8).
use Rattle.std.specs.Prelude.{◌≡◌, false, List, ℕ, Result, Ok, Err}
use Rattle.std.specs.Result.{is_ok}
use Rattle.answers.specs.Answers.{fault, counted_result}
use Rattle.answers.specs.declared.Fault.{Fault}
use Rattle.loaded_table.specs.Loaded.{table_by}
use Rattle.model.specs.Definitions.Table as model
use Rattle.model.specs.Definitions.Table.{table_of}
use Rattle.model.specs.Definitions.Refusals.{Judged, sound, has}
use Rattle.model.specs.Definitions.Entries.{judged_table}
use Rattle.model.specs.Definitions.Operations.{Operation, operate}
use Rattle.table_growth.specs.Growth.{Loaded}
use Rattle.table_operations.specs.declared.Table.{Table}
use Rattle.table_operations.specs.declared.Extended.{Extended}

-- the table of the model that a loaded table holds
abbrev pub held : Table → model.Table
held t = table_by t.numbers

-- it stands for a table: that is valid, and each type's height and filler length are kept true
abbrev pub StandsFor : Table → model.Table → Type 0
StandsFor t T = Loaded t.numbers T

-- the model's judgement of the document that was loaded, or of one that was refused
abbrev pub judgement_of : Result Table Fault → Judged
judgement_of (Ok t) = sound
judgement_of (Err f) = has (fault f)

-- the model's judgement, and where it accepts, the document's table
pub record LoadedFrom (bs : List ℕ) (r : Result Table Fault) : Type 0 where
  pub judgement : judgement_of r ≡ judged_table bs
  pub loaded : (t : Table) → r ≡ Ok t → StandsFor t (table_of bs)

-- The answer is the model's, and the table stands for the model's then; refused, all its numbers are as they were.
pub record Operated (o : Operation) (before : Table) (r : Extended) : Type 0 where
  pub answered : counted_result r.answer ≡ (operate (held before) o).result
  pub then : StandsFor r.table (operate (held before) o).table
  pub as_it_was : is_ok r.answer ≡ false → r.table.numbers ≡ before.numbers
