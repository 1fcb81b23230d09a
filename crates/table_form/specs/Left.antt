-- The verdict of one of the model's machines over a table's commands, on what is left of a document from an offset.
use Rattle.std.specs.Prelude.{Bool, ℕ, List, drop}
use Rattle.model.specs.Definitions.Basics.{Next, Verdict, run}
use Rattle.model.specs.Definitions.Commands.{TableCommand, table_commands, table_width}

abbrev pub left_of : {S : Type 0} → (S → TableCommand → Next S) → (S → Bool) → List ℕ → S → ℕ → Verdict
left_of step complete bs s at = run table_width step complete s at (table_commands (drop at bs))
