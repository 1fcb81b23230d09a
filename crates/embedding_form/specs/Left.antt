-- The verdict of one of the model's machines over an embedding's commands, on what is left of a document from an offset.
use Rattle.std.specs.Prelude.{Bool, ℕ, List, drop}
use Rattle.model.specs.Definitions.Basics.{Next, Verdict, run}
use Rattle.model.specs.Definitions.Commands.{EmbeddingCommand, embedding_commands, embedding_width}

abbrev pub left_of : {S : Type 0} → (S → EmbeddingCommand → Next S) → (S → Bool) → List ℕ → S → ℕ → Verdict
left_of step complete bs s at = run embedding_width step complete s at (embedding_commands (drop at bs))
