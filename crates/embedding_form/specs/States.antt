-- The states and answers of the code's machine as those of the model's.
use Rattle.std.specs.Prelude.{Bool, List, map, ℕ, drop, Option, Some, None}
use Rattle.embedding_form.specs.declared.form.Progress.{Progress}
use Rattle.embedding_form.specs.declared.form.FormState.{FormState}
use Rattle.embedding_form.specs.declared.form.FormState.TheVariants.{Due, Ended}
use Rattle.embedding_form.specs.Left.{left_of}
use Rattle.loaded_table.specs.Loaded.{table_by}
use Rattle.model.specs.Definitions.Basics.{Verdict, Next, goes, stops}
use Rattle.model.specs.Definitions.Table.{Table, edges_of}
use Rattle.model.specs.Definitions.EmbeddingChecks.{EmbeddingState, due, embedding_ended, embedding_step, embedding_complete}

-- k edges due for the last type, and those of each type from s on
abbrev pub due_state : Table → ℕ → ℕ → Bool → EmbeddingState
due_state S k s on = due k (drop s (map edges_of S)) on

abbrev pub form_state : Table → FormState → EmbeddingState
form_state S (Due k s on) = due_state S k s on
form_state S Ended = embedding_ended

abbrev pub form_next : Table → Option FormState → Next EmbeddingState
form_next S (Some s) = goes (form_state S s)
form_next S None = stops

-- the verdict of check 2 on what is left from an offset, in a state
abbrev pub form_left : List ℕ → Progress → ℕ → Verdict
form_left bs p = left_of embedding_step embedding_complete bs (form_state (table_by p.source.now) p.state)
