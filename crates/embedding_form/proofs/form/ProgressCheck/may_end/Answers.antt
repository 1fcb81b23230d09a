-- `may_end` meets its contract: at the end of a document the state decides.
use mathlib.Core.Path.{refl}
use Rattle.loaded_table.specs.Loaded.{table_by}
use Rattle.model.specs.Definitions.EmbeddingChecks.{embedding_complete}
use Rattle.embedding_form.specs.States.{form_state}
use Rattle.embedding_form.proofs.Turns.{ended}
use Rattle.embedding_form.proofs.Machines.{form_machine}
use Rattle.embedding_form.proofs.form.ProgressCheck.may_end.Goals as goal

pub returns-in-Ended : goal.returns-in-Ended
unfolding embedding_complete
returns-in-Ended c = let p = c.args.self.now in ended form_machine (form_state (table_by p.source.now) p.state) (rw c.in-Ended.is refl)

pub returns-in_default : goal.returns-in_default
unfolding embedding_complete
returns-in_default c = let p = c.args.self.now in ended form_machine (form_state (table_by p.source.now) p.state) (rw c.in_default.is refl)
