-- `form` meets its contract: what is left at the start is the whole document.
use Rattle.model.specs.Definitions.EmbeddingChecks.{embedding_form}
use Rattle.embedding_form.proofs.form.form.Goals as goal

pub returns : goal.returns
unfolding embedding_form
returns c = c.run.ensures
