-- `limits` meets its contract: what is left at the start is the whole document.
use Rattle.model.specs.Definitions.EmbeddingChecks.{embedding_limits}
use Rattle.embedding_operands.proofs.limits.limits.Goals as goal

pub returns : goal.returns
unfolding embedding_limits
returns c = c.run.ensures
