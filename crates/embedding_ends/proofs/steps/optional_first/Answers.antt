-- By whether a choice was left before.
use Rattle.model.specs.Definitions.Basics.{pick}
use Rattle.embedding_ends.proofs.steps.optional_first.Goals as goal

pub returns-then-left : goal.returns-then-left
unfolding pick
returns-then-left c = rw c.if-left.true

pub returns-else-left : goal.returns-else-left
unfolding pick
returns-else-left c = rw c.if-left.false
