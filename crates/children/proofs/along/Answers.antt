-- `along` meets its contract, by the path of the edge.
use mathlib.Core.Path.{sym}
use Rattle.children.proofs.along.Goals as goal

pub returns : goal.returns
returns c = λ k a. rw (sym c.steps-steps.ensures.0, sym c.start-start.ensures.0, sym c.target-tau.ensures.0) (c.follow.ensures k a)
