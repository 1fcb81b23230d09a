-- `read_along` meets its contract: the numbers of what is found.
use Rattle.outcomes.specs.Outcomes.{writes_answered}
use Rattle.read_entry.proofs.read_along.Goals as goal

pub returns : goal.returns
returns c = writes_answered _ c.read.ensures c.from.ensures
