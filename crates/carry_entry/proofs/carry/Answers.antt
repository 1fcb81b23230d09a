-- `carry` meets its contract: the numbers of what is found.
use Rattle.outcomes.specs.Outcomes.{writes_answered}
use Rattle.carry_entry.proofs.carry.Goals as goal

pub returns : goal.returns
returns c = writes_answered _ c.carried.ensures c.from.ensures
