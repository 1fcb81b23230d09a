-- `bring_back` meets its contract: the numbers of what is found.
use Rattle.outcomes.specs.Outcomes.{counts_answered}
use Rattle.bring_entry.proofs.bring_back.Goals as goal

pub returns : goal.returns
returns c = counts_answered _ c.brought.ensures c.from.ensures
