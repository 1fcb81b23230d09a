-- `operands` meets its contract: the machine runs over the whole document.
use Rattle.model.specs.Definitions.TreeChecks.{tree_operands}
use Rattle.tree_operands.proofs.operands.operands.Goals as goal

pub returns : goal.returns
unfolding tree_operands
returns c = c.run.ensures
