-- `levels` meets its contract: the machine runs over the whole document.
use Rattle.model.specs.Definitions.TreeChecks.{tree_levels}
use Rattle.tree_levels.proofs.levels.levels.Goals as goal

pub returns : goal.returns
unfolding tree_levels
returns c = c.run.ensures
