-- `form` meets its contract: the machine runs over the whole document.
use Rattle.model.specs.Definitions.TreeChecks.{tree_form}
use Rattle.tree_form.proofs.form.form.Goals as goal

pub returns : goal.returns
unfolding tree_form
returns c = c.run.ensures
