-- `form` meets its contract: what is left at the start is the whole document.
use Rattle.model.specs.Definitions.TableChecks.{table_form}
use Rattle.table_form.proofs.form.form.Goals as goal

pub returns : goal.returns
unfolding table_form
returns c = c.run.ensures
