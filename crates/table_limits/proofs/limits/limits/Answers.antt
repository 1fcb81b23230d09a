-- `limits` meets its contract: what is left at the start is the whole document.
use Rattle.model.specs.Definitions.TableChecks.{table_limits}
use Rattle.table_limits.proofs.limits.limits.Goals as goal

pub returns : goal.returns
unfolding table_limits
returns c = c.run.ensures
