-- `operands` meets its contract: what is left at the start is the whole document.
use Rattle.model.specs.Definitions.TableChecks.{table_operands}
use Rattle.table_operands.proofs.operands.operands.Goals as goal

pub returns : goal.returns
unfolding table_operands
returns c = c.run.ensures
