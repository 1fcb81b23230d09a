-- `repeats` meets its contract: what is left at the start is the whole document.
use Rattle.model.specs.Definitions.TableChecks.{table_repeats}
use Rattle.table_operands.proofs.repeats.repeats.Goals as goal

pub returns : goal.returns
unfolding table_repeats
returns c = c.run.ensures
