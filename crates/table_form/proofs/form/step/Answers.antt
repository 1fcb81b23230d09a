-- `step` meets its contract: what is no command is refused in every state.
use Rattle.std.proofs.Common.{sym}
use Rattle.table_form.proofs.FormMachine.{form_stops}
use Rattle.table_form.proofs.form.step.Goals as goal

pub returns-in-None : goal.returns-in-None
returns-in-None c = rw c.in-None.is (sym (form_stops _))
