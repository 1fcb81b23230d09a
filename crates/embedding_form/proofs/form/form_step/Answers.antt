-- `form_step` meets its contract: nothing may stand behind the end.
use mathlib.Core.Path.{sym}
use Rattle.embedding_form.proofs.Machines.{ended_stops}
use Rattle.embedding_form.proofs.form.form_step.Goals as goal

pub returns-in-Ended : goal.returns-in-Ended
returns-in-Ended c = rw c.in-Ended.is (sym (ended_stops _))
