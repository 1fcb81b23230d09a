-- `may_end` meets its contract: at the end of a document the state decides.
use Rattle.table_form.specs.Forms.{state}
use Rattle.table_form.proofs.Loop.{ended}
use Rattle.table_form.proofs.FormMachine.{form_machine}
use Rattle.table_form.proofs.form.StateCheck.may_end.Goals as goal

pub returns : goal.returns
returns c = ended form_machine (state c.args.self.now) c.complete.ensures
