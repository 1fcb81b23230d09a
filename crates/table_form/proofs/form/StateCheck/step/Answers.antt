-- `step` meets its contract: a turn of the machine of check 2.
use Rattle.table_form.specs.Forms.{state}
use Rattle.table_form.proofs.Loop.{refused, unread, taken}
use Rattle.table_form.proofs.FormMachine.{form_machine}
use Rattle.table_form.proofs.form.StateCheck.step.Goals as goal

pub returns-in_err-command : goal.returns-in_err-command
returns-in_err-command c = rw c.from_residual.ensures (unread form_machine _ (state c.args.self.now) c.requires.inside c.in_err-command.ensures)

pub returns-in_err-self : goal.returns-in_err-self
returns-in_err-self c = rw c.from_residual-in_err-self.ensures (refused form_machine _ (state c.args.self.now) c.requires.inside c.in_ok-command.ensures c.in_err-self.ensures)

pub returns : goal.returns
returns c = let t = taken form_machine (state c.args.self.now) (state _) c.requires.inside c.in_ok-command.ensures c.in_ok-self.ensures c.width.ensures in (t.some, t.within, tt, t.same)
