-- `step` meets its contract: a turn of the machine of check 3.
use Rattle.embedding_form.proofs.Turns.{refused, unread, taken}
use Rattle.embedding_form.proofs.Machines.{count_machine}
use Rattle.embedding_operands.proofs.limits.StepsCheck.step.Goals as goal

pub returns-in_err-command : goal.returns-in_err-command
returns-in_err-command c = rw c.from_residual.ensures (unread count_machine _ c.args.self.now.count c.requires.inside c.in_err-command.ensures)

pub returns-in_err-self : goal.returns-in_err-self
returns-in_err-self c = rw c.from_residual-in_err-self.ensures (refused count_machine _ c.args.self.now.count c.requires.inside c.in_ok-command.ensures c.in_err-self.ensures)

pub returns : goal.returns
returns c = let t = taken count_machine c.args.self.now.count _ c.requires.inside c.in_ok-command.ensures c.in_ok-self.ensures c.width.ensures in (t.some, t.within, tt, t.same)
