-- `step` meets its contract: a turn of the machine of check 3.
use Rattle.table_form.proofs.Loop.{refused, unread, taken}
use Rattle.table_limits.specs.Limits.{counts}
use Rattle.table_limits.proofs.LimitMachine.{limit_machine}
use Rattle.table_limits.proofs.limits.CountsCheck.step.Goals as goal

pub returns-in_err-command : goal.returns-in_err-command
returns-in_err-command c = rw c.from_residual.ensures (unread limit_machine _ (counts c.args.self.now) c.requires.inside c.in_err-command.ensures)

pub returns-in_err-self : goal.returns-in_err-self
returns-in_err-self c =
    rw c.from_residual-in_err-self.ensures (refused limit_machine _ (counts c.args.self.now) c.requires.inside c.in_ok-command.ensures c.in_err-self.ensures)

pub returns : goal.returns
returns c =
    let t = taken limit_machine (counts c.args.self.now) (counts _) c.requires.inside c.in_ok-command.ensures c.in_ok-self.ensures c.width.ensures in
    (t.some, t.within, tt, t.same)
