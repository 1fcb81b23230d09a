-- `step` meets its contract: a turn of the machine of check 2.
use Rattle.loaded_table.specs.Loaded.{table_by}
use Rattle.embedding_form.specs.States.{form_state}
use Rattle.embedding_form.proofs.Turns.{refused, unread, taken}
use Rattle.embedding_form.proofs.Machines.{form_machine}
use Rattle.embedding_form.proofs.form.ProgressCheck.step.Goals as goal

pub returns-in_err-command : goal.returns-in_err-command
returns-in_err-command c =
    let p = c.args.self.now in
    rw c.from_residual.ensures (unread form_machine _ (form_state (table_by p.source.now) p.state) c.requires.inside c.in_err-command.ensures)

pub returns-in_err-self : goal.returns-in_err-self
returns-in_err-self c =
    let p = c.args.self.now in
    rw c.from_residual-in_err-self.ensures (refused form_machine _ (form_state (table_by p.source.now) p.state) c.requires.inside c.in_ok-command.ensures c.in_err-self.ensures)

pub returns : goal.returns
returns c =
    let p = c.args.self.now in
    let t = taken form_machine (form_state (table_by p.source.now) p.state) (form_state (table_by p.source.now) _) c.requires.inside c.in_ok-command.ensures c.in_ok-self.ensures c.width.ensures in
    (t.some, t.within, c.requires.fit, t.same)
