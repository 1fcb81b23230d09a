-- `step` meets its contract: a turn of the machine of both checks.
use Rattle.table_form.proofs.Loop.{refused, unread, taken}
use Rattle.table_form.specs.Forms.{state}
use Rattle.table_limits.specs.Limits.{counts}
use Rattle.table_limits.proofs.BothMachine.{both_machine, stops_with, with_stops, both_go}
use Rattle.table_limits.proofs.formed.BothCheck.step.Goals as goal

pub returns-in_err-command : goal.returns-in_err-command
returns-in_err-command c =
    let s = c.args.self.now in
    rw c.from_residual.ensures (unread both_machine _ (state s.form, counts s.counts) c.requires.inside c.in_err-command.ensures)

pub returns-in_err-form : goal.returns-in_err-form
returns-in_err-form c =
    let s = c.args.self.now in
    rw c.from_residual-in_err-form.ensures (refused both_machine _ (state s.form, counts s.counts) c.requires.inside c.in_ok-command.ensures (stops_with _ c.in_err-form.ensures))

pub returns-in_err-counts : goal.returns-in_err-counts
returns-in_err-counts c =
    let s = c.args.self.now in
    rw c.from_residual-in_err-counts.ensures
    (refused both_machine _ (state s.form, counts s.counts) c.requires.inside c.in_ok-command.ensures (with_stops c.in_ok-form.ensures c.in_err-counts.ensures))

pub returns : goal.returns
returns c =
    let s = c.args.self.now in
    let t = taken both_machine (state s.form, counts s.counts) (state _, counts _) c.requires.inside c.in_ok-command.ensures (both_go c.in_ok-form.ensures c.in_ok-counts.ensures) c.width.ensures in
    (t.some, t.within, tt, t.same)
