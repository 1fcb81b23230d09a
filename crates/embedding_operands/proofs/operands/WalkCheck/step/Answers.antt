-- `step` meets its contract: a turn of the machine of check 4.
use Rattle.loaded_table.specs.Loaded.{table_by}
use Rattle.embedding_form.proofs.Turns.{refused, unread, taken}
use Rattle.embedding_form.proofs.Machines.{reach_machine}
use Rattle.embedding_operands.specs.States.{reached}
use Rattle.embedding_operands.proofs.Paths.{within_on}
use Rattle.embedding_operands.proofs.operands.WalkCheck.step.Goals as goal

pub path_step-requires : goal.path_step-requires
path_step-requires c = record { bounded = c.requires.fit.bounded; here_bound = c.requires.fit.here_in }

pub returns-in_err-command : goal.returns-in_err-command
returns-in_err-command c = let w = c.args.self.now in rw c.from_residual.ensures (unread (reach_machine (table_by w.target.now)) _ (reached w.reach) c.requires.inside c.in_err-command.ensures)

pub returns-in_err-self : goal.returns-in_err-self
returns-in_err-self c =
    let w = c.args.self.now in
    rw c.from_residual-in_err-self.ensures (refused (reach_machine (table_by w.target.now)) _ (reached w.reach) c.requires.inside c.in_ok-command.ensures c.in_err-self.ensures)

pub returns : goal.returns
returns c =
    let w = c.args.self.now in
    let t = taken (reach_machine (table_by w.target.now)) (reached w.reach) (reached _) c.requires.inside c.in_ok-command.ensures c.in_ok-self.ensures c.width.ensures in
    (t.some, t.within, within_on w _ _ c.requires.fit c.in_ok-self.ensures, t.same)
