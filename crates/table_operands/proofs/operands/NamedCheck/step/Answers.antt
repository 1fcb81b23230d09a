-- `step` meets its contract: a turn of the machine of check 4.
use mathlib.Core.Path.{sym, ap, ◌∙◌}
use mathlib.Core.Bool.{Bool}
use Rattle.model.specs.Definitions.Basics.{goes_if}
use Rattle.table_form.proofs.Loop.{refused, unread, taken}
use Rattle.table_operands.proofs.Machines.{names_machine}
use Rattle.table_operands.proofs.operands.NamedCheck.step.Goals as goal

pub returns-in_err-command : goal.returns-in_err-command
returns-in_err-command c = rw c.from_residual.ensures (unread (names_machine _) _ tt c.requires.inside c.in_err-command.ensures)

pub returns-then-holds : goal.returns-then-holds
unfolding goes_if
returns-then-holds c =
    let moved = sym (ap (λ (b : Bool). goes_if b tt) c.if-holds.true) ∙ c.holds.ensures in
    let t = taken (names_machine _) tt tt c.requires.inside c.in_ok-command.ensures moved c.width.ensures in
    (t.some, t.within, tt, t.same)

pub returns-else-holds : goal.returns-else-holds
unfolding goes_if
returns-else-holds c =
    let moved = sym (ap (λ (b : Bool). goes_if b tt) c.if-holds.false) ∙ c.holds.ensures in refused (names_machine _) _ tt c.requires.inside c.in_ok-command.ensures moved
