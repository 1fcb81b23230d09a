-- `step` meets its contract: a turn of the machine of operands.
use Rattle.std.proofs.Common.{true, sym}
use Rattle.model.specs.Definitions.Basics.{goes, stops, goes_if}
use Rattle.model.specs.Definitions.TreeChecks.{operand_step}
use Rattle.tree_form.proofs.Machines.{moved, some_width}
use Rattle.tree_operands.proofs.OperandTurns.{operands_alien}
use Rattle.tree_operands.proofs.operands.OperandCheck.step.Goals as goal

pub returns-in_err-c : goal.returns-in_err-c
returns-in_err-c c =
    rw c.from_residual.ensures (moved (operand_step _) (λ u. true) (operands_alien _) _ _ tt stops c.requires.inside c.in_err-c.ensures (operands_alien _ tt))

pub returns-then-is_right : goal.returns-then-is_right
unfolding goes_if
returns-then-is_right c =
    let step = rw c.if-is_right.true at c.is_right.ensures in
    let went = moved (operand_step _) (λ u. true) (operands_alien _) _ _ tt (goes tt) c.requires.inside c.in_ok-c.ensures (sym step) in
    rw c.width.ensures (some_width _, went.0, tt, went.1)

pub returns-else-is_right : goal.returns-else-is_right
unfolding goes_if
returns-else-is_right c =
    let step = rw c.if-is_right.false at c.is_right.ensures in
    moved (operand_step _) (λ u. true) (operands_alien _) _ _ tt stops c.requires.inside c.in_ok-c.ensures (sym step)
