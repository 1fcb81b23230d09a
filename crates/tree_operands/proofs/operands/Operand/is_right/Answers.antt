-- `is_right` meets its contract: types that exist, and characters that are allowed.
use Rattle.std.proofs.Common.{inl, inr}
use Rattle.model.specs.Definitions.Basics.{goes_if}
use Rattle.model.specs.Definitions.TreeChecks.{operand_step}
use Rattle.tree_operands.proofs.operands.Operand.is_right.Goals as goal

pub returns-in-Opens : goal.returns-in-Opens
unfolding operand_step
returns-in-Opens c = rw (c.in-Opens.is, c.from.ensures)

pub returns-in-Character : goal.returns-in-Character
unfolding operand_step
returns-in-Character c = rw (c.in-Character.is, c.allowed.ensures)

pub returns-in-Closes : goal.returns-in-Closes
unfolding operand_step goes_if
returns-in-Closes c = elim c.in-Closes.is [ inl e ↦ rw e | inr e ↦ rw e ]
