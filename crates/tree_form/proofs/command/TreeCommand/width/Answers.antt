-- `width` meets its contract: two bytes with an operand, one without.
use Rattle.std.proofs.Common.{inl, inr}
use Rattle.model.specs.Definitions.Commands.{tree_width}
use Rattle.tree_form.proofs.command.TreeCommand.width.Goals as goal

pub returns-in-Opens : goal.returns-in-Opens
unfolding tree_width
returns-in-Opens c = elim c.in-Opens.is [ inl e ↦ rw e.1 | inr e ↦ rw e.1 ]

pub returns-in-Closes : goal.returns-in-Closes
unfolding tree_width
returns-in-Closes c = elim c.in-Closes.is [ inl e ↦ rw e | inr e ↦ rw e ]
