-- `first_operand` meets its contract: behind 14 stands its operand, behind any other first byte a 15.
use mathlib.Core.Path.{sym}
use borrow.Author.Tests.{eq-eqb, ne_eqb}
use Rattle.model.proofs.Theorems.Tools.{pick_true, pick_false}
use Rattle.type_commands.specs.Types.{first_operand}
use Rattle.type_commands.proofs.first_operand.Goals as goal

pub returns-then-b-eq-LIST_TYPE : goal.returns-then-b-eq-LIST_TYPE
unfolding first_operand
returns-then-b-eq-LIST_TYPE c = sym (pick_true _ _ _ (eq-eqb _ _ c.if-b-eq-LIST_TYPE.true))

pub returns-else-b-eq-LIST_TYPE : goal.returns-else-b-eq-LIST_TYPE
unfolding first_operand
returns-else-b-eq-LIST_TYPE c = sym (pick_false _ _ _ (ne_eqb _ _ c.if-b-eq-LIST_TYPE.false))
