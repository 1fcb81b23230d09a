-- `may_end` meets its contract: a document may end anywhere.
use Rattle.std.proofs.Common.{true, refl}
use Rattle.model.specs.Definitions.TreeChecks.{operand_step}
use Rattle.tree_form.proofs.Machines.{ending}
use Rattle.tree_operands.proofs.OperandTurns.{operands_alien}
use Rattle.tree_operands.proofs.operands.OperandCheck.may_end.Goals as goal

pub returns : goal.returns
returns c = ending (operand_step c.args.self.now.types) (λ u. true) (operands_alien _) tt refl
