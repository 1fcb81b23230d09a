-- `may_end` meets its contract: a document may end anywhere.
use mathlib.Core.Path.{refl}
use Rattle.table_form.proofs.Loop.{ended}
use Rattle.table_operands.proofs.Machines.{names_machine}
use Rattle.table_operands.proofs.operands.NamedCheck.may_end.Goals as goal

pub returns : goal.returns
returns c = ended (names_machine _) tt refl
