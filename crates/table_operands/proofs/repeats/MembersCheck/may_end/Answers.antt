-- `may_end` meets its contract: a document may end anywhere.
use mathlib.Core.Path.{refl}
use Rattle.table_form.proofs.Loop.{ended}
use Rattle.table_operands.specs.Repeats.{chosen}
use Rattle.table_operands.proofs.Machines.{repeat_machine}
use Rattle.table_operands.proofs.repeats.MembersCheck.may_end.Goals as goal

pub returns : goal.returns
returns c = let m = c.args.self.now in ended repeat_machine (chosen m.inside m.seen) refl
