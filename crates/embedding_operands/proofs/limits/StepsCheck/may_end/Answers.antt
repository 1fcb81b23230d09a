-- `may_end` meets its contract: a path may end after any number of steps.
use mathlib.Core.Path.{refl}
use Rattle.embedding_form.proofs.Turns.{ended}
use Rattle.embedding_form.proofs.Machines.{count_machine}
use Rattle.embedding_operands.proofs.limits.StepsCheck.may_end.Goals as goal

pub returns : goal.returns
returns c = ended count_machine c.args.self.now.count refl
