-- `may_end` meets its contract: a document may end at any counts.
use mathlib.Core.Path.{refl}
use Rattle.table_form.proofs.Loop.{ended}
use Rattle.table_limits.specs.Limits.{counts}
use Rattle.table_limits.proofs.LimitMachine.{limit_machine}
use Rattle.table_limits.proofs.limits.CountsCheck.may_end.Goals as goal

pub returns : goal.returns
returns c = ended limit_machine (counts c.args.self.now) refl
