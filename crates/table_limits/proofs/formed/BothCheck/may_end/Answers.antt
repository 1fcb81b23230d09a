-- `may_end` meets its contract: the form decides where a document may end.
use Rattle.table_form.proofs.Loop.{ended}
use Rattle.table_form.specs.Forms.{state}
use Rattle.table_limits.specs.Limits.{counts}
use Rattle.table_limits.proofs.BothMachine.{both_machine}
use Rattle.table_limits.proofs.formed.BothCheck.may_end.Goals as goal

pub returns : goal.returns
returns c = let s = c.args.self.now in ended both_machine (state s.form, counts s.counts) c.complete.ensures
