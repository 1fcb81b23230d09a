-- `may_end` meets its contract: a walk may end at any type.
use mathlib.Core.Path.{refl}
use Rattle.loaded_table.specs.Loaded.{table_by}
use Rattle.embedding_form.proofs.Turns.{ended}
use Rattle.embedding_form.proofs.Machines.{reach_machine}
use Rattle.embedding_operands.specs.States.{reached}
use Rattle.embedding_operands.proofs.operands.WalkCheck.may_end.Goals as goal

pub returns : goal.returns
returns c = let w = c.args.self.now in ended (reach_machine (table_by w.target.now)) (reached w.reach) refl
