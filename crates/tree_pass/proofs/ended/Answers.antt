-- `ended` meets its contract.
use Rattle.std.proofs.Common.{refl}
use Rattle.tree_form.proofs.Commands.{end_at}
use Rattle.tree_form.proofs.Machines.{stands}
use Rattle.tree_pass.proofs.ended.Goals as goal

pub returns-then-t-at-eq-TREE_END : goal.returns-then-t-at-eq-TREE_END
returns-then-t-at-eq-TREE_END c = record { reads = stands _ _ c.requires (end_at _ _ c.if-t-at-eq-TREE_END.true); last = c.if-t-at.true; same = refl }
