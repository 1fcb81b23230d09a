-- `may_end` meets its contract: a document may end behind 3F alone.
use Rattle.std.proofs.Common.{refl}
use Rattle.model.specs.Definitions.TreeChecks.{tree_ended, tree_step, tree_complete}
use Rattle.tree_form.proofs.FormTurns.{form_alien, not_ended}
use Rattle.tree_form.proofs.Machines.{ending}
use Rattle.tree_form.proofs.form.TreeStateCheck.may_end.Goals as goal

pub returns-in-Ended : goal.returns-in-Ended
unfolding tree_complete
returns-in-Ended c = rw c.in-Ended.is (ending tree_step tree_complete form_alien tree_ended refl)

pub returns-in_default : goal.returns-in_default
returns-in_default c = ending tree_step tree_complete form_alien _ (not_ended _ c.in_default.not-Ended)
