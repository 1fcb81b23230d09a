-- `closed` meets its contract: without an element around it the root is closed.
use Rattle.model.specs.Definitions.TreeChecks.{closed}
use Rattle.tree_form.proofs.FormTurns.{closed_inside}
use Rattle.tree_form.proofs.form.closed.Goals as goal

pub returns-then-around-eq0 : goal.returns-then-around-eq0
unfolding closed
returns-then-around-eq0 c = rw c.if-around-eq0.true

pub returns-else-around-eq0 : goal.returns-else-around-eq0
returns-else-around-eq0 c = closed_inside _ c.if-around-eq0.false
