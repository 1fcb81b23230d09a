-- `first_height` meets its contract.
use mathlib.Core.Path.{sym}
use borrow.Author.Tests.{lt-ltb, le-ltb}
use Rattle.model.proofs.Theorems.Tools.{pick_true, pick_false}
use Rattle.table_heights.specs.Heights.{first_height}
use Rattle.table_heights.proofs.first_height.Goals as goal

pub returns-then-all-t : goal.returns-then-all-t
unfolding first_height
returns-then-all-t c = sym (pick_false _ _ _ (le-ltb _ _ c.if-all-t.true))

pub returns-else-all-t : goal.returns-else-all-t
unfolding first_height
returns-else-all-t c = sym (pick_true _ _ _ (lt-ltb _ _ c.if-all-t.false))
