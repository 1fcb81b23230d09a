-- `item_row` meets its contract.
use mathlib.Core.Path.{refl}
use Rattle.rows.specs.Rows.{item_row}
use Rattle.rows.proofs.item_row.Goals as goal

pub returns : goal.returns
unfolding item_row
returns c = refl
