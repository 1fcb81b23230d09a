-- `to` meets its contract: the second number of the row.
use mathlib.Core.Path.{refl}
use Rattle.rows.proofs.to.Goals as goal

pub returns : goal.returns
returns c = refl
