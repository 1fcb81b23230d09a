-- `pushed` meets its contract.
use mathlib.Core.Path.{refl}
use Rattle.growing.specs.Growing.{push}
use Rattle.growing.proofs.pushed.Goals as goal

pub returns : goal.returns
unfolding push
returns c = refl
