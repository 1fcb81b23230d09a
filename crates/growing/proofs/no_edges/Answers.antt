-- `no_edges` meets its contract.
use mathlib.Core.Path.{refl}
use Rattle.growing.specs.Growing.{no_edges}
use Rattle.growing.proofs.no_edges.Goals as goal

pub returns : goal.returns
unfolding no_edges
returns c = refl
