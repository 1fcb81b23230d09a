use mathlib.Core.Path.{refl}
use native.Mathlib.Omega.{arith}
use Rattle.embedding_clash.proofs.ClashLaws.{stored_none, stored_more, stored_all}
use Rattle.embedding_clash.proofs.path.paths_of.Goals as goal

pub loop-i-init : goal.loop-i-init
loop-i-init c = stored_none refl

pub edge_path-requires : goal.edge_path-requires
edge_path-requires c = record { paths_bounded = c.requires.paths_bounded; edge_lt_edge_places = omega (arith, c.requires.n_bound) }

pub loop-i-preserved : goal.loop-i-preserved
loop-i-preserved c = stored_more c.loop-i.invariant (omega (arith, c.requires.n_le_max_members)) c.edge_path.ensures

pub returns : goal.returns
returns c = stored_all c.loop-i.invariant (omega arith)
