use mathlib.Core.Path.{ap, ◌∙◌}
use native.Mathlib.Omega.{arith}
use Rattle.embedding_clash.specs.Paths.{path_in}
use Rattle.embedding_clash.proofs.Following.{path_none, path_more}
use Rattle.embedding_clash.proofs.path.path_at.Goals as goal

pub loop-i-init : goal.loop-i-init
loop-i-init c = path_none _ _

pub loop-i-preserved : goal.loop-i-preserved
loop-i-preserved c = rw c.loop-i.invariant (path_more _ _ _ (omega arith))

pub returns : goal.returns
returns c = c.loop-i.invariant ∙ ap (path_in _ _) (omega arith)
