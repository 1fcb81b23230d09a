use native.Mathlib.Omega.{arith}
use Rattle.table_load.proofs.Shapes.{cleared_more}
use Rattle.table_load.proofs.clear_counts.Goals as goal

pub loop-t-init : goal.loop-t-init
loop-t-init c = record { size = c.requires; none = λ t low. absurd (omega arith) }

pub loop-t-preserved : goal.loop-t-preserved
loop-t-preserved c = cleared_more c.loop-t.table c.loop-t.t (omega arith) c.set_count.ensures c.loop-t.invariant
