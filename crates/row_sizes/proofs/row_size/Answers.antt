use mathlib.Core.Path.{refl}
use native.Mathlib.Omega.{arith}
use Rattle.row_sizes.proofs.Adding.{along_more, along_all}
use Rattle.row_sizes.proofs.row_size.Goals as goal

pub loop-i-preserved : goal.loop-i-preserved
loop-i-preserved c = along_more c.loop-i.invariant (omega arith) c.requires.0 refl c.with_symbol-sums.ensures

pub returns : goal.returns
returns c = along_all c.loop-i.invariant (omega arith)
