use native.Mathlib.Omega.{arith}
use Rattle.path_elements.proofs.RowCounts.{all_counted, one-counted, one-passed}
use Rattle.path_elements.proofs.openings.Goals as goal
use Rattle.path_elements.proofs.openings.Goals.{then-pool-i-lt-FILLER, else-pool-i-lt-FILLER}

pub overflow_add-n : goal.overflow_add-n
overflow_add-n c = omega arith

pub loop-i-preserved : goal.loop-i-preserved
loop-i-preserved c =
    elim c.if-pool-i-lt-FILLER.branch [
      | then-pool-i-lt-FILLER w ↦ rw w.n-is (one-counted c.loop-i.invariant (omega arith) c.requires (omega (arith, w.if-pool-i-lt-FILLER.true)))
      | else-pool-i-lt-FILLER w ↦ rw w.n-is (one-passed c.loop-i.invariant (omega arith) c.requires (omega (arith, w.if-pool-i-lt-FILLER.false)))
    ]

pub returns : goal.returns
returns c = all_counted c.loop-i.invariant (omega arith)
