use Rattle.lines.proofs.Numbers.{none_written, one_more_written}
use Rattle.lines.proofs.put_numbers.Goals as goal

pub loop-value-init : goal.loop-value-init
loop-value-init c = none_written _ _

pub loop-value-preserved : goal.loop-value-preserved
loop-value-preserved c =
    one_more_written _ _ _ _ _ _ _ _ c.loop-value.invariant c.loop-value-test.true c.put_decimal-next.ensures
