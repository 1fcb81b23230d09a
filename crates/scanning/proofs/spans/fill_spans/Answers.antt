use native.Mathlib.Omega.{arith}
use Rattle.scanning.proofs.Spanning.{none_filled, fill_next, all_filled}
use Rattle.scanning.proofs.spans.fill_spans.Goals as goal

pub loop-o-init : goal.loop-o-init
loop-o-init c = none_filled _ _ c.requires.1

pub returns-then-o-gt0 : goal.returns-then-o-gt0
returns-then-o-gt0 c =
    all_filled (fill_next c.loop-o.invariant c.requires _ (omega (arith, c.if-o-gt0.true, c.loop-o-test.false)) c.fill_span.ensures) (omega arith) c.requires

pub returns-else-o-gt0 : goal.returns-else-o-gt0
returns-else-o-gt0 c = all_filled c.loop-o.invariant (omega (arith, c.if-o-gt0.false)) c.requires
