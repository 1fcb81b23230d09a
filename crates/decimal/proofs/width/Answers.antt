use native.Mathlib.Omega.{arith}
use Rattle.decimal.proofs.width.Goals as goal

pub returns-then-n-power : goal.returns-then-n-power
returns-then-n-power c = record { reaches = c.loop-w.invariant; below = omega (arith, c.if-n-power.true, c.power.ensures) }
