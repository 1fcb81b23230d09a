use mathlib.Core.Path.{refl}
use native.Mathlib.Omega.{arith}
use Rattle.case_text.specs.Hexadecimal.{hex_text}
use Rattle.case_text.proofs.DocumentLines.{one_more_hexed}
use Rattle.case_text.proofs.hexadecimal.put_hex.Goals as goal

pub loop-i-init : goal.loop-i-init
unfolding hex_text
loop-i-init c = record { written = refl; after = omega arith }

pub loop-i-preserved : goal.loop-i-preserved
loop-i-preserved c =
    one_more_hexed _ _ _ _ _ _ _ _ _ c.loop-i.invariant c.loop-i-test.true c.digit.ensures c.digit-in-loop-i.ensures (omega arith)
