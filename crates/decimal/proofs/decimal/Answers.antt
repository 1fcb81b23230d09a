use native.Mathlib.Omega.{arith}
use Rattle.decimal.proofs.Spelling.{none_spelled, next_fits, spelled_more, all_spelled}
use Rattle.decimal.proofs.decimal.Goals as goal

pub loop-i-init : goal.loop-i-init
loop-i-init c = none_spelled _ _ c.width-count.ensures

pub find-found-requires : goal.find-found-requires
find-found-requires c = omega (arith, c.power.ensures, next_fits c.loop-i.invariant c.loop-i-test.true)

pub loop-i-preserved : goal.loop-i-preserved
loop-i-preserved c =
    spelled_more _ _ _ _ _ _ _ c.loop-i.invariant c.loop-i-test.true c.width-count.ensures.reaches.not_more
    (rw c.power.ensures at c.find-found.ensures)

pub returns-clause-form : goal.returns-clause-form
returns-clause-form c = all_spelled _ _ _ _ _ c.width-count.ensures c.loop-i.invariant c.loop-i-test.false
