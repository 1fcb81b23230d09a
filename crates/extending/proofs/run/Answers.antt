use Prim.Native.Nat.{ℕ}
use lib.ListN.{length-replicate}
use Rattle.extending.proofs.Running.{none_ran, room_for_answer, stop-answered, one-more-ran, report_answered}
use Rattle.extending.proofs.run.Goals as goal

pub loop-at-init : goal.loop-at-init
loop-at-init c = none_ran _ _ _ (length-replicate {A = ℕ} 60000 0) c.requires.0

pub returns-in_default : goal.returns-in_default
returns-in_default c = stop-answered c.loop-at.invariant c.loop-at-test.true _ c.in_default.ensures

pub put_answer-requires : goal.put_answer-requires
put_answer-requires c = room_for_answer c.loop-at.invariant c.in-Some.ensures c.requires.1

pub loop-at-preserved : goal.loop-at-preserved
loop-at-preserved c = one-more-ran c.loop-at.invariant c.loop-at-test.true c.in-Some.ensures c.put_answer.ensures

pub returns : goal.returns
returns c = report_answered c.loop-at.invariant _ _ _ c.loop-at-test.false c.requires.1 c.write_report.ensures
