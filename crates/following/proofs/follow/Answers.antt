use native.Mathlib.Omega.{arith}
use Rattle.paths.specs.Stepping.{is_small, step_bounds}
use Rattle.following.proofs.Onward.{onward_start, next_small, onward_done, onward-missing, onward-there}
use Rattle.following.proofs.follow.Goals as goal

pub loop-i-init : goal.loop-i-init
loop-i-init c = onward_start c.requires.path c.args.tr.now c.args.at

pub overflow_sub-p : goal.overflow_sub-p
overflow_sub-p c = (step_bounds c.loop-i.invariant.walk c.loop-i-test.true c.step-p.ensures.0).0

pub member-next-requires : goal.member-next-requires
member-next-requires c =
    let walk = c.loop-i.invariant.walk in
    let read = c.step-p.ensures.0 in
    let bounds = step_bounds walk c.loop-i-test.true read in
    (is_small walk c.loop-i-test.true read, omega (arith, bounds.0, bounds.1))

pub enter-requires-clause-small : goal.enter-requires-clause-small
enter-requires-clause-small c = next_small c.loop-i.invariant c.loop-i-test.true c.step-p.ensures.0 c.member-next.ensures.0 c.kind.ensures.0

pub enter-requires-clause-content : goal.enter-requires-clause-content
enter-requires-clause-content c = let there = c.loop-i.invariant.reached c.requires.content.0 c.requires.content.1 in (there.content, there.there)

pub returns-in_err-here : goal.returns-in_err-here
returns-in_err-here c =
    rw c.from_residual.ensures
    (onward-missing c.loop-i.invariant c.loop-i-test.true c.step-p.ensures.0 c.member-next.ensures.0 c.kind.ensures.0 c.in_err-here.ensures)

pub loop-i-preserved : goal.loop-i-preserved
loop-i-preserved c =
    onward-there c.loop-i.invariant c.loop-i-test.true c.step-p.ensures.0 c.member-next.ensures.0 c.kind.ensures.0 c.in_ok-here.ensures

pub returns : goal.returns
returns c = λ k a. onward_done c.loop-i.invariant k a c.loop-i-test.false
