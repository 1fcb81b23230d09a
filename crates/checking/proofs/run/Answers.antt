-- Behind the last command the state decides.
use Rattle.std.proofs.Common.{◌≡◌, length, arith, ◌∙◌}
use Rattle.model.specs.Definitions.Basics.{pick}
use Rattle.checking.proofs.run.Goals as goal

pub returns-then-may_end : goal.returns-then-may_end
unfolding pick
returns-then-may_end g c =
    let last : length c.args.document.now ≡ c.loop-at.at = omega (arith, c.loop-at.invariant.0, c.loop-at-test.false) in
    let says = (rw c.if-may_end.true at c.may_end.ensures) c.args.document.now in
    (rw last at says) ∙ c.loop-at.invariant.2

pub returns : goal.returns
unfolding pick
returns g c =
    let last : length c.args.document.now ≡ c.loop-at.at = omega (arith, c.loop-at.invariant.0, c.loop-at-test.false) in
    let says = (rw c.if-may_end.false at c.may_end.ensures) c.args.document.now in
    (rw last at says) ∙ c.loop-at.invariant.2
