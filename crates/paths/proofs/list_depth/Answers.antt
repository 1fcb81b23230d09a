use native.Mathlib.Omega.{arith}
use Rattle.paths.specs.Stepping.{is_small, step_bounds}
use Rattle.paths.proofs.Dividing.{divides_none, divides-list, divides-on}
use Rattle.paths.proofs.list_depth.Goals as goal

pub overflow_sub-p : goal.overflow_sub-p
overflow_sub-p c = (step_bounds c.loop-d.invariant.walk (omega arith) c.step-p.ensures.0).0

pub member-next-requires : goal.member-next-requires
member-next-requires c =
    let walk = c.loop-d.invariant.walk in
    let p = c.step-p.ensures.0 in
    let bounds = step_bounds walk (omega arith) p in
    (is_small walk (omega arith) p, omega (arith, bounds.0, bounds.1))

pub returns-then-kind-ge-LIST : goal.returns-then-kind-ge-LIST
returns-then-kind-ge-LIST c =
    divides-list c.loop-d.invariant (omega arith) c.step-p.ensures.0 c.member-next.ensures.0 (rw c.kind.ensures.0 at c.if-kind-ge-LIST.true)

pub loop-d-preserved : goal.loop-d-preserved
loop-d-preserved c =
    divides-on c.loop-d.invariant (omega arith) c.step-p.ensures.0 c.member-next.ensures.0 (rw c.kind.ensures.0 at c.if-kind-ge-LIST.false)

pub returns : goal.returns
returns c = divides_none c.loop-d.invariant (omega arith)
