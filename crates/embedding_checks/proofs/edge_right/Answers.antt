-- Each check by its own function, and all of them one after another.
use mathlib.Core.Path.{ap}
use mathlib.Core.Bool.{not}
use Rattle.embedding_checks.specs.Tests.{edge_right}
use Rattle.embedding_checks.proofs.Loops.{end_wrong, step-wrong, clash-decides}
use Rattle.embedding_checks.proofs.edge_right.Goals as goal

-- where all are asked for, the end is wrong
pub returns-then-not-ends_right : goal.returns-then-not-ends_right
returns-then-not-ends_right c =
    let a = c.args in
    end_wrong a.source.now a.target.now a.em.now a.map.now _ _ c.in-All.is c.ends_right-in-All.ensures (ap not c.if-not-ends_right.true)

-- the end is right and a step is wrong
pub returns-then-not-steps_right : goal.returns-then-not-steps_right
returns-then-not-steps_right c =
    let a = c.args in
    step-wrong a.source.now a.target.now a.em.now a.map.now _ _ c.in-All.is c.ends_right-in-All.ensures (ap not c.if-not-ends_right.false) c.steps_right-in-All.ensures (ap not c.if-not-steps_right.true)

pub returns-in-Ends : goal.returns-in-Ends
unfolding edge_right
returns-in-Ends c = rw c.in-Ends.is c.ends_right.ensures

pub returns-in-Steps : goal.returns-in-Steps
unfolding edge_right
returns-in-Steps c = rw c.in-Steps.is c.steps_right.ensures

pub returns-in-Clashes : goal.returns-in-Clashes
unfolding edge_right
returns-in-Clashes c = rw c.in-Clashes.is (ap not c.clashes_before.ensures)

-- both are right
pub returns-else-not-steps_right : goal.returns-else-not-steps_right
returns-else-not-steps_right c =
    let a = c.args in
    clash-decides a.source.now a.target.now a.em.now a.map.now _ _ c.in-All.is c.ends_right-in-All.ensures (ap not c.if-not-ends_right.false) c.steps_right-in-All.ensures (ap not c.if-not-steps_right.false) c.clashes_before-in-All.ensures
