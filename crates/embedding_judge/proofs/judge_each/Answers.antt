-- The checks in order: each is made where those before it pass.
use Rattle.embedding_judge.proofs.Checks.{check_passes, check_fails, check_last, ends_wrong, steps_wrong, clash_decides}
use Rattle.embedding_judge.proofs.judge_each.Goals as goal

pub returns-in_err-map_err : goal.returns-in_err-map_err
returns-in_err-map_err c =
    let wrong = check_fails c.first_fault.result (record { told = c.first_fault.ensures; with_name = c.map_err.ensures.cases }) c.in_err-map_err.was c.from_residual.ensures.1 in
    rw wrong.2 (ends_wrong _ _ _ _ wrong.1)

pub returns-in_err-map_err-2 : goal.returns-in_err-map_err-2
returns-in_err-map_err-2 c =
    let ends = check_passes c.first_fault.result (record { told = c.first_fault.ensures; with_name = c.map_err.ensures.cases }) c.in_ok-map_err.was in
    let wrong = check_fails c.first_fault-2.result (record { told = c.first_fault-2.ensures; with_name = c.map_err-2.ensures.cases }) c.in_err-map_err-2.was c.from_residual-in_err-map_err-2.ensures.1 in
    rw wrong.2 (steps_wrong _ _ _ _ ends wrong.1)

pub returns : goal.returns
returns c =
    let ends = check_passes c.first_fault.result (record { told = c.first_fault.ensures; with_name = c.map_err.ensures.cases }) c.in_ok-map_err.was in
    let steps = check_passes c.first_fault-2.result (record { told = c.first_fault-2.ensures; with_name = c.map_err-2.ensures.cases }) c.in_ok-map_err-2.was in
    clash_decides _ _ _ ends steps (check_last c.first_fault-3.result (record { told = c.first_fault-3.ensures; with_name = c.map_err-3.ensures.cases }))
