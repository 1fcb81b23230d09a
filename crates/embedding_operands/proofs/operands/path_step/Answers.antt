-- `path_step` meets its contract, by cases on the command and on where a step goes.
use native.Mathlib.Omega.{arith}
use Rattle.loaded_table.specs.Loaded.{table_by, length_of_lem}
use Rattle.embedding_operands.proofs.Paths.{maps_known, maps_unknown, path_again, end_stays, step_taken, step_missing}
use Rattle.embedding_operands.proofs.operands.path_step.Goals as goal

pub returns-then-t-types : goal.returns-then-t-types
returns-then-t-types c = rw (c.in-MapsTo.is, c.from-t.ensures) (maps_known (table_by c.args.target.now) _ _ _ (omega (arith, c.if-t-types.true, c.types.ensures.0, c.from-t.ensures, length_of_lem c.args.target.now)))

pub returns-else-t-types : goal.returns-else-t-types
returns-else-t-types c = rw c.in-MapsTo.is (maps_unknown (table_by c.args.target.now) _ _ _ (omega (arith, c.if-t-types.false, c.types.ensures.0, c.from-t.ensures, length_of_lem c.args.target.now)))

pub returns-in-Path : goal.returns-in-Path
returns-in-Path c = rw c.in-Path.is (path_again (table_by c.args.target.now) _ _)

pub returns-in_ok-step_from-in-Step : goal.returns-in_ok-step_from-in-Step
returns-in_ok-step_from-in-Step c =
    rw c.in-Step.is
    (step_taken (table_by c.args.target.now) _ _ _ _ (rw c.from.ensures at c.in_ok-step_from-in-Step.ensures))

pub returns-in_err-step_from-in-Step : goal.returns-in_err-step_from-in-Step
returns-in_err-step_from-in-Step c =
    rw (c.in-Step.is, c.from_residual.ensures)
    (step_missing (table_by c.args.target.now) _ _ _ (rw c.from.ensures at c.in_err-step_from-in-Step.ensures))

pub returns-in-End : goal.returns-in-End
returns-in-End c = rw c.in-End.is (end_stays (table_by c.args.target.now) _ _)
