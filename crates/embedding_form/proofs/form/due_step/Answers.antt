-- `due_step` meets its contract, by cases on the command.
use mathlib.Core.Path.{ap, ◌∙◌}
use native.Mathlib.Omega.{arith}
use Rattle.loaded_table.specs.Loaded.{table_by}
use Rattle.embedding_form.specs.States.{form_next}
use Rattle.embedding_form.proofs.Forms.{path_due, path_undue, step_if}
use Rattle.embedding_form.proofs.form.due_step.Goals as goal

pub returns-in-MapsTo : goal.returns-in-MapsTo
returns-in-MapsTo c = rw c.in-MapsTo.is (c.on_type.ensures c.args.begun _)

pub returns-in_ok-checked_sub-in-Path : goal.returns-in_ok-checked_sub-in-Path
returns-in_ok-checked_sub-in-Path c = let left = c.in_ok-checked_sub-in-Path.ensures in rw (c.in-Path.is, left.1) (path_due _ _ _ left.0)

pub returns-in_err-checked_sub-in-Path : goal.returns-in_err-checked_sub-in-Path
returns-in_err-checked_sub-in-Path c = rw (c.in-Path.is, c.from_residual.ensures) (path_undue _ _ _ (omega (arith, c.in_err-checked_sub-in-Path.ensures)))

pub returns-in-Step : goal.returns-in-Step
returns-in-Step c = rw c.in-Step.is (ap (form_next (table_by c.args.source.now)) c.then_some.ensures ∙ step_if (table_by c.args.source.now) c.args.edges c.args.types c.in-Step.field-0 c.args.begun)

pub returns-in-End : goal.returns-in-End
returns-in-End c = rw c.in-End.is (c.on_end.ensures c.args.begun)
