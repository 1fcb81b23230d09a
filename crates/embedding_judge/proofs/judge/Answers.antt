-- The checks in order: each is made where those before it pass.
use mathlib.Core.Path.{◌≡◌}
use Rattle.loaded_table.specs.Loaded.{table_by}
use Rattle.model.specs.Definitions.Basics.{passes}
use Rattle.model.specs.Definitions.EmbeddingChecks.{embedding_form, embedding_limits, embedding_operands}
use Rattle.embedding_judge.proofs.Checks.{check_passes, check_fails, length_refused, form_refused, limit_refused, operand_refused, paths_ready, paths-decide}
use Rattle.embedding_judge.proofs.judge.Goals.{In_ok-map_err, In_ok-map_err-2, In_ok-map_err-3}
use Rattle.embedding_judge.proofs.judge.Goals as goal

-- where check 2, check 3 and check 4 have passed
form_passes : (c : In_ok-map_err) → embedding_form (table_by c.args.source.now) c.args.em.now ≡ passes
form_passes c = check_passes c.form.result (record { told = c.form.ensures; with_name = c.map_err.ensures.cases }) c.in_ok-map_err.was

limits_pass : (c : In_ok-map_err-2) → embedding_limits c.args.em.now ≡ passes
limits_pass c = check_passes c.limits.result (record { told = c.limits.ensures; with_name = c.map_err-2.ensures.cases }) c.in_ok-map_err-2.was

operands_pass : (c : In_ok-map_err-3) → embedding_operands (table_by c.args.target.now) c.args.em.now ≡ passes
operands_pass c = check_passes c.operands.result (record { told = c.operands.ensures; with_name = c.map_err-3.ensures.cases }) c.in_ok-map_err-3.was

pub returns-then-em-gt-MAX_BYTES : goal.returns-then-em-gt-MAX_BYTES
returns-then-em-gt-MAX_BYTES c = length_refused _ _ _ _ c.if-em-gt-MAX_BYTES.true

pub returns-in_err-map_err : goal.returns-in_err-map_err
returns-in_err-map_err c =
    let wrong = check_fails c.form.result (record { told = c.form.ensures; with_name = c.map_err.ensures.cases }) c.in_err-map_err.was c.from_residual.ensures.1 in
    rw wrong.2 (form_refused _ _ _ _ c.if-em-gt-MAX_BYTES.false _ wrong.1)

pub returns-in_err-map_err-2 : goal.returns-in_err-map_err-2
returns-in_err-map_err-2 c =
    let wrong = check_fails c.limits.result (record { told = c.limits.ensures; with_name = c.map_err-2.ensures.cases }) c.in_err-map_err-2.was c.from_residual-in_err-map_err-2.ensures.1 in
    rw wrong.2 (limit_refused _ _ _ _ c.if-em-gt-MAX_BYTES.false (form_passes (goal.at.returns-in_err-map_err-2 c).In_ok-map_err) _ wrong.1)

pub returns-in_err-map_err-3 : goal.returns-in_err-map_err-3
returns-in_err-map_err-3 c =
    let at = goal.at.returns-in_err-map_err-3 c in
    let wrong = check_fails c.operands.result (record { told = c.operands.ensures; with_name = c.map_err-3.ensures.cases }) c.in_err-map_err-3.was c.from_residual-in_err-map_err-3.ensures.1 in
    rw wrong.2 (operand_refused _ _ _ _ c.if-em-gt-MAX_BYTES.false (form_passes at.In_ok-map_err) (limits_pass at.In_ok-map_err-2) _ wrong.1)

pub load-requires : goal.load-requires
load-requires c =
    let at = goal.at.load-requires c in
    record { bounded = c.requires.judgeable.source_bounded; em_value = form_passes at.In_ok-map_err; em_value_2 = limits_pass at.In_ok-map_err-2; em_len_bound = c.if-em-gt-MAX_BYTES.false; cleared = c.requires.cleared }

pub judge_paths-requires : goal.judge_paths-requires
judge_paths-requires c = paths_ready c.requires.judgeable (operands_pass (goal.at.judge_paths-requires c).In_ok-map_err-3) c.load.ensures

pub returns : goal.returns
returns c =
    let at = goal.at.returns c in
    paths-decide _ _ _ _ c.if-em-gt-MAX_BYTES.false (form_passes at.In_ok-map_err) (limits_pass at.In_ok-map_err-2) _ (operands_pass at.In_ok-map_err-3) c.load.ensures c.judge_paths.ensures
