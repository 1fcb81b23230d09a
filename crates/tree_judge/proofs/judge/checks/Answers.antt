-- `checks` meets its contract: each check is made where those before it pass.
use Rattle.std.proofs.Common.{sym, ap, ◌∙◌, ◌≡◌}
use Rattle.answers.specs.declared.Fault.TheVariants as Fault
use Rattle.answers.specs.Answers.{judged}
use Rattle.model.specs.Definitions.Basics.{passes}
use Rattle.model.specs.Definitions.Refusals.{bad_form, over_limit}
use Rattle.model.specs.Definitions.TreeChecks.{tree_form, tree_levels}
use Rattle.tree_judge.proofs.Judging.{same_error, check_named, check_passed, judged_long, judged-form, judged-levels, judged-operands}
use Rattle.tree_judge.proofs.judge.checks.Goals.{In_ok-map_err, In_ok-map_err-2}
use Rattle.tree_judge.proofs.judge.checks.Goals as goal

-- a check that has passed
formed : (c : In_ok-map_err) → tree_form c.args.t.now ≡ passes
formed c = check_passed bad_form _ (sym (ap judged c.in_ok-map_err.was) ∙ check_named Fault.BadForm _ c.form.result c.form.ensures c.map_err.ensures.cases)

leveled : (c : In_ok-map_err-2) → tree_levels c.args.t.now ≡ passes
leveled c = check_passed over_limit _ (sym (ap judged c.in_ok-map_err-2.was) ∙ check_named Fault.OverLimit _ c.levels.result c.levels.ensures c.map_err-2.ensures.cases)

pub returns-then-t-gt-MAX_BYTES : goal.returns-then-t-gt-MAX_BYTES
returns-then-t-gt-MAX_BYTES c = judged_long _ _ c.if-t-gt-MAX_BYTES.true

pub returns-in_err-map_err : goal.returns-in_err-map_err
returns-in_err-map_err c =
    let part = c.in_err-map_err.was in
    same_error _ _ part c.from_residual.ensures.1
    ∙ ap judged part ∙ judged-form _ _ c.if-t-gt-MAX_BYTES.false (sym (ap judged part) ∙ check_named Fault.BadForm _ c.form.result c.form.ensures c.map_err.ensures.cases)

pub returns-in_err-map_err-2 : goal.returns-in_err-map_err-2
returns-in_err-map_err-2 c =
    let part = c.in_err-map_err-2.was in
    same_error _ _ part c.from_residual-in_err-map_err-2.ensures.1
    ∙ ap judged part
    ∙ judged-levels _ _ c.if-t-gt-MAX_BYTES.false (formed (goal.at.returns-in_err-map_err-2 c).In_ok-map_err)
    (sym (ap judged part) ∙ check_named Fault.OverLimit _ c.levels.result c.levels.ensures c.map_err-2.ensures.cases)

pub returns : goal.returns
returns c =
    judged-operands _ _ c.if-t-gt-MAX_BYTES.false (formed (goal.at.returns c).In_ok-map_err) (leveled (goal.at.returns c).In_ok-map_err-2)
    (check_named Fault.BadOperand _ c.operands.result c.operands.ensures c.map_err-3.ensures.cases)
