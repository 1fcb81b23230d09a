-- `by_checks` meets its contract: the first check that fails gives the fault.
use Rattle.std.proofs.Common.{◌≡◌, length, sym, ap, ◌∙◌}
use Rattle.answers.specs.declared.Fault.TheVariants as Fault
use Rattle.answers.specs.Answers.{judged}
use Rattle.model.specs.Definitions.Refusals.{sound}
use Rattle.loaded_table.specs.Loaded.{table_by}
use Rattle.tree_levels.proofs.Elements.{opens_counted}
use Rattle.tree_judge.specs.Judging.{judged_before}
use Rattle.tree_judge.proofs.Judging.{by_types, fault_before, passed_before, check_named, judged_expected, refused}
use Rattle.tree_judge.proofs.judge.by_checks.Goals.{In_ok-checks}
use Rattle.tree_judge.proofs.judge.by_checks.Goals as goal

-- checks 1 to 4 have passed
passed : (c : In_ok-checks) → sound ≡ judged_before (length (table_by c.args.table.now)) c.args.t.now
passed c = by_types c.args.table.now _ c.types.ensures.0 c.in_ok-checks.ensures

pub expected-requires : goal.expected-requires
expected-requires c = passed_before _ _ c.requires (passed (goal.at.expected-requires c).In_ok-checks)

pub returns-in_err-checks : goal.returns-in_err-checks
returns-in_err-checks c = refused _ _ _ _ c.from_residual.ensures.1 (fault_before _ _ (by_types c.args.table.now _ c.types.ensures.0 c.in_err-checks.ensures))

pub returns-in_err-map_err : goal.returns-in_err-map_err
returns-in_err-map_err c =
    refused _ _ _ _ c.from_residual-in_err-map_err.ensures.1
    (judged_expected _ _ (passed (goal.at.returns-in_err-map_err c).In_ok-checks)
    (sym (ap judged c.in_err-map_err.was) ∙ check_named Fault.Unexpected _ c.expected.result c.expected.ensures c.map_err.ensures.cases))

pub returns : goal.returns
returns c =
    let before = passed (goal.at.returns c).In_ok-checks in
    let found = sym (ap judged c.in_ok-map_err.was) ∙ check_named Fault.Unexpected _ c.expected.result c.expected.ensures c.map_err.ensures.cases in
    (sym (judged_expected _ _ before found), c.count.ensures ∙ opens_counted _ (passed_before _ _ c.requires before).form)
