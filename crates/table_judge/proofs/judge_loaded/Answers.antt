-- `judge_loaded` meets its contract: the checks in their order.
use mathlib.Core.Path.{◌≡◌, refl, sym, ap}
use Prim.Native.Nat.{ℕ}
use Rattle.std.specs.Prelude.{⊤, Result}
use Rattle.std.specs.Result.{is_ok}
use Rattle.answers.specs.declared.Fault.{Fault}
use Rattle.model.specs.Definitions.Basics.{passes}
use Rattle.model.specs.Definitions.TableChecks.{table_operands, table_repeats}
use Rattle.table_judge.proofs.Checks.{right, refuses, failed, operand_refused, repeat_refused, ready, endless-by, endless-refused, all-accepted}
use Rattle.table_judge.proofs.judge_loaded.Goals as goal
use Rattle.table_judge.proofs.judge_loaded.Goals.{In_ok-map_err, In_default}

-- check 4 has passed
operands_pass : (c : In_ok-map_err) → table_operands c.types.result c.args.t.now ≡ passes
operands_pass c = right _ c.operands.ensures c.in_ok-map_err.ensures.variant

-- check 5 has passed
repeats_pass : (c : In_default) → table_repeats c.args.t.now ≡ passes
repeats_pass c = right _ c.repeats.ensures (ap (λ (r : Result ⊤ ℕ). is_ok r) (sym c.in_default.is))

pub returns-in_err-map_err : goal.returns-in_err-map_err
returns-in_err-map_err c =
    let no = refuses _ _ _ Fault.BadOperand c.operands.ensures c.map_err.ensures.cases c.in_err-map_err.was c.from_residual.ensures.1 in
    rw no.answer (operand_refused _ _ c.load.ensures _ no.at c.types.ensures.0 no.failed)

pub returns-in-Err : goal.returns-in-Err
returns-in-Err c = repeat_refused _ _ c.load.ensures _ _ c.types.ensures.0 (operands_pass (goal.at.returns-in-Err c).In_ok-map_err) (failed c.repeats.ensures c.in-Err.is)

pub first_endless-requires : goal.first_endless-requires
first_endless-requires c = ready _ _ c.load.ensures _ c.find_heights.ensures

pub returns-in_err-map_err-2 : goal.returns-in_err-map_err-2
returns-in_err-map_err-2 c =
    let loaded = c.load.ensures in
    let found = c.find_heights.ensures in
    let no = refuses _ _ _ Fault.NoFiniteInstance c.first_endless.ensures c.map_err-2.ensures.cases c.in_err-map_err-2.was c.from_residual-in_err-map_err-2.ensures.1 in
    rw no.answer
    (endless-refused _ _ loaded _ found _ no.at c.types.ensures.0 (operands_pass (goal.at.returns-in_err-map_err-2 c).In_ok-map_err) (repeats_pass (goal.at.returns-in_err-map_err-2 c).In_default)
    (endless-by _ _ loaded _ found refl no.failed))

pub find_fill-requires : goal.find_fill-requires
find_fill-requires c = ready _ _ c.load.ensures _ c.find_heights.ensures

pub returns : goal.returns
returns c =
    let loaded = c.load.ensures in
    let found = c.find_heights.ensures in
    all-accepted _ _ loaded _ found _ c.types.ensures.0 (operands_pass (goal.at.returns c).In_ok-map_err) (repeats_pass (goal.at.returns c).In_default)
    (endless-by _ _ loaded _ found refl (right _ c.first_endless.ensures c.in_ok-map_err-2.ensures.variant)) c.find_fill.ensures
