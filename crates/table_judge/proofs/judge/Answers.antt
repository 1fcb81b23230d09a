-- `judge` meets its contract: the first three checks in their order, then the others.
use Rattle.answers.specs.declared.Fault.{Fault}
use Rattle.table_judge.proofs.Checks.{right, refuses, length_refused, form_refused, limit_refused, later_decides}
use Rattle.table_judge.proofs.judge.Goals as goal
use Rattle.table_judge.proofs.judge.Goals.{then-not-formed+in_ok-map_err+in_ok-map_err-2, else-not-formed}

pub returns-then-t-gt-MAX_BYTES : goal.returns-then-t-gt-MAX_BYTES
returns-then-t-gt-MAX_BYTES c = length_refused _ _ c.if-t-gt-MAX_BYTES.true

pub returns-in_err-map_err : goal.returns-in_err-map_err
returns-in_err-map_err c =
    let no = refuses _ _ _ Fault.BadForm c.form.ensures c.map_err.ensures.cases c.in_err-map_err.was c.from_residual.ensures.1 in
    rw no.answer (form_refused _ _ no.at c.if-t-gt-MAX_BYTES.false no.failed)

pub returns-in_err-map_err-2 : goal.returns-in_err-map_err-2
returns-in_err-map_err-2 c =
    let no = refuses _ _ _ Fault.OverLimit c.limits.ensures c.map_err-then-not-formed.ensures.cases c.in_err-map_err-2.was c.from_residual-in_err-map_err-2.ensures.1 in
    rw no.answer (limit_refused _ _ no.at c.if-t-gt-MAX_BYTES.false (right _ c.form.ensures c.in_ok-map_err.ensures.variant) no.failed)

pub returns : goal.returns
returns c =
    let short = c.if-t-gt-MAX_BYTES.false in
    elim c.if-not-formed.branch [
      | then-not-formed+in_ok-map_err+in_ok-map_err-2 w ↦
          let form = right _ w.form.ensures w.in_ok-map_err.ensures.variant in
          let limits = right _ w.limits.ensures w.in_ok-map_err-2.ensures.variant in
          later_decides _ _ _ short form limits c.judge_loaded.ensures
      | else-not-formed w ↦ let both = c.formed.ensures w.if-not-formed.false in later_decides _ _ _ short both.0 both.1 c.judge_loaded.ensures
    ]
