-- `load` meets its contract: an accepted document's table is valid.
use mathlib.Core.Path.{sym}
use Rattle.std.proofs.lemmas.Result.{err_from_is_err_and}
use Rattle.model.proofs.Theorems.ValidTables.{accepted_table_valid}
use Rattle.table_operations.proofs.Operating.{load_refused, load_done}
use Rattle.table_operations.proofs.Table.load.Goals as goal

pub returns-in_err-judge : goal.returns-in_err-judge
returns-in_err-judge c =
    let (f, is, same) = err_from_is_err_and c.from_residual.result c.from_residual.ensures.1 in load_refused c.in_err-judge.ensures.judgement (rw same at is)

pub returns : goal.returns
returns c =
    let judged = c.in_ok-judge.ensures in
    load_done judged.judgement (record { stands = judged.loaded (sym judged.judgement); valid = accepted_table_valid _ (sym judged.judgement) })
