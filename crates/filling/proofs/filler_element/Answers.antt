-- `filler_element` meets its contract: an empty row's element is 30 t 32.
use Rattle.std.proofs.lemmas.Result.{on_ok_weaker, on_err_weaker}
use Rattle.row_traversal.specs.FillerRows.{filler_empty}
use Rattle.filling.proofs.Exits.{on_err}
use Rattle.filling.proofs.Taking.{opening_fits, filler_unopened, empty_fits, empty_taken, empty_refused}
use Rattle.filling.proofs.filler_element.Goals as goal

pub open-requires : goal.open-requires
open-requires g c = opening_fits g.S.Sink.laws c.requires

pub returns-in_err-open-clause-refused : goal.returns-in_err-open-clause-refused
returns-in_err-open-clause-refused g c = on_err _ (filler_unopened g.S.Sink.laws c.in_err-open.ensures.refused)

pub put-requires : goal.put-requires
put-requires g c =
    empty_fits g.S.Sink.laws c.in_ok-open.ensures.taken (λ bs a. filler_empty a c.from-row.ensures c.from.ensures c.to-to.ensures c.if-from-to.true) c.requires

pub returns-then-from-to-clause-taken : goal.returns-then-from-to-clause-taken
returns-then-from-to-clause-taken g c =
    on_ok_weaker _
    (empty_taken g.S.Sink.laws c.in_ok-open.ensures.taken (λ bs a. filler_empty a c.from-row.ensures c.from.ensures c.to-to.ensures c.if-from-to.true))
    c.put.ensures.taken

pub returns-then-from-to-clause-refused : goal.returns-then-from-to-clause-refused
returns-then-from-to-clause-refused g c =
    on_err_weaker _
    (empty_refused g.S.Sink.laws c.in_ok-open.ensures.taken (λ bs a. filler_empty a c.from-row.ensures c.from.ensures c.to-to.ensures c.if-from-to.true))
    c.put.ensures.refused
