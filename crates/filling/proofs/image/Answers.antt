-- `image` meets its contract: the root's row is given between the commands of the root and the end of the document.
use Rattle.std.proofs.Common.{arith}
use Rattle.std.proofs.lemmas.Result.{on_ok_weaker, on_err_weaker}
use Rattle.row_traversal.specs.Contents.{spans_from}
use Rattle.row_traversal.specs.Whole.{held, image_root, image_within, image_row}
use Rattle.filling.proofs.Exits.{on_err}
use Rattle.filling.proofs.Images.{root_fits, root_refused, held_fits, held_refused, close_fits, close_refused, end_fits, image_taken, end_refused}
use Rattle.filling.proofs.image.Goals as goal

pub row_of-row-requires-clause-element : goal.row_of-row-requires-clause-element
row_of-row-requires-clause-element g c = image_root c.requires.task.asked

pub open-requires : goal.open-requires
open-requires g c = root_fits g.S.Sink.laws c.requires.task

pub returns-in_err-open-clause-refused : goal.returns-in_err-open-clause-refused
returns-in_err-open-clause-refused g c = on_err _ (root_refused g.S.Sink.laws c.in_err-open.ensures.refused)

pub slice_bounds-run-count : goal.slice_bounds-run-count
slice_bounds-run-count g c = omega (arith, image_within c.requires.task.asked)

pub slice_bounds-run-start : goal.slice_bounds-run-start
slice_bounds-run-start g c = omega (arith, image_within c.requires.task.asked)

pub slice_bounds-run-count-2 : goal.slice_bounds-run-count-2
slice_bounds-run-count-2 g c = omega (arith, image_within c.requires.task.asked, c.requires.spans.whole)

pub slice_bounds-run-start-2 : goal.slice_bounds-run-start-2
slice_bounds-run-start-2 g c = omega (arith, image_within c.requires.task.asked, c.requires.spans.whole)

pub run-requires-clause-spans : goal.run-requires-clause-spans
run-requires-clause-spans g c = spans_from _ c.requires.spans

pub run-requires-clause-task : goal.run-requires-clause-task
run-requires-clause-task g c =
    let f = c.requires.task in record { bytes = held f.asked; asked = image_row f.asked c.row_of-row.ensures; room = held_fits g.S.Sink.laws c.in_ok-open.ensures.taken f }

pub returns-in_err-run-clause-refused : goal.returns-in_err-run-clause-refused
returns-in_err-run-clause-refused g c = on_err _ (held_refused g.S.Sink.laws c.in_ok-open.ensures.taken c.row_of-row.ensures c.in_err-run.ensures.refused)

pub put-requires : goal.put-requires
put-requires g c = close_fits g.S.Sink.laws c.in_ok-open.ensures.taken c.row_of-row.ensures c.in_ok-run.ensures.taken c.requires.task

pub returns-in_err-put-clause-refused : goal.returns-in_err-put-clause-refused
returns-in_err-put-clause-refused g c =
    on_err _ (close_refused g.S.Sink.laws c.in_ok-open.ensures.taken c.row_of-row.ensures c.in_ok-run.ensures.taken c.in_err-put.ensures.refused)

pub put-requires-2 : goal.put-requires-2
put-requires-2 g c = end_fits g.S.Sink.laws c.in_ok-open.ensures.taken c.row_of-row.ensures c.in_ok-run.ensures.taken c.in_ok-put.ensures.taken c.requires.task

pub returns-clause-taken : goal.returns-clause-taken
returns-clause-taken g c =
    on_ok_weaker _ (image_taken g.S.Sink.laws c.in_ok-open.ensures.taken c.row_of-row.ensures c.in_ok-run.ensures.taken c.in_ok-put.ensures.taken)
    c.put-2.ensures.taken

pub returns-clause-refused : goal.returns-clause-refused
returns-clause-refused g c =
    on_err_weaker _ (end_refused g.S.Sink.laws c.in_ok-open.ensures.taken c.row_of-row.ensures c.in_ok-run.ensures.taken c.in_ok-put.ensures.taken)
    c.put-2.ensures.refused
