-- The cycle of calls {child, items, run}.
use Rattle.std.proofs.Common.{arith}
use Rattle.std.proofs.lemmas.Result.{on_ok_weaker, on_err_weaker}
use Rattle.row_traversal.specs.Contents.{spans_from, behind_none, behind_same}
use Rattle.row_traversal.specs.RowNumbers.{rank_bounds, item_rank}
use Rattle.row_traversal.specs.Turns.{row_there, items-rank}
use Rattle.row_traversal.specs.Elements.{element_within, child_row}
use Rattle.row_traversal.specs.Loops.{row_goes, row_last, row-less, row-sought, asks-items, asks-child, asks-plain, items_done, child-done, plain_done, row-then, list_goes, list_within, list_last, item-inside, item-passed, item-asks, item_then, item_on}
use Rattle.filling.proofs.Exits.{on_err}
use Rattle.filling.proofs.Taking.{take_all, take_room, take_turn, take_stops, all_taken, as_row, row_takes}
use Rattle.filling.proofs.+child_items_run.Goals as goal
use Rattle.filling.proofs.+child_items_run.Goals.{run-then-x+in_ok-items, run-else-x+in-Some+in_ok-child, run-else-x+in_default+in_ok-plain}

-- what the rows' laws ask of a child's number
child_known : {A B C D : Type 0} → A × B × C × D → A × B × C
child_known (a, b, c, d) = (a, b, c)

-- ---- a child

pub child-overflow_add-inside : goal.child-overflow_add-inside
child-overflow_add-inside g t c = omega (arith, element_within c.requires.task.asked, c.requires.spans.short)

pub child-slice_bounds-run-count : goal.child-slice_bounds-run-count
child-slice_bounds-run-count g t c = omega (arith, element_within c.requires.task.asked)

pub child-slice_bounds-run-start : goal.child-slice_bounds-run-start
child-slice_bounds-run-start g t c = omega (arith, element_within c.requires.task.asked, c.requires.spans.whole)

pub child-run-requires : goal.child-run-requires
child-run-requires g t c =
    let f = c.requires.task in
    let row = c.row_of-row in
    λ κs lives.
    (omega (arith, c.decreases, element_within f.asked, (rank_bounds row.result).1), (lives, (spans_from _ c.requires.spans, record { bytes = f.bytes; asked = child_row f.asked row.ensures; room = f.room })))

pub child-returns-clause-taken : goal.child-returns-clause-taken
child-returns-clause-taken g t c = on_ok_weaker _ (as_row (λ bs a. child_row a c.row_of-row.ensures)) c.run.ensures.taken

pub child-returns-clause-refused : goal.child-returns-clause-refused
child-returns-clause-refused g t c = on_err_weaker _ (as_row (λ bs a. child_row a c.row_of-row.ensures)) c.run.ensures.refused

-- ---- the items of a list

pub items-loop-o-init : goal.items-loop-o-init
items-loop-o-init g t c = list_goes (take_all g.S.Sink.laws c.requires.task.room)

pub items-bounds-tr-o : goal.items-bounds-tr-o
items-bounds-tr-o g t c = list_within c.loop-o.invariant c.requires.task.asked

pub items-run-requires : goal.items-run-requires
items-run-requires g t c =
    let f = c.requires.task in
    λ κs lives.
    (omega (arith, c.decreases, item_rank f.asked.listed.type c.args.r f.asked.listed.is_row), (lives, (spans_from _ c.requires.spans, item-asks c.loop-o.invariant c.loop-o-test.true f.asked (take_room g.S.Sink.laws f.room))))

pub items-returns-in_err-run-clause-refused : goal.items-returns-in_err-run-clause-refused
items-returns-in_err-run-clause-refused g t c =
    on_err _ (item_then c.loop-o.invariant c.loop-o-test.true (take_stops g.S.Sink.laws) c.in_err-run.ensures.refused)

pub items-close_of-close-requires-clause-content : goal.items-close_of-close-requires-clause-content
items-close_of-close-requires-clause-content g t c = item-inside c.loop-o.invariant c.loop-o-test.true c.requires.task.asked

pub items-overflow_add-o-in-loop-o : goal.items-overflow_add-o-in-loop-o
items-overflow_add-o-in-loop-o g t c =
    omega (arith, (item-passed c.loop-o.invariant c.loop-o-test.true c.requires.task.asked c.close_of-close.ensures).1, c.requires.spans.short)

pub items-loop-o-smaller : goal.items-loop-o-smaller
items-loop-o-smaller g t c =
    let far = item-passed c.loop-o.invariant c.loop-o-test.true c.requires.task.asked c.close_of-close.ensures in
    omega (arith, far.0, far.1)

pub items-loop-o-preserved : goal.items-loop-o-preserved
items-loop-o-preserved g t c = item_on c.loop-o.invariant c.loop-o-test.true (take_turn g.S.Sink.laws) c.in_ok-run.ensures.taken c.close_of-close.ensures

pub items-returns-clause-taken : goal.items-returns-clause-taken
items-returns-clause-taken g t c bs a = all_taken g.S.Sink.laws (list_last c.loop-o.invariant c.loop-o-test.false bs a)

-- ---- a row

pub run-from-from-requires : goal.run-from-from-requires
run-from-from-requires g t c = row_there c.requires.task.asked

pub run-to-to-requires : goal.run-to-to-requires
run-to-to-requires g t c = row_there c.requires.task.asked

pub run-loop-i-init : goal.run-loop-i-init
run-loop-i-init g t c = (row_goes c.to-to.ensures c.from-from.ensures (take_all g.S.Sink.laws c.requires.task.room), behind_none)

pub run-items-requires : goal.run-items-requires
run-items-requires g t c =
    let f = c.requires.task in
    let l = c.loop-i.invariant.0 in
    let h = c.loop-i-test.true in
    let e = c.if-x.true in
    λ κs lives.
    (omega (arith, c.decreases, items-rank f.asked c.loop-i.i l.low (row-less l h) e), (lives, (c.requires.spans, asks-items l h f.asked (take_room g.S.Sink.laws f.room) e)))

pub run-returns-in_err-items-clause-refused : goal.run-returns-in_err-items-clause-refused
run-returns-in_err-items-clause-refused g t c =
    let l = c.loop-i.invariant.0 in
    let h = c.loop-i-test.true in
    on_err _ (row-then l h (take_stops g.S.Sink.laws) (items_done l h c.if-x.true c.in_err-items.ensures.refused))

pub run-element_from-near-requires-clause-content : goal.run-element_from-near-requires-clause-content
run-element_from-near-requires-clause-content g t c =
    row-sought c.loop-i.invariant.0 c.loop-i-test.true c.requires.task.asked (child_known c.in-Some.ensures)

pub run-child-requires : goal.run-child-requires
run-child-requires g t c =
    let f = c.requires.task in
    λ κs lives.
    (omega (arith, c.decreases, (rank_bounds c.args.r).0), (lives, (c.requires.spans, asks-child c.loop-i.invariant.0 c.loop-i-test.true f.asked (take_room g.S.Sink.laws f.room) (child_known c.in-Some.ensures) c.element_from-near.ensures)))

pub run-returns-in_err-child-clause-refused : goal.run-returns-in_err-child-clause-refused
run-returns-in_err-child-clause-refused g t c =
    let l = c.loop-i.invariant.0 in
    let h = c.loop-i-test.true in
    on_err _
    (row-then l h (take_stops g.S.Sink.laws)
    (child-done l h (child_known c.in-Some.ensures) c.element_from-near.ensures c.in_err-child.ensures.refused))

pub run-plain-requires-clause-task : goal.run-plain-requires-clause-task
run-plain-requires-clause-task g t c =
    let f = c.requires.task in
    asks-plain c.loop-i.invariant.0 c.loop-i-test.true f.asked (take_room g.S.Sink.laws f.room) c.in_default.ensures c.if-x.false

pub run-returns-in_err-plain-clause-refused : goal.run-returns-in_err-plain-clause-refused
run-returns-in_err-plain-clause-refused g t c =
    let l = c.loop-i.invariant.0 in
    let h = c.loop-i-test.true in
    on_err _ (row-then l h (take_stops g.S.Sink.laws) (plain_done l h c.in_default.ensures c.if-x.false c.in_err-plain.ensures.refused))

pub run-loop-i-preserved : goal.run-loop-i-preserved
run-loop-i-preserved g t c =
    let l = c.loop-i.invariant.0 in
    let b = c.loop-i.invariant.1 in
    let h = c.loop-i-test.true in
    elim c.if-x.branch [
      | run-then-x+in_ok-items w ↦ (row_takes g.S.Sink.laws l h w.sink-is (items_done l h w.if-x.true w.in_ok-items.ensures.taken), behind_same w.seen-is w.near-is b)
      | run-else-x+in-Some+in_ok-child w ↦ (row_takes g.S.Sink.laws l h w.sink-is (child-done l h (child_known w.in-Some.ensures) w.element_from-near.ensures w.in_ok-child.ensures.taken), behind_same w.seen-is w.near-is w.element_from-near.ensures)
      | run-else-x+in_default+in_ok-plain w ↦ (row_takes g.S.Sink.laws l h w.sink-is (plain_done l h w.in_default.ensures w.if-x.false w.in_ok-plain.ensures.taken), behind_same w.seen-is w.near-is b)
    ]

pub run-returns-clause-taken : goal.run-returns-clause-taken
run-returns-clause-taken g t c bs a = all_taken g.S.Sink.laws (row_last c.loop-i.invariant.0 (omega arith) bs a)
