-- `own_row` meets its contract.
use Prim.Native.Nat.{◌+◌, ◌*◌}
use native.Mathlib.Omega.{arith}
use Rattle.growing.specs.Laws.{puts-length, puts-after}
use Rattle.filler_rows.specs.Laws.{placed_length}
use Rattle.own_rows.proofs.Made.{made_again, made_end, made_new}
use Rattle.own_rows.proofs.own_row.Goals as goal

pub place-requires : goal.place-requires
place-requires c =
    (c.requires.room.2, omega (arith, c.from-from.ensures, c.slice_known-2-1.given (3 * c.args.t)), omega (arith, c.to-to.ensures, c.slice_known-2-1.given (3 * c.args.t + 1)), omega arith)

pub shape_of-places-then-count-eq0 : goal.shape_of-places-then-count-eq0
shape_of-places-then-count-eq0 c = placed_length c.place.ensures

pub returns-then-count-eq0 : goal.returns-then-count-eq0
returns-then-count-eq0 c =
    (made_again c.requires.task c.if-count-eq0.true c.requires.stored c.from-from.ensures c.to-to.ensures c.place.ensures, omega arith)

pub overflow_sub-end : goal.overflow_sub-end
overflow_sub-end c =
    omega (arith, (made_end c.requires.task c.if-count-eq0.false c.requires.room.0 c.element-end.ensures).0)

pub place-requires-2 : goal.place-requires-2
place-requires-2 c =
    let end = made_end c.requires.task c.if-count-eq0.false c.requires.room.0 c.element-end.ensures in
    (c.requires.room.2, omega (arith, end.0, end.1, c.requires.room.1), omega (arith, end.1, c.requires.room.1), omega arith)

pub shape_of-pool : goal.shape_of-pool
shape_of-pool c = puts-length c.element-end.ensures

pub shape_of-places : goal.shape_of-places
shape_of-places c = placed_length c.place-2.ensures

pub returns : goal.returns
returns c =
    (made_new c.requires.task c.if-count-eq0.false c.requires.room.0 c.element-end.ensures c.place-2.ensures, omega (arith, puts-after c.element-end.ensures))
