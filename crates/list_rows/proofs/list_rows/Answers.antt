-- `list_rows` meets its contract.
use native.Mathlib.Omega.{arith}
use Rattle.growing.specs.Laws.{puts-length}
use Rattle.filler_rows.specs.Laws.{placed_length}
use Rattle.list_rows.specs.Lists.{list_room, list_progress}
use Rattle.list_rows.proofs.list_rows.Goals as goal

pub before_row-end-requires : goal.before_row-end-requires
before_row-end-requires c = c.requires

pub rest_row-requires : goal.rest_row-requires
rest_row-requires c =
    let can = c.requires.next.makeable in
    let own = c.before_row-end.ensures in
    let same = puts-length own.made.puts in
    record { makeable = record { ready = can.ready; exists = can.exists; small = omega (arith, same, can.small); long = omega (arith, placed_length own.made.placed, can.long) }; list = c.requires.list; room = omega (arith, list_room can.ready can.exists c.requires.list c.requires.next.progress, own.short, same) }

pub shape_of-pool : goal.shape_of-pool
shape_of-pool c = omega (arith, puts-length c.before_row-end.ensures.made.puts, puts-length c.rest_row.ensures.made.puts)

pub shape_of-places : goal.shape_of-places
shape_of-places c = omega (arith, placed_length c.before_row-end.ensures.made.placed, placed_length c.rest_row.ensures.made.placed)

pub returns : goal.returns
returns c =
    let own = c.before_row-end.ensures in
    let item = c.rest_row.ensures in
    list_progress c.requires.next.makeable.ready c.requires.next.makeable.exists c.requires.list c.requires.next.progress own.made item.made own.short item.short
