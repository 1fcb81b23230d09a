-- `rest_row` meets its contract.
use Prim.Native.Nat.{◌*◌}
use native.Mathlib.Omega.{arith}
use Rattle.growing.specs.Laws.{puts-length}
use Rattle.filler_rows.specs.Laws.{placed_length}
use Rattle.paths.specs.Edges.{small}
use Rattle.list_rows.specs.Lists.{depth-less}
use Rattle.list_rows.proofs.Listing.{item-task, item-short, item-end, item-made}
use Rattle.list_rows.proofs.rest_row.Goals as goal

pub rest_path-path-requires : goal.rest_path-path-requires
rest_path-path-requires c =
    let paths = c.requires.makeable.ready.paths_bounded in
    let edge = c.args.s * 16 in
    record { s_lt_max_types = (small c.requires.makeable.ready c.requires.makeable.exists, depth-less c.requires.makeable.ready c.requires.makeable.exists c.requires.list c.list_cut-cut.ensures, omega (arith, paths.short edge)); small = omega (arith, paths.within edge, paths.document_short) }

pub element-end-requires : goal.element-end-requires
element-end-requires c =
    let cuts = c.list_cut-cut.ensures in
    record { task = item-task c.requires.makeable.ready c.requires.makeable.exists c.requires.list cuts c.rest_path-path.ensures; room = omega (arith, item-short c.requires.makeable.ready c.requires.makeable.exists c.requires.list cuts c.rest_path-path.ensures, c.requires.room) }

pub place-requires : goal.place-requires
place-requires c =
    let cuts = c.list_cut-cut.ensures in
    let ends = item-end c.requires.makeable.ready c.requires.makeable.exists c.requires.list cuts c.rest_path-path.ensures c.element-end.ensures c.requires.room in
    (omega (arith, c.requires.makeable.exists, c.requires.makeable.long), omega (arith, ends, c.requires.makeable.small), omega (arith, ends, c.requires.makeable.small), omega (arith, depth-less c.requires.makeable.ready c.requires.makeable.exists c.requires.list cuts, c.requires.makeable.ready.paths_bounded.short (c.args.s * 16)))

pub shape_of-pool : goal.shape_of-pool
shape_of-pool c = puts-length c.element-end.ensures

pub shape_of-places : goal.shape_of-places
shape_of-places c = placed_length c.place.ensures

pub returns : goal.returns
returns c =
    let cuts = c.list_cut-cut.ensures in
    let puts = c.element-end.ensures in
    record { made = item-made c.requires.makeable.ready c.requires.makeable.exists c.requires.list cuts c.rest_path-path.ensures puts c.requires.room c.place.ensures; short = (item-end c.requires.makeable.ready c.requires.makeable.exists c.requires.list cuts c.rest_path-path.ensures puts c.requires.room).2 }
