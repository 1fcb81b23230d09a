-- `before_row` meets its contract.
use Prim.Native.Nat.{◌*◌}
use native.Mathlib.Omega.{arith}
use Rattle.growing.specs.Laws.{puts-length}
use Rattle.filler_rows.specs.Laws.{placed_length}
use Rattle.own_rows.specs.Making.{edges_small}
use Rattle.own_rows.specs.Progress.{few_of_type}
use Rattle.list_rows.specs.Lists.{depth-less}
use Rattle.list_rows.proofs.Listing.{own-needs, own-made}
use Rattle.list_rows.proofs.before_row.Goals as goal

pub before_path-path-requires : goal.before_path-path-requires
before_path-path-requires c =
    let can = c.requires.next.makeable in
    let small = edges_small can.ready.paths_bounded (c.args.s * 16) in
    ((few_of_type can).0, omega (arith, depth-less can.ready can.exists c.requires.list c.list_cut-cut.ensures, small.0), small.1)

pub target-t-requires : goal.target-t-requires
target-t-requires c = (few_of_type c.requires.next.makeable).0

pub own_row-requires : goal.own_row-requires
own_row-requires c =
    let can = c.requires.next.makeable in
    let all = own-needs can.ready can.exists c.requires.list c.list_cut-cut.ensures c.before_path-path.ensures c.target-t.ensures.0 c.requires.next (omega arith) in record { task = all.0; stored = all.1.0; room = all.1.1 }

pub shape_of-pool : goal.shape_of-pool
shape_of-pool c = puts-length c.own_row.ensures.0.puts

pub shape_of-places : goal.shape_of-places
shape_of-places c = placed_length c.own_row.ensures.0.placed

pub returns : goal.returns
returns c =
    let can = c.requires.next.makeable in
    let all = own-made can.ready can.exists c.requires.list c.list_cut-cut.ensures c.before_path-path.ensures c.target-t.ensures.0 c.own_row.ensures in record { made = all.0; short = all.1 }
