-- `one_row` meets its contract.
use Prim.Native.Nat.{◌*◌}
use native.Mathlib.Omega.{arith}
use Rattle.growing.specs.Laws.{puts-length}
use Rattle.filler_rows.specs.Laws.{placed_length}
use Rattle.pools.specs.Room.{edge_room}
use Rattle.own_rows.specs.Making.{edges_small}
use Rattle.own_rows.specs.Progress.{few_of_type}
use Rattle.own_rows.specs.Steps.{RowEdges, own_edges, own_small, progress-begin, row-needs, row_more, progress-end}
use Rattle.own_rows.proofs.one_row.Goals as goal
use Rattle.own_rows.proofs.one_row.Goals.{After-target-t}

-- the paths below it are what the type's one row is made of
paths-made : (c : After-target-t) → let a = c.args in
    RowEdges a.source.now a.target.now a.map.now a.em.now a.s 0 (edge_room a.map.now (a.s * 16) 16) c.own_edges-e.result
paths-made c = let can = c.requires.next.makeable in own_edges can.ready can.exists c.own_edges-e.ensures c.requires.s_bound

pub own_edges-e-requires : goal.own_edges-e-requires
own_edges-e-requires c =
    let can = c.requires.next.makeable in
    record { s_lt_max_types = few_of_type can; small = edges_small can.ready.paths_bounded }

pub target-t-requires : goal.target-t-requires
target-t-requires c = omega (arith, few_of_type c.requires.next.makeable)

pub overflow_mul-s : goal.overflow_mul-s
overflow_mul-s c = omega (arith, few_of_type c.requires.next.makeable)

pub overflow_add-s : goal.overflow_add-s
overflow_add-s c = omega (arith, few_of_type c.requires.next.makeable)

pub own_row-requires : goal.own_row-requires
own_row-requires c =
    let can = c.requires.next.makeable in
    let begin = progress-begin can.ready can.exists c.requires.next.progress in
    let all = row-needs can.ready can.exists begin (paths-made (goal.at.own_row-requires c).After-target-t) 0 (omega arith) c.target-t.ensures.0 (omega arith) can.small can.long (omega arith) in record { task = all.0; stored = all.1.0; room = all.1.1 }

pub shape_of-pool : goal.shape_of-pool
shape_of-pool c = puts-length c.own_row.ensures.0.puts

pub shape_of-places : goal.shape_of-places
shape_of-places c = placed_length c.own_row.ensures.0.placed

pub returns : goal.returns
returns c =
    let can = c.requires.next.makeable in
    let begin = progress-begin can.ready can.exists c.requires.next.progress in
    let more = row_more can.ready can.exists begin (paths-made (goal.at.returns c).After-target-t) 0 (omega arith) c.target-t.ensures.0 (omega arith) c.own_row.ensures in
    progress-end can.ready can.exists more (own_small can.ready can.exists c.requires.s_bound) (omega (arith, c.requires.s_bound))
