-- `nothing_row` meets its contract.
use Prim.Native.Nat.{◌*◌}
use native.Mathlib.Omega.{arith}
use lib.ListN.{get_or}
use Rattle.loaded_table.specs.Loaded.{counts_of}
use Rattle.growing.specs.Laws.{puts-length}
use Rattle.pools.specs.Room.{nothing_of}
use Rattle.filler_rows.specs.Laws.{placed_length}
use Rattle.own_rows.specs.Making.{edges_small}
use Rattle.own_rows.specs.Progress.{few_of_type}
use Rattle.own_rows.specs.Steps.{RowEdges, row-needs, row_more, progress-end}
use Rattle.choice_rows.proofs.Nothing.{nothing-follows, nothing_found, nothing_small}
use Rattle.choice_rows.proofs.nothing_row.Goals as goal
use Rattle.choice_rows.proofs.nothing_row.Goals.{After-one_path-path}

-- it is what the row of nothing is made of
path-made : (c : After-one_path-path) → let a = c.args in
    RowEdges a.source.now a.target.now a.map.now a.em.now a.s (get_or (counts_of a.source.now) a.s 0) (nothing_of a.source.now a.map.now a.s) c.one_path-path.result
path-made c =
    let can = c.requires.next.makeable in
    nothing_found can.ready can.exists c.requires.optional c.start-start.ensures.0 c.steps-steps.ensures.0 c.target-t.ensures.0 _ c.choice_depth-shared.ensures c.one_path-path.ensures

pub choice_depth-shared-requires : goal.choice_depth-shared-requires
choice_depth-shared-requires c =
    let can = c.requires.next.makeable in
    nothing-follows can.ready can.exists c.requires.optional c.start-start.ensures.0 c.steps-steps.ensures.0 c.target-t.ensures.0

pub one_path-path-requires : goal.one_path-path-requires
one_path-path-requires c =
    let small = edges_small c.requires.next.makeable.ready.paths_bounded (c.args.s * 16) in
    (omega (arith, small.1, c.start-start.ensures.0), omega (arith, small.0, c.choice_depth-shared.ensures.0, c.steps-steps.ensures.0))

pub own_row-requires : goal.own_row-requires
own_row-requires c =
    let can = c.requires.next.makeable in
    let all = row-needs can.ready can.exists c.requires.next.members (path-made (goal.at.own_row-requires c).After-one_path-path) 0 (omega arith) c.target-t.ensures.0 (omega (arith, c.count-count.ensures.0)) can.small can.long (omega (arith, few_of_type can)) in record { task = all.0; stored = all.1.0; room = all.1.1 }

pub shape_of-pool : goal.shape_of-pool
shape_of-pool c = puts-length c.own_row.ensures.0.puts

pub shape_of-places : goal.shape_of-places
shape_of-places c = placed_length c.own_row.ensures.0.placed

pub returns : goal.returns
returns c =
    let can = c.requires.next.makeable in
    let more = row_more can.ready can.exists c.requires.next.members (path-made (goal.at.returns c).After-one_path-path) 0 (omega arith) c.target-t.ensures.0 (omega (arith, c.count-count.ensures.0)) c.own_row.ensures in
    progress-end can.ready can.exists more (nothing_small can.ready can.exists c.requires.optional) (omega (arith, c.requires.optional))
