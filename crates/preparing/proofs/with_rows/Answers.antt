-- `with_rows` meets its contract: each pair of arrays is long enough.
use native.Mathlib.Omega.{arith}
use Rattle.pools.specs.Room.{room_most}
use Rattle.pools.specs.Pools.{small_arrays, full_arrays, cleared_room, largest_room}
use Rattle.preparing.proofs.with_rows.Goals as goal

pub with_arrays-requires-clause-arrays : goal.with_arrays-requires-clause-arrays
with_arrays-requires-clause-arrays g c =
    let small = c.is_small.ensures c.if-is_small.true in
    small_arrays (omega (arith, c.types.ensures.0, small.0), omega (arith, c.room-long.ensures, small.1))

pub with_arrays-requires-then-long-le-MIDDLE_POOL-clause-arrays : goal.with_arrays-requires-then-long-le-MIDDLE_POOL-clause-arrays
with_arrays-requires-then-long-le-MIDDLE_POOL-clause-arrays g c =
    full_arrays (cleared_room 16384 (omega (arith, c.room-long.ensures, c.if-long-le-MIDDLE_POOL.true)) (omega arith)) c.requires.ready.source_bounded

pub with_arrays-requires-2-clause-arrays : goal.with_arrays-requires-2-clause-arrays
with_arrays-requires-2-clause-arrays g c =
    full_arrays
    (largest_room c.largest_pool-pool.result c.largest_pool-pool.ensures (room_most _ _ _ c.requires.ready.source_bounded c.requires.ready.target_bounded c.requires.ready.paths_bounded.short))
    c.requires.ready.source_bounded
