use mathlib.Core.Path.{◌≡◌}
use Prim.Native.Nat.{◌≤◌}
use native.Mathlib.Omega.{arith}
use lib.ListN.{length}
use Rattle.loaded_table.specs.Loaded.{types_in}
use Rattle.filler_rows.specs.Laws.{made_as_written}
use Rattle.filler_rows.proofs.Fillers.{fillers_none, fillers_more}
use Rattle.filler_rows.proofs.filler_rows.Goals as goal

pub loop-t-init : goal.loop-t-init
loop-t-init c = fillers_none _ _ _ c.requires.within

pub hollow-end-requires : goal.hollow-end-requires
hollow-end-requires c =
    let inv = c.loop-t.invariant in
    let types = c.types-types.ensures.0 in
    record { sound = c.requires.sound; t_bound = (omega (arith, types), omega (arith, types, inv.few, inv.whole.pool_length, c.requires.room)) }

pub place-requires : goal.place-requires
place-requires c =
    let inv = c.loop-t.invariant in
    let end = c.hollow-end.ensures in
    let types = c.types-types.ensures.0 in
    (omega (arith, types, inv.whole.places_length, c.requires.sound.bounded.few_types, c.requires.room), omega (arith, inv.whole.fits, c.requires.room), omega (arith, end.1, inv.few, types, c.requires.room), omega arith)

pub loop-t-preserved : goal.loop-t-preserved
loop-t-preserved c =
    let inv = c.loop-t.invariant in
    let end = c.hollow-end.ensures in
    let types = c.types-types.ensures.0 in
    let fits : c.hollow-end.result ≤ length c.args.pool.now = omega (arith, end.1, inv.few, types, c.requires.room) in
    fillers_more inv (made_as_written end.0 (omega (arith, fits, inv.whole.pool_length)) c.place.ensures) end.1 fits

pub shape_of-pool : goal.shape_of-pool
shape_of-pool c = c.loop-t.invariant.whole.pool_length

pub shape_of-places : goal.shape_of-places
shape_of-places c = c.loop-t.invariant.whole.places_length

pub returns : goal.returns
returns c =
    let inv = c.loop-t.invariant in
    let all : c.loop-t.t ≡ types_in c.args.target.now = omega (arith, c.types-types.ensures.0) in
    rw all at inv
