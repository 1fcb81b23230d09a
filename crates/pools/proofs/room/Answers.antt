-- `room` meets its contract: the three parts of the room, added.
use mathlib.Core.Path.{◌≡◌, refl}
use mathlib.Core.List.{List}
use Prim.Native.Nat.{ℕ, ◌+◌, ◌*◌}
use Rattle.loaded_table.specs.Loaded.{types_in}
use Rattle.pools.specs.Room.{edge_room, nothing_room, room_of}
use Rattle.pools.proofs.room.Goals as goal

-- the room of all is the sum of its three parts
parts : (source target map : List ℕ) {types targets edges nothing : ℕ} → types ≡ types_in source → targets ≡ types_in target → edges ≡ edge_room map 0 (types * 16) → nothing ≡ nothing_room source map 0 types
    → targets * 16 + edges + nothing ≡ room_of source target map
unfolding room_of
parts source target map a b c d = rw (c, d, a, b) refl

pub returns : goal.returns
returns c =
    parts c.args.source.now c.args.target.now c.args.map.now c.types-types.ensures.0 c.types.ensures.0 c.edges_room-edges.ensures.0 c.nothing_room-nothing.ensures.0
