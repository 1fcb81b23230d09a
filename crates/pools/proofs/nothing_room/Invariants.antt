-- `nothing_room` meets its contract.
use Rattle.pools.specs.Room.{nothing_room}
use Rattle.pools.proofs.Adding.{Added}
use Rattle.pools.proofs.nothing_room.Given as goal

abbrev pub invariant-loop-s : goal.invariant-loop-s
invariant-loop-s l = Added (nothing_room l.source l.map) l.types l.total l.s
