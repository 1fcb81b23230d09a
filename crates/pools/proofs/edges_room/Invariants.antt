-- `edges_room` meets its contract.
use Rattle.pools.specs.Room.{edge_room}
use Rattle.pools.proofs.Adding.{Added}
use Rattle.pools.proofs.edges_room.Given as goal

abbrev pub invariant-loop-i : goal.invariant-loop-i
invariant-loop-i l = Added (edge_room l.map) l.all l.total l.i
