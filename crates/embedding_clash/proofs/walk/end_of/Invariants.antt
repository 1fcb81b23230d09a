-- The loop's invariant: what is left of the path goes on from the type reached, and ends where the whole ends.
use lib.ListN.{take, drop}
use Rattle.loaded_table.specs.Loaded.{table_by}
use Rattle.embedding_clash.proofs.Following.{OnTheWay}
use Rattle.embedding_clash.proofs.walk.end_of.Given as goal

abbrev pub invariant-loop-i : goal.invariant-loop-i
invariant-loop-i l =
    OnTheWay (table_by l.target) l.from (take l.count l.path) l.t (drop l.i (take l.count l.path))
