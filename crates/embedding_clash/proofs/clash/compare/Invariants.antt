-- The loop's invariant: what is left of both paths compares as the whole paths do, and the steps passed are shared.
use lib.ListN.{take, drop}
use Rattle.loaded_table.specs.Loaded.{table_by}
use Rattle.embedding_clash.proofs.ClashLaws.{Together}
use Rattle.embedding_clash.proofs.clash.compare.Given as goal

abbrev pub invariant-loop-i : goal.invariant-loop-i
invariant-loop-i l =
    Together (table_by l.target) l.from (take l.la l.a) (take l.lb l.b) l.t l.i (drop l.i (take l.la l.a)) (drop l.i (take l.lb l.b))
