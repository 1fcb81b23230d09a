-- The loop's invariant: what was collected, with what the rest of the path leaves, is what the whole path leaves.
use lib.ListN.{take, drop}
use Rattle.loaded_table.specs.Loaded.{table_by}
use Rattle.embedding_ends.proofs.StepLaws.{Leaving}
use Rattle.embedding_ends.proofs.steps.kinds_left.Given as goal

abbrev pub invariant-loop-i : goal.invariant-loop-i
invariant-loop-i l =
    Leaving (table_by l.target) l.from (take l.count l.path) l.t (drop l.i (take l.count l.path)) l.left
