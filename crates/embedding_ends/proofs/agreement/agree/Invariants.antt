-- The loop's invariant: what is left of both paths agrees exactly where the whole paths do.
use Prim.Native.Nat.{◌≤◌}
use lib.ListN.{take, drop}
use Rattle.loaded_table.specs.Loaded.{table_by}
use Rattle.embedding_ends.proofs.AgreeLaws.{Agreeing}
use Rattle.embedding_ends.proofs.agreement.agree.Given as goal

abbrev pub invariant-loop-i : goal.invariant-loop-i
invariant-loop-i l =
    (l.i ≤ l.lb) × Agreeing (table_by l.target) l.from (take l.la l.a) (take l.lb l.b) l.t (drop l.i (take l.la l.a)) (drop l.i (take l.lb l.b))
