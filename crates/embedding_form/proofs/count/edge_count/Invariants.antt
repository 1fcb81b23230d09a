-- `edge_count` meets its contract. The loop's invariant: the sum so far, at most 16 for each type passed, and the edges of the
-- types to come make the whole.
use mathlib.Core.Path.{◌≡◌}
use Prim.Native.Nat.{◌+◌, ◌*◌, ◌≤◌}
use lib.ListN.{drop}
use Rattle.loaded_table.specs.Loaded.{table_by}
use Rattle.model.specs.Definitions.Entries.{edge_count}
use Rattle.embedding_form.proofs.count.edge_count.Given as goal

abbrev pub invariant-loop-t : goal.invariant-loop-t
invariant-loop-t l = (l.sum ≤ 16 * l.t) × (l.sum + edge_count (drop l.t (table_by l.source)) ≡ edge_count (table_by l.source))
