-- The loop's invariant: searching the source types that are left finds what searching all of them does.
use mathlib.Core.Path.{◌≡◌}
use Prim.Native.Nat.{ℕ, ◌-◌}
use lib.ListN.{get_or}
use Rattle.loaded_table.specs.Loaded.{table_by}
use Rattle.loaded_embedding.specs.Loaded.{embedding_by}
use Rattle.model.specs.Definitions.Basics.{first_found}
use Rattle.model.specs.Definitions.Table.{kind_of}
use Rattle.model.specs.Definitions.Embedding.{no_map}
use Rattle.model.specs.Definitions.Explanation.{clash_of_type, clash_of}
use Rattle.explaining.proofs.clashes.clash_of.Given as goal

abbrev pub invariant-loop-s : goal.invariant-loop-s
invariant-loop-s l =
    (first_found (λ (u : ℕ). clash_of_type (table_by l.target) (kind_of (table_by l.source) u) (get_or (embedding_by l.em (table_by l.source) l.map) u no_map) u) l.s (l.types - l.s)
    ≡ clash_of (table_by l.source) (table_by l.target) (embedding_by l.em (table_by l.source) l.map))
