-- The loop's invariant: searching the edges that are left finds what searching all of the type's does.
use mathlib.Core.Path.{◌≡◌}
use Prim.Native.Nat.{◌-◌}
use Rattle.loaded_table.specs.Loaded.{table_by}
use Rattle.model.specs.Definitions.Basics.{first_found}
use Rattle.model.specs.Definitions.Table.{kind_of}
use Rattle.model.specs.Definitions.Explanation.{clash_before, clash_of_type}
use Rattle.embedding_clash.specs.Ready.{map_of}
use Rattle.explaining.proofs.clashes.clash_of_type.Given as goal

abbrev pub invariant-loop-i : goal.invariant-loop-i
invariant-loop-i l =
    (first_found (clash_before (table_by l.target) (kind_of (table_by l.source) l.s) (map_of l.source l.em l.map l.s) l.s) l.i (l.n - l.i)
    ≡ clash_of_type (table_by l.target) (kind_of (table_by l.source) l.s) (map_of l.source l.em l.map l.s) l.s)
