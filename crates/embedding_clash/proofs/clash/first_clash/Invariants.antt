-- The loop's invariant: searching the edges that are left finds what searching all before edge i does.
use mathlib.Core.Path.{◌≡◌}
use Prim.Native.Nat.{◌-◌}
use Rattle.loaded_table.specs.Loaded.{table_by}
use Rattle.model.specs.Definitions.Basics.{first_found}
use Rattle.model.specs.Definitions.Table.{kind_of}
use Rattle.model.specs.Definitions.Explanation.{pair_clash, clash_before}
use Rattle.embedding_clash.specs.Ready.{map_of}
use Rattle.embedding_clash.proofs.clash.first_clash.Given as goal

abbrev pub invariant-loop-j : goal.invariant-loop-j
invariant-loop-j l =
    (first_found (pair_clash (table_by l.target) (kind_of (table_by l.source) l.s) (map_of l.source l.em l.map l.s) l.s l.i) l.j (l.i - l.j)
    ≡ clash_before (table_by l.target) (kind_of (table_by l.source) l.s) (map_of l.source l.em l.map l.s) l.s l.i)
