-- `fill_round` meets its contract: the types below t are still to do.
use Prim.Native.Nat.{◌≤◌}
use Rattle.loaded_table.specs.Loaded.{types_in, fill_of, table_by}
use Rattle.model.proofs.Theorems.Facts.{SoundTable}
use Rattle.table_heights.specs.Sections.{Elsewhere}
use Rattle.table_fill.proofs.FillRounds.{Filling}
use Rattle.table_fill.proofs.fill_round.Given as goal

abbrev pub invariant-loop-t : goal.invariant-loop-t
invariant-loop-t l =
    (l.t ≤ types_in l.initial.table) × Elsewhere 192 64 l.initial.table l.table × ((s : SoundTable (table_by l.initial.table)) → Filling (table_by l.initial.table) s (fill_of l.initial.table) l.t (fill_of l.table) l.changed)

abbrev pub decreases-loop-t : goal.decreases-loop-t
decreases-loop-t l = l.t
