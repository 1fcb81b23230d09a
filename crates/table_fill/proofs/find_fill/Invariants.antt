-- `find_fill` meets its contract: after n rounds the section holds the lengths of the types of height at most n.
use Prim.Native.Nat.{◌-◌, ◌≤◌}
use Rattle.loaded_table.specs.Loaded.{fill_of, table_by}
use Rattle.model.proofs.Theorems.Facts.{SoundTable}
use Rattle.table_heights.specs.Sections.{Elsewhere}
use Rattle.table_fill.specs.Fill.{FillTo}
use Rattle.table_fill.proofs.find_fill.Given as goal

abbrev pub invariant-loop-n : goal.invariant-loop-n
invariant-loop-n l = (l.n ≤ l.all) × Elsewhere 192 64 l.initial.table l.table × (SoundTable (table_by l.initial.table) → FillTo (table_by l.initial.table) l.n (fill_of l.table))

abbrev pub decreases-loop-n : goal.decreases-loop-n
decreases-loop-n l = l.all - l.n
