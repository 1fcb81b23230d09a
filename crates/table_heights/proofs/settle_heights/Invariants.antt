-- `settle_heights` meets its contract: after n rounds the heights of at most n are right, and no number is below its height.
use Prim.Native.Nat.{◌-◌, ◌≤◌}
use Rattle.loaded_table.specs.Loaded.{heights_of, table_by}
use Rattle.table_heights.specs.Sections.{Elsewhere}
use Rattle.table_heights.proofs.Rounds.{SettledTo}
use Rattle.table_heights.proofs.settle_heights.Given as goal

abbrev pub invariant-loop-n : goal.invariant-loop-n
invariant-loop-n l = (l.n ≤ l.all) × Elsewhere 128 64 l.initial.table l.table × SettledTo (table_by l.initial.table) l.n (heights_of l.table)

abbrev pub decreases-loop-n : goal.decreases-loop-n
decreases-loop-n l = l.all - l.n
