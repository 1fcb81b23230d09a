-- `fill_sum` meets its contract: the total so far and the lengths of the members left are the whole, held at 60,001.
use mathlib.Core.Path.{◌≡◌}
use Prim.Native.Nat.{◌+◌, ◌≤◌, min}
use lib.ListN.{drop}
use Rattle.loaded_table.specs.Loaded.{fill_of}
use Rattle.table_heights.specs.Sections.{members_at}
use Rattle.table_fill.specs.Fill.{fill_sum}
use Rattle.table_fill.proofs.fill_sum.Given as goal

abbrev pub invariant-loop-i : goal.invariant-loop-i
invariant-loop-i l = (l.total ≤ 60001) × (min 60001 (l.total + fill_sum (fill_of l.table) (drop l.i (members_at l.table l.t))) ≡ min 60001 (3 + fill_sum (fill_of l.table) (members_at l.table l.t)))
