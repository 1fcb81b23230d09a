-- `highest` meets its contract: the highest of the members passed and of those left is the highest of all.
use mathlib.Core.Path.{◌≡◌}
use Prim.Native.Nat.{◌<◌, max}
use lib.ListN.{drop}
use Rattle.loaded_table.specs.Loaded.{heights_of}
use Rattle.model.specs.Definitions.Heights.{highest}
use Rattle.table_heights.specs.Sections.{members_at}
use Rattle.table_heights.proofs.highest.Given as goal

abbrev pub invariant-loop-i : goal.invariant-loop-i
invariant-loop-i l = (l.best < 65536) × (max l.best (highest (heights_of l.table) (drop l.i (members_at l.table l.t))) ≡ highest (heights_of l.table) (members_at l.table l.t))
