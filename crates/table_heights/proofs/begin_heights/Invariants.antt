-- `begin_heights` meets its contract: the numbers of the types below t are stored.
use mathlib.Core.Path.{◌≡◌}
use Prim.Native.Nat.{ℕ, ◌<◌}
use lib.ListN.{get_or}
use Rattle.loaded_table.specs.Loaded.{types_in, heights_of}
use Rattle.table_heights.specs.Sections.{Elsewhere}
use Rattle.table_heights.specs.Heights.{first_height}
use Rattle.table_heights.proofs.begin_heights.Given as goal

abbrev pub invariant-loop-t : goal.invariant-loop-t
invariant-loop-t l = Elsewhere 128 64 l.initial.table l.table × ((k : ℕ) → k < l.t → get_or (heights_of l.table) k 0 ≡ first_height (types_in l.initial.table) k)
