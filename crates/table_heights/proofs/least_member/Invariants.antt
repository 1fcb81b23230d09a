-- `least_member` meets its contract: the least member of those passed and of those left is the least of all.
use mathlib.Core.Path.{◌≡◌}
use mathlib.Core.List.{◌∷◌}
use lib.ListN.{drop}
use Rattle.loaded_table.specs.Loaded.{heights_of}
use Rattle.model.specs.Definitions.Heights.{least_member}
use Rattle.table_heights.specs.Sections.{members_at}
use Rattle.table_heights.proofs.least_member.Given as goal

abbrev pub invariant-loop-i : goal.invariant-loop-i
invariant-loop-i l = (least_member (heights_of l.table) (l.best ∷ drop l.i (members_at l.table l.t)) ≡ least_member (heights_of l.table) (members_at l.table l.t))
