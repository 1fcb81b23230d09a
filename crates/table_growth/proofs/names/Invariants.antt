-- `names` meets its contract: what is left of the members decides.
use mathlib.Core.Path.{◌≡◌}
use lib.ListN.{drop}
use Rattle.model.specs.Definitions.Basics.{member_of}
use Rattle.table_heights.specs.Sections.{members_at}
use Rattle.table_growth.proofs.names.Given as goal

abbrev pub invariant-loop-i : goal.invariant-loop-i
invariant-loop-i l = member_of l.m (drop l.i (members_at l.table l.t)) ≡ member_of l.m (members_at l.table l.t)
