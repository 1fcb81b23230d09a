-- `members_only` meets its contract. The invariant of its loop: from the offset on there are members only exactly where from offset 1 on
-- there are. The measure is the number of bytes left.
use mathlib.Core.Path.{◌≡◌}
use Prim.Native.Nat.{◌-◌}
use lib.ListN.{length}
use Rattle.type_commands.proofs.Reading.{members_from}
use Rattle.type_commands.proofs.members_only.Given as goal

abbrev pub invariant-loop-at : goal.invariant-loop-at
invariant-loop-at l = members_from l.at l.cs ≡ members_from 1 l.cs

abbrev pub decreases-loop-at : goal.decreases-loop-at
decreases-loop-at l = length l.cs - l.at
