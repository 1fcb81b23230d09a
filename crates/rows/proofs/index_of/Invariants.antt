-- `index_of` meets its contract: t is not among the members passed, so its place is theirs and its place among the others.
use mathlib.Core.Path.{◌≡◌}
use Prim.Native.Nat.{◌+◌, ◌-◌, ◌*◌}
use lib.ListN.{take, drop}
use Rattle.loaded_table.specs.Loaded.{members_in}
use Rattle.rows.specs.Rows.{index_in}
use Rattle.rows.proofs.index_of.Given as goal

-- the place of t among all members is i more than its place among those from i on
abbrev pub invariant-loop-i : goal.invariant-loop-i
invariant-loop-i l = index_in l.t (take l.count (drop (l.s * 16) (members_in l.source))) ≡ l.i + index_in l.t (take (l.count - l.i) (drop (l.s * 16 + l.i) (members_in l.source)))
