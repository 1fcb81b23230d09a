-- `choice_index` meets its contract: the place of a member, or the number of members.
use mathlib.Core.Path.{◌≡◌}
use mathlib.Core.List.{List}
use Prim.Native.Nat.{ℕ, ◌*◌, ◌≤◌, ◌<◌}
use native.Mathlib.Omega.{arith}
use lib.ListN.{take, drop, length, length-take, length-drop}
use Rattle.loaded_table.specs.Loaded.{Bounded, members_in}
use Rattle.rows.specs.Rows.{member_index}
use Rattle.rows.proofs.choice_index.Goals as goal

-- nothing has the row behind those of the members
behind-members : {source : List ℕ} (s count : ℕ) → Bounded source → s < 64 → count ≤ 16 → count ≡ length (take count (drop (s * 16) (members_in source)))
behind-members {source} s count b small few =
    omega (arith, length-take count (drop (s * 16) (members_in source)), length-drop (s * 16) (members_in source), b.size, length-take 1024 (drop 256 source), length-drop 256 source)

pub returns-in-Some : goal.returns-in-Some
unfolding member_index
returns-in-Some c = rw c.in-Some.is c.index_of.ensures

pub returns-in-None : goal.returns-in-None
unfolding member_index
returns-in-None c = rw c.in-None.is (behind-members c.args.s c.args.count c.requires.bounded c.requires.s_lt_max_types.0 c.requires.s_lt_max_types.1, c.requires.s_lt_max_types.1)
