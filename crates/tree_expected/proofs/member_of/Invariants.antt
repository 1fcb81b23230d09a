-- The invariant: the members that are left give the answer.
use Rattle.std.proofs.Common.{◌*◌, get_or}
use Rattle.loaded_table.specs.Loaded.{counts_of, members_in}
use Rattle.tree_expected.proofs.Rests.{Searching}
use Rattle.tree_expected.proofs.member_of.Given as goal

abbrev pub invariant-loop-i : goal.invariant-loop-i
invariant-loop-i l = Searching l.x (l.m * 16) (get_or (counts_of l.table) l.m 0) (members_in l.table) l.i
