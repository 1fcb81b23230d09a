-- `beyond` meets its contract.
use Rattle.growing.proofs.Following.{Follows}
use Rattle.growing.proofs.beyond.Given as goal

abbrev pub invariant-loop-i : goal.invariant-loop-i
invariant-loop-i l = Follows l.em l.q (record { count = l.count; next = l.next; left = l.left; hole = l.hole }) l.sub l.i
