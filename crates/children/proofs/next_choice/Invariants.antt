-- `next_choice` meets its contract: the loop's invariant says that the paths before edge i are not there.
use Rattle.children.proofs.Edges.{Choosing}
use Rattle.children.proofs.next_choice.Given as goal

abbrev pub invariant-loop-i : goal.invariant-loop-i
invariant-loop-i l = Choosing l.source l.target l.map l.em l.image.sigma l.tr l.image.from l.i
