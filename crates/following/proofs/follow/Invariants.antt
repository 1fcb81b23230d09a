-- `follow` meets its contract: the loop's invariant says that the content reached leads by the steps left to what is sought.
use Rattle.following.proofs.Onward.{Onward}
use Rattle.following.proofs.follow.Given as goal

abbrev pub invariant-loop-i : goal.invariant-loop-i
invariant-loop-i l = Onward l.target l.em l.start l.steps l.tau l.tr l.at l.i l.here l.t
