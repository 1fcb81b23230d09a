-- `list_depth` meets its contract: the loop's invariant says that no step taken leaves a list.
use Rattle.paths.proofs.Dividing.{Divides}
use Rattle.paths.proofs.list_depth.Given as goal

abbrev pub invariant-loop-d : goal.invariant-loop-d
invariant-loop-d l = Divides l.target l.em l.start l.steps l.t l.d l.here
