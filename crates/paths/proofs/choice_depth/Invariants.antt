-- `choice_depth` meets its contract: the loop's invariant says that no step taken leaves a choice.
use Rattle.paths.proofs.Choosing.{Chooses}
use Rattle.paths.proofs.choice_depth.Given as goal

abbrev pub invariant-loop-d : goal.invariant-loop-d
invariant-loop-d l = Chooses l.target l.em l.start l.steps l.t l.d l.here
