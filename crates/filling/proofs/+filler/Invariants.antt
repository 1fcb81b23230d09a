-- The measure is what a sink can still take: an element is given behind the opening of the one that holds it.
use Rattle.row_traversal.specs.Loops.{FillerGoes}
use Rattle.filling.proofs.Taking.{ToTake}
use Rattle.filling.proofs.+filler.Given as goal

abbrev pub decreases-filler : goal.decreases-filler
decreases-filler g l = g.S.Sink.left l.sink.now

abbrev pub invariant-loop-i : goal.invariant-loop-i
invariant-loop-i g l = FillerGoes l.pool l.places l.t l.to l.i (ToTake g.S.Sink.takes l.initial.sink l.sink)
