-- The measure is what is left of the document from the element's content on; each child begins later.
use Rattle.std.proofs.Common.{length, ◌-◌}
use Rattle.path_elements.proofs.Turns.{CountSoFar}
use Rattle.path_elements.proofs.+element.Given as goal

abbrev pub decreases-element : goal.decreases-element
decreases-element l = length l.tr.now - l.from

abbrev pub invariant-loop-o : goal.invariant-loop-o
invariant-loop-o l = CountSoFar l.source l.pool l.places l.tr l.s l.from l.o l.count

abbrev pub decreases-loop-o : goal.decreases-loop-o
decreases-loop-o l = length l.tr - l.o
