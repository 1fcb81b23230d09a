-- The measure is what is left of the document from the element's content on; each child begins later.
use Rattle.std.proofs.Common.{length, ◌-◌}
use Rattle.measuring.proofs.Turns.{SizeSoFar}
use Rattle.measuring.proofs.+element.Given as goal

abbrev pub decreases-element : goal.decreases-element
decreases-element l = length l.tr.now - l.from

abbrev pub invariant-loop-o : goal.invariant-loop-o
invariant-loop-o l = SizeSoFar l.source l.map l.sizes l.tr l.s l.from l.o l.i l.size.levels l.size.bytes l.size.filler

abbrev pub decreases-loop-o : goal.decreases-loop-o
decreases-loop-o l = length l.tr - l.o
