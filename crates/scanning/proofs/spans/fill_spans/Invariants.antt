-- `fill_spans` meets its contract. The invariant of its loop: from the loop's offset on the spans are filled, and those of the
-- first two are kept.
use Rattle.scanning.proofs.Spanning.{Fills}
use Rattle.scanning.proofs.spans.fill_spans.Given as goal

abbrev pub invariant-loop-o : goal.invariant-loop-o
invariant-loop-o l = Fills l.tr l.initial.spans l.spans l.o l.near l.behind

abbrev pub decreases-loop-o : goal.decreases-loop-o
decreases-loop-o l = l.o
