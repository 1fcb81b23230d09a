-- The cycle of calls {child, items, run}. The measure is what is left of the source document and, where a call does not make it
-- shorter, the order of calls.
use Rattle.std.proofs.Common.{length, ◌+◌, ◌-◌, ◌*◌}
use Rattle.row_traversal.specs.Contents.{Behind}
use Rattle.row_traversal.specs.RowNumbers.{rank}
use Rattle.row_traversal.specs.Loops.{RowGoes, ListGoes}
use Rattle.filling.proofs.Taking.{ToTake}
use Rattle.filling.proofs.+child_items_run.Given as goal

abbrev pub decreases-child : goal.decreases-child
decreases-child g l = 4 * length l.tr.now

abbrev pub decreases-items : goal.decreases-items
decreases-items g l = 4 * length l.tr.now + 2

abbrev pub decreases-run : goal.decreases-run
decreases-run g l = 4 * length l.tr.now + rank l.r

abbrev pub invariant-items-loop-o : goal.invariant-items-loop-o
invariant-items-loop-o g l = ListGoes l.source l.pool l.places l.tr l.r l.o (ToTake g.S.Sink.takes l.initial.sink l.sink)

abbrev pub decreases-items-loop-o : goal.decreases-items-loop-o
decreases-items-loop-o g l = length l.tr - l.o

abbrev pub invariant-run-loop-i : goal.invariant-run-loop-i
invariant-run-loop-i g l = RowGoes l.source l.pool l.places l.tr l.r l.to l.i (ToTake g.S.Sink.takes l.initial.sink l.sink) × Behind l.tr l.seen l.near
