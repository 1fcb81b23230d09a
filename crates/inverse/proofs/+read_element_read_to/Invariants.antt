-- The measure is twice the number of levels, plus one for `read_element`; the loop's invariant says that what is left to read gives
-- the whole.
use Rattle.std.proofs.Common.{◌+◌, ◌*◌}
use Rattle.children.specs.Cursors.{cursor_weight}
use Rattle.inverse.proofs.Turning.{Reading}
use Rattle.inverse.proofs.+read_element_read_to.Given as goal

abbrev pub decreases-read_element : goal.decreases-read_element
decreases-read_element l = 2 * l.task.depth + 1

abbrev pub decreases-read_to : goal.decreases-read_to
decreases-read_to l = 2 * l.task.depth

abbrev pub invariant-read_to-loop-child : goal.invariant-read_to-loop-child
invariant-read_to-loop-child l =
    Reading l.source l.target l.map l.em l.image.sigma l.tr l.image.from l.depth l.initial.out l.initial.to l.out l.to l.cursor

abbrev pub decreases-read_to-loop-child : goal.decreases-read_to-loop-child
decreases-read_to-loop-child l = cursor_weight l.tr l.cursor
