use native.Mathlib.Omega.{arith}
use Rattle.scanning.specs.Laws.{content_within}
use Rattle.row_traversal.proofs.Finding.{pass_all, pass_from, pass_more, next_passed, pass_on, pass_none}
use Rattle.row_traversal.proofs.element_from.Goals as goal
use Rattle.row_traversal.proofs.element_from.Goals.{then-seen-i, else-seen-i}

pub loop-passed-init : goal.loop-passed-init
loop-passed-init c =
    elim c.if-seen-i.branch [
      | then-seen-i w ↦ rw (w.o-is, w.left-is) (pass_more (omega arith) (pass_from w.if-seen-i.true c.requires.near))
      | else-seen-i w ↦ rw (w.o-is, w.left-is) (pass_more (omega arith) pass_all)
    ]

pub overflow_add-o : goal.overflow_add-o
overflow_add-o c = omega (arith, content_within (next_passed c.loop-passed.invariant c.requires.content).within, c.requires.spans.short)

pub close_of-close-requires : goal.close_of-close-requires
close_of-close-requires c = let n = next_passed c.loop-passed.invariant c.requires.content in
    record { spans = c.requires.spans; content = (n.inside, n.within) }

pub overflow_add-o-in-loop-passed : goal.overflow_add-o-in-loop-passed
overflow_add-o-in-loop-passed c =
    let n = next_passed c.loop-passed.invariant c.requires.content in
    omega (arith, content_within n.within, c.requires.spans.short, c.close_of-close.ensures n.inside n.within)

pub loop-passed-preserved : goal.loop-passed-preserved
loop-passed-preserved c = pass_more (omega arith) (pass_on c.loop-passed.invariant c.requires.content (omega arith) c.close_of-close.ensures)

pub returns : goal.returns
returns c = pass_none c.loop-passed.invariant (omega arith)
