-- `count` meets its contract: each command adds what it opens.
use Rattle.std.proofs.Common.{arith}
use Rattle.tree_form.proofs.Machines.{stands, some_width}
use Rattle.tree_levels.proofs.Elements.{counting_start, counting_end, counting_alien, counting_next}
use Rattle.tree_levels.proofs.count.count.Goals as goal

pub loop-at-init : goal.loop-at-init
loop-at-init c = counting_start _

pub returns-in_default : goal.returns-in_default
returns-in_default c = counting_alien _ _ c.loop-at.invariant (stands _ _ c.loop-at-test.true c.in_default.ensures)

pub loop-at-preserved : goal.loop-at-preserved
loop-at-preserved c =
    rw (c.width-at.ensures, c.opened-n.ensures) (counting_next _ _ _ _ c.loop-at.invariant (stands _ _ c.loop-at-test.true c.in-Some.ensures))

pub overflow_add-at : goal.overflow_add-at
overflow_add-at c = omega (arith, (loop-at-preserved c).within)

pub loop-at-smaller : goal.loop-at-smaller
loop-at-smaller c = omega (arith, (loop-at-preserved c).within, c.width-at.ensures, some_width c.in-Some.c)

pub returns : goal.returns
returns c = counting_end _ _ _ c.loop-at-test.false c.loop-at.invariant
