use mathlib.Core.Path.{refl, ap}
use Rattle.model.specs.Definitions.Inverse.{unbroken}
use Rattle.unreadable.proofs.Going.{going_start, going_shows, going_ends, going_less, going_on}
use Rattle.unreadable.proofs.is_broken.Goals as goal

pub returns-in_default : goal.returns-in_default
unfolding unbroken
returns-in_default c k a = ap unbroken (c.in_default.ensures k a)

pub loop-child-init : goal.loop-child-init
loop-child-init c = going_start _ c.requires.image.content c.in-Ok.ensures (λ k a. refl)

pub next-requires-clause-left : goal.next-requires-clause-left
next-requires-clause-left c = going_shows c.loop-child.invariant

pub loop-child-smaller : goal.loop-child-smaller
loop-child-smaller c = going_less c.loop-child.invariant (rw c.in-Ok-Some.field-0-is at c.in-Ok-Some.ensures)

pub loop-child-preserved : goal.loop-child-preserved
unfolding unbroken
loop-child-preserved c = going_on c.loop-child.invariant (rw c.in-Ok-Some.field-0-is at c.in-Ok-Some.ensures) (λ l j rest a same. same)

pub returns-in-Ok-None : goal.returns-in-Ok-None
unfolding unbroken
returns-in-Ok-None c k a = going_ends c.loop-child.invariant (rw c.in-Ok-None.field-0-is at c.in-Ok-None.ensures) k a

pub returns-in-Err : goal.returns-in-Err
unfolding unbroken
returns-in-Err c k a = going_ends c.loop-child.invariant c.in-Err.ensures k a
