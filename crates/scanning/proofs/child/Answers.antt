use mathlib.Core.Path.{◌≡◌, refl}
use Prim.Native.Nat.{◌+◌, ◌-◌}
use native.Mathlib.Omega.{arith}
use Rattle.scanning.proofs.Searching.{child_zero, found_nowhere, reached_within, reached_none, reached-inside, reached-found, reached-close, reached-next}
use Rattle.scanning.proofs.child.Goals as goal

pub returns-then-p-eq0 : goal.returns-then-p-eq0
returns-then-p-eq0 c k a = found_nowhere _ (rw c.if-p-eq0.true (child_zero k))

pub loop-init : goal.loop-init
loop-init c k a = let all : c.args.p + 1 - 1 ≡ c.args.p = omega arith in rw all (record { content = k; there = a; same = refl; place = refl })

pub bounds-tr-at : goal.bounds-tr-at
bounds-tr-at c = reached_within (c.loop.invariant c.requires.content.0 c.requires.content.1)

pub returns-then-tr-at-ne-OPENS : goal.returns-then-tr-at-ne-OPENS
returns-then-tr-at-ne-OPENS c k a = reached_none (c.loop.invariant k a) c.if-tr-at-ne-OPENS.true

pub close_of-close-requires-clause-content : goal.close_of-close-requires-clause-content
close_of-close-requires-clause-content c = (reached-inside (c.loop.invariant c.requires.content.0 c.requires.content.1) c.if-tr-at-ne-OPENS.false).1

pub overflow_add-at-in-loop : goal.overflow_add-at-in-loop
overflow_add-at-in-loop c =
    omega (arith, (reached-close (c.loop.invariant c.requires.content.0 c.requires.content.1) c.if-tr-at-ne-OPENS.false c.close_of-close.result c.close_of-close.ensures).1)

pub loop-preserved : goal.loop-preserved
loop-preserved c k a =
    reached-next (c.loop.invariant k a) c.if-tr-at-ne-OPENS.false c.close_of-close.result c.close_of-close.ensures _ (omega (arith, c.loop-test.true)) (omega (arith, c.loop-test.true))

pub bounds-tr-at-2 : goal.bounds-tr-at-2
bounds-tr-at-2 c = reached_within (c.loop.invariant c.requires.content.0 c.requires.content.1)

pub returns-then-tr-at-eq-OPENS : goal.returns-then-tr-at-eq-OPENS
returns-then-tr-at-eq-OPENS c k a = reached-found (c.loop.invariant k a) c.if-tr-at-eq-OPENS.true (omega arith)

pub returns-else-tr-at-eq-OPENS : goal.returns-else-tr-at-eq-OPENS
returns-else-tr-at-eq-OPENS c k a = reached_none (c.loop.invariant k a) c.if-tr-at-eq-OPENS.false
