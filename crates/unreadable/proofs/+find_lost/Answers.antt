-- `find_lost` meets its contract.
use mathlib.Core.Path.{sym, ◌∙◌, ap}
use native.Mathlib.Omega.{arith}
use Rattle.model.specs.Definitions.Inverse.{opened_at, missing}
use Rattle.unreadable.proofs.Going.{going_start, going_shows, going_ends, going-one, going-holds, going-inside, going_less, going_on}
use Rattle.unreadable.proofs.Losing.{fails_there, fails_on, fails_done, fails_broken, read_zero, fails_children, fails_begun, fails_own}
use Rattle.unreadable.proofs.+find_lost.Goals as goal
use Rattle.unreadable.proofs.+find_lost.Goals.{then-depth-eq0-via-then-depth-eq0, then-depth-eq0-via-else-depth-eq0+then-is_missing}

pub returns-then-depth-eq0 : goal.returns-then-depth-eq0
unfolding opened_at
returns-then-depth-eq0 t c k a =
    let marks = ap missing (sym c.saturating_sub-own.ensures) in
    elim c.then-depth-eq0.branch [
      | then-depth-eq0-via-then-depth-eq0 w ↦ read_zero _ _ _ _ w.if-depth-eq0.true ∙ marks
      | then-depth-eq0-via-else-depth-eq0+then-is_missing w ↦ fails_own _ _ _ _ w.if-depth-eq0.false (w.if-is_missing.ensures k a) ∙ marks
    ]

pub returns-in_default : goal.returns-in_default
unfolding opened_at
returns-in_default t c k a =
    fails_begun _ _ _ _ c.if-depth-eq0.false (c.if-is_missing.ensures k a) (c.in_default.ensures k a) ∙ ap missing (sym c.saturating_sub-own.ensures)

pub loop-child-init : goal.loop-child-init
loop-child-init t c =
    going_start _ c.requires.image.content c.in-Ok.ensures
    (λ k a. fails_children _ _ _ _ c.if-depth-eq0.false (c.if-is_missing.ensures k a))

pub next-requires-clause-left : goal.next-requires-clause-left
next-requires-clause-left t c = going_shows c.loop-child.invariant

pub find_lost-requires : goal.find_lost-requires
find_lost-requires t c =
    let start = c.requires.image in
    let inside = going-inside c.loop-child.invariant (rw c.in-Ok-Some.field-0-is at c.in-Ok-Some.ensures) in
    (omega (arith, c.decreases, c.if-depth-eq0.false), record { spans = start.spans; ready = start.ready; known_type = inside.0; content = inside.1 })

pub returns-in-Some : goal.returns-in-Some
returns-in-Some t c k a =
    let gives = rw c.in-Ok-Some.field-0-is at c.in-Ok-Some.ensures in
    let one = going-one c.loop-child.invariant gives k a in
    fails_there _ _ _ _ _ _ (going-holds c.loop-child.invariant gives k a) (c.in-Some.ensures one.inside one.there)

pub loop-child-smaller : goal.loop-child-smaller
loop-child-smaller t c = going_less c.loop-child.invariant (rw c.in-Ok-Some.field-0-is at c.in-Ok-Some.ensures)

pub loop-child-preserved : goal.loop-child-preserved
loop-child-preserved t c =
    going_on c.loop-child.invariant (rw c.in-Ok-Some.field-0-is at c.in-Ok-Some.ensures) (λ l j rest a now. fails_on _ _ _ _ rest now (c.in_default-find_lost.ensures j a))

pub returns-in-Ok-None : goal.returns-in-Ok-None
returns-in-Ok-None t c k a = fails_done _ _ (going_ends c.loop-child.invariant (rw c.in-Ok-None.field-0-is at c.in-Ok-None.ensures) k a)

pub returns-in-Err : goal.returns-in-Err
unfolding opened_at
returns-in-Err t c k a =
    fails_broken _ _ (going_ends c.loop-child.invariant c.in-Err.ensures k a) ∙ ap missing (sym c.saturating_sub-own.ensures)
