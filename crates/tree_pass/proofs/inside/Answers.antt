-- `inside` meets its contract: each command leaves what the array then stands for.
use Rattle.std.proofs.Common.{refl, subst, ap, ◌∙◌, arith, Some}
use Rattle.tree_pass.specs.Passing.{Checked}
use Rattle.tree_pass.proofs.Turns.{passing_root, innermost, passing_opens, passing_character, passing_closes, passing_ended}
use Rattle.tree_pass.proofs.inside.Goals as goal

pub loop-at-init : goal.loop-at-init
loop-at-init c = passing_root _ _ _ c.requires refl

pub checked_at-requires : goal.checked_at-requires
checked_at-requires c = innermost c.loop-at.invariant c.loop-at-test.true

pub bounds-around-top : goal.bounds-around-top
bounds-around-top c = (innermost c.loop-at.invariant c.loop-at-test.true).low

pub loop-at-preserved-in-Opened : goal.loop-at-preserved-in-Opened
loop-at-preserved-in-Opened c =
    let l = c.loop-at in
    rw c.from.ensures
    (passing_opens l.invariant (subst (Checked c.args.table.now c.args.t.now l.top l.here.kind l.here.had l.at) (c.in_ok-x.was ∙ ap Some c.in-Opened.is) c.checked_at.ensures))

pub loop-at-smaller-in-Opened : goal.loop-at-smaller-in-Opened
loop-at-smaller-in-Opened c = omega (arith, (loop-at-preserved-in-Opened c).counting.within)

pub overflow_add-n : goal.overflow_add-n
overflow_add-n c = omega (arith, c.loop-at.invariant.counting.within, c.loop-at.invariant.counting.few)

pub loop-at-preserved-in-Character : goal.loop-at-preserved-in-Character
loop-at-preserved-in-Character c =
    let l = c.loop-at in
    passing_character l.invariant (subst (Checked c.args.table.now c.args.t.now l.top l.here.kind l.here.had l.at) (c.in_ok-x.was ∙ ap Some c.in-Character.is) c.checked_at.ensures)

pub loop-at-smaller-in-Character : goal.loop-at-smaller-in-Character
loop-at-smaller-in-Character c = omega (arith, (loop-at-preserved-in-Character c).counting.within)

pub returns-then-top-eq0 : goal.returns-then-top-eq0
returns-then-top-eq0 c =
    let l = c.loop-at in
    passing_ended l.invariant c.ended.result c.requires.begun.short
    (subst (Checked c.args.table.now c.args.t.now l.top l.here.kind l.here.had l.at) (c.in_ok-x.was ∙ ap Some c.in-Closed.is) c.checked_at.ensures) c.if-top-eq0.true c.ended.ensures

pub loop-at-preserved : goal.loop-at-preserved
loop-at-preserved c =
    let l = c.loop-at in
    passing_closes l.invariant
    (subst (Checked c.args.table.now c.args.t.now l.top l.here.kind l.here.had l.at) (c.in_ok-x.was ∙ ap Some c.in-Closed.is) c.checked_at.ensures) (omega (arith, c.if-top-eq0.false))

pub loop-at-smaller : goal.loop-at-smaller
loop-at-smaller c = omega (arith, (loop-at-preserved c).counting.within)
