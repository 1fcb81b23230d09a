-- `inside` meets its contract: each command leaves what the array then stands for.
use Rattle.std.proofs.Common.{refl, subst, ap, ◌∙◌, arith, Some}
use Rattle.tree_expected.specs.Expected.{Does}
use Rattle.tree_expected.proofs.ExpectedTurns.{inside_root, inside_readable, inside_opens, inside_character, inside-closes, outside-closes, passed_root, passed_more, passed-room, passed-exists, passed-allowed, passed-refuses, passed-outside}
use Rattle.tree_expected.proofs.inside.Goals as goal

pub loop-turn-init : goal.loop-turn-init
loop-turn-init c = inside_root _ _ _ c.requires.passed.bounded c.requires.root (passed_root c.requires.passed c.requires.root) refl

pub turn_at-requires : goal.turn_at-requires
turn_at-requires c = (inside_readable c.loop-turn.invariant, passed_more c.requires.passed c.loop-turn.invariant)

pub bounds-around-top : goal.bounds-around-top
bounds-around-top c = omega (arith, c.loop-turn.invariant.levels.low)

pub loop-turn-preserved-in-Opened : goal.loop-turn-preserved-in-Opened
loop-turn-preserved-in-Opened c =
    let i = c.loop-turn.invariant in
    let o = subst (Does c.args.table.now c.args.t.now c.loop-turn.here.kind c.loop-turn.here.had c.loop-turn.at) (c.in-Some.is ∙ ap Some c.in-Opened.is) c.turn_at.ensures in
    rw c.from.ensures (inside_opens i o (passed-room c.requires.passed i o.reads) (passed-exists c.requires.passed i o.reads))

pub loop-turn-smaller-in-Opened : goal.loop-turn-smaller-in-Opened
loop-turn-smaller-in-Opened c = omega (arith, (loop-turn-preserved-in-Opened c).form.within)

pub loop-turn-preserved-in-Character : goal.loop-turn-preserved-in-Character
loop-turn-preserved-in-Character c =
    let i = c.loop-turn.invariant in
    let o = subst (Does c.args.table.now c.args.t.now c.loop-turn.here.kind c.loop-turn.here.had c.loop-turn.at) (c.in-Some.is ∙ ap Some c.in-Character.is) c.turn_at.ensures in
    inside_character i o (passed-allowed c.requires.passed i o.reads)

pub loop-turn-smaller-in-Character : goal.loop-turn-smaller-in-Character
loop-turn-smaller-in-Character c = omega (arith, (loop-turn-preserved-in-Character c).form.within)

pub returns-then-top-eq0 : goal.returns-then-top-eq0
returns-then-top-eq0 c =
    let o = subst (Does c.args.table.now c.args.t.now c.loop-turn.here.kind c.loop-turn.here.had c.loop-turn.at) (c.in-Some.is ∙ ap Some c.in-Closed.is) c.turn_at.ensures in
    passed-outside c.requires.passed (outside-closes c.loop-turn.invariant o c.if-top-eq0.true)

pub loop-turn-preserved : goal.loop-turn-preserved
loop-turn-preserved c =
    let o = subst (Does c.args.table.now c.args.t.now c.loop-turn.here.kind c.loop-turn.here.had c.loop-turn.at) (c.in-Some.is ∙ ap Some c.in-Closed.is) c.turn_at.ensures in
    inside-closes c.loop-turn.invariant o (omega (arith, c.if-top-eq0.false))

pub loop-turn-smaller : goal.loop-turn-smaller
loop-turn-smaller c = omega (arith, (loop-turn-preserved c).form.within)

pub returns : goal.returns
returns c =
    passed-refuses c.requires.passed c.loop-turn.invariant
    (subst (Does c.args.table.now c.args.t.now c.loop-turn.here.kind c.loop-turn.here.had c.loop-turn.at) c.in_default.is c.turn_at.ensures)
