use mathlib.Core.Path.{◌≡◌, refl, sym, ◌∙◌}
use mathlib.Core.Bool.{false}
use mathlib.Core.List.{◌∷◌}
use Prim.Native.Nat.{◌+◌, ◌≤◌, ◌<◌}
use native.Mathlib.Omega.{arith}
use lib.ListN.{length, get_or, take, drop}
use Rattle.model.specs.Definitions.Table.{kind_of, is_choice}
use Rattle.loaded_table.specs.Loaded.{table_by}
use Rattle.embedding_clash.proofs.Following.{StepAt, step_at, goes_on, rest_cons, rest_none}
use Rattle.embedding_ends.proofs.AgreeLaws.{Agreeing, meet_choice, other_ended, steps_differ, agreeing-on, both_ended, first_ended, choice_told}
use Rattle.embedding_ends.proofs.agreement.agree.Goals.{In-loop-i, Else-is_choice, Else-i-lb, Else-la-lb}
use Rattle.embedding_ends.proofs.agreement.agree.Goals as goal

-- the first path's step at hand, and what is left behind it
at_step : (c : In-loop-i)
    → Agreeing (table_by c.args.target.now) c.args.from (take c.args.la c.args.a) (take c.args.lb c.args.b) c.loop-i.t
    (get_or c.args.a c.loop-i.i 0 ∷ drop (c.loop-i.i + 1) (take c.args.la c.args.a))
    (drop c.loop-i.i (take c.args.lb c.args.b))
at_step c =
    let inside : c.loop-i.i < c.args.la = omega arith in
    let long : c.args.la ≤ length c.args.a = omega arith in
    rw (rest_cons _ _ _ inside long) at c.loop-i.invariant.1

-- where it is kept
here : (c : In-loop-i) → StepAt c.args.target.now c.loop-i.t (get_or c.args.a c.loop-i.i 0)
here c = step_at (record { bounded = c.requires.walkable.bounded; exists = (goes_on (at_step c).walks).exists })

-- the type reached is no choice
no_choice : (c : Else-is_choice) → StepAt c.args.target.now c.loop-i.t (get_or c.args.a c.loop-i.i 0) → is_choice (kind_of (table_by c.args.target.now) c.loop-i.t) ≡ false
no_choice c kept = sym (choice_told kept c.is_choice.ensures c.kind.ensures.0) ∙ c.if-is_choice.false

-- the steps at hand of both paths
at-steps : (c : Else-i-lb)
    → let a = c.args in
    Agreeing (table_by a.target.now) a.from (take a.la a.a) (take a.lb a.b) c.loop-i.t
    (get_or a.a c.loop-i.i 0 ∷ drop (c.loop-i.i + 1) (take a.la a.a))
    (get_or a.b c.loop-i.i 0 ∷ drop (c.loop-i.i + 1) (take a.lb a.b))
at-steps c =
    let a = c.args in
    let inside : c.loop-i.i < a.la = omega arith in
    let first : a.la ≤ length a.a = omega arith in
    let second : c.loop-i.i < a.lb = omega (arith, c.loop-i.invariant.0, c.if-i-lb.false) in
    let long : a.lb ≤ length a.b = omega arith in
    rw (rest_cons _ _ _ inside first, rest_cons _ _ _ second long) at c.loop-i.invariant.1

-- only the first is: the second's step at hand, and where it is kept
at_other : (c : Else-la-lb)
    → let a = c.args in
    Agreeing (table_by a.target.now) a.from (take a.la a.a) (take a.lb a.b) c.loop-i.t
    (drop c.loop-i.i (take a.la a.a))
    (get_or a.b c.loop-i.i 0 ∷ drop (c.loop-i.i + 1) (take a.lb a.b))
at_other c =
    let a = c.args in
    let second : c.loop-i.i < a.lb = omega (arith, c.loop-i.invariant.0, c.if-la-lb.false) in
    let long : a.lb ≤ length a.b = omega arith in
    rw (rest_cons _ _ _ second long) at c.loop-i.invariant.1

-- the second path has a step there
there : (c : Else-la-lb) → StepAt c.args.target.now c.loop-i.t (get_or c.args.b c.loop-i.i 0)
there c = step_at (record { bounded = c.requires.walkable.bounded; exists = (goes_on (at_other c).other_walks).exists })

pub loop-i-init : goal.loop-i-init
loop-i-init c = (omega arith, record { walks = c.requires.walkable.walks; other_walks = c.requires.walkable_2.walks; same = refl })

pub kind-requires : goal.kind-requires
kind-requires c = let s = here c in omega (arith, s.inside, s.few)

-- at a choice
pub returns-then-is_choice : goal.returns-then-is_choice
returns-then-is_choice c =
    meet_choice c.loop-i.invariant.1 (sym (choice_told (here (goal.at.returns-then-is_choice c).In-loop-i) c.is_choice.ensures c.kind.ensures.0) ∙ c.if-is_choice.true)

-- only the second path is at its end
pub returns-then-i-lb : goal.returns-then-i-lb
returns-then-i-lb c =
    let ended : c.args.lb ≤ c.loop-i.i = omega (arith, c.if-i-lb.true) in
    other_ended (at_step (goal.at.returns-then-i-lb c).In-loop-i) (no_choice (goal.at.returns-then-i-lb c).Else-is_choice (here (goal.at.returns-then-i-lb c).In-loop-i)) (rest_none _ _ _ ended)

-- the steps differ
pub returns-then-p-b : goal.returns-then-p-b
returns-then-p-b c = steps_differ (at-steps (goal.at.returns-then-p-b c).Else-i-lb) (no_choice (goal.at.returns-then-p-b c).Else-is_choice (here (goal.at.returns-then-p-b c).In-loop-i)) c.if-p-b.true

pub next_type-t-requires : goal.next_type-t-requires
next_type-t-requires c =
    record { bounded = c.requires.walkable.bounded; exists = (goes_on (at_step (goal.at.next_type-t-requires c).In-loop-i).walks).exists }

pub loop-i-preserved : goal.loop-i-preserved
loop-i-preserved c = (
  omega (arith, c.loop-i.invariant.0, c.if-i-lb.false),
  rw c.next_type-t.ensures (agreeing-on (at-steps (goal.at.loop-i-preserved c).Else-i-lb) (no_choice (goal.at.loop-i-preserved c).Else-is_choice (here (goal.at.loop-i-preserved c).In-loop-i)) c.if-p-b.false),
)

-- both are at their end
pub returns-then-la-lb : goal.returns-then-la-lb
returns-then-la-lb c =
    let past : c.args.la ≤ c.loop-i.i = omega arith in
    let ended : c.args.lb ≤ c.loop-i.i = omega (arith, c.if-la-lb.true) in
    both_ended c.loop-i.invariant.1 (rest_none _ _ _ past) (rest_none _ _ _ ended)

pub kind-requires-2 : goal.kind-requires-2
kind-requires-2 c = let s = there c in omega (arith, s.inside, s.few)

pub returns : goal.returns
returns c =
    let past : c.args.la ≤ c.loop-i.i = omega arith in
    choice_told (there (goal.at.returns c).Else-la-lb) c.is_choice-2.ensures c.kind-2.ensures.0 ∙ first_ended (at_other (goal.at.returns c).Else-la-lb) (rest_none _ _ _ past)
