use mathlib.Core.Path.{refl}
use mathlib.Core.List.{◌∷◌}
use Prim.Native.Nat.{◌+◌, ◌≤◌, ◌<◌}
use native.Mathlib.Nat.{zero-add}
use native.Mathlib.Omega.{arith}
use lib.ListN.{length, get_or, take, drop}
use Rattle.loaded_table.specs.Loaded.{table_by}
use Rattle.embedding_clash.proofs.Following.{StepAt, step_at, goes_on, rest_cons}
use Rattle.embedding_clash.proofs.ClashLaws.{Together, together_on, differ, at_end}
use Rattle.embedding_clash.proofs.clash.compare.Goals.{In-loop-i}
use Rattle.embedding_clash.proofs.clash.compare.Goals as goal

-- the steps at hand, and what is left behind them
at_step : (c : In-loop-i)
    → let a = c.args in
    Together (table_by a.target.now) a.from (take a.la a.a) (take a.lb a.b) c.loop-i.t c.loop-i.i
    (get_or a.a c.loop-i.i 0 ∷ drop (c.loop-i.i + 1) (take a.la a.a))
    (get_or a.b c.loop-i.i 0 ∷ drop (c.loop-i.i + 1) (take a.lb a.b))
at_step c =
    let a = c.args in
    let first : c.loop-i.i < a.la = omega (arith, c.min-n.ensures) in
    let second : c.loop-i.i < a.lb = omega (arith, c.min-n.ensures) in
    let long : a.la ≤ length a.a = omega arith in
    let long2 : a.lb ≤ length a.b = omega arith in
    rw (rest_cons _ _ _ first long, rest_cons _ _ _ second long2) at c.loop-i.invariant

-- where the step is kept
here : (c : In-loop-i)
    → StepAt c.args.target.now c.loop-i.t (get_or c.args.a c.loop-i.i 0)
here c = step_at (record { bounded = c.requires.walkable.bounded; exists = (goes_on (at_step c).walks).exists })

pub loop-i-init : goal.loop-i-init
loop-i-init c = record { walks = c.requires.walkable.walks; same_behind = refl; same_shared = zero-add _ }

pub kind-requires : goal.kind-requires
kind-requires c = let s = here (goal.at.kind-requires c).In-loop-i in omega (arith, s.inside, s.few)

pub returns-then-p-b : goal.returns-then-p-b
returns-then-p-b c = differ c.kind.ensures.0 (here (goal.at.returns-then-p-b c).In-loop-i) (at_step (goal.at.returns-then-p-b c).In-loop-i) c.if-p-b.true

pub next_type-t-requires : goal.next_type-t-requires
next_type-t-requires c = record { bounded = c.requires.walkable.bounded; exists = (goes_on (at_step (goal.at.next_type-t-requires c).In-loop-i).walks).exists }

pub loop-i-preserved : goal.loop-i-preserved
loop-i-preserved c = rw c.next_type-t.ensures (together_on (at_step (goal.at.loop-i-preserved c).In-loop-i) c.if-p-b.false)

pub returns : goal.returns
returns c =
    let loop = c.loop-i in
    at_end _ _ _ _ _ c.ended.ensures c.min-n.ensures (omega arith) (omega arith) (omega arith) loop.invariant
