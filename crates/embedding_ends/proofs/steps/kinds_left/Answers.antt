use mathlib.Core.Path.{refl}
use mathlib.Core.List.{◌∷◌}
use Prim.Native.Nat.{◌+◌, ◌≤◌, ◌<◌}
use native.Mathlib.Omega.{arith}
use lib.ListN.{length, get_or, take, drop}
use Rattle.loaded_table.specs.Loaded.{table_by}
use Rattle.embedding_clash.proofs.Following.{StepAt, step_at, goes_on, rest_cons, rest_none}
use Rattle.embedding_ends.proofs.StepLaws.{Leaving, leaving_in, leaving_ends}
use Rattle.embedding_ends.proofs.steps.kinds_left.Goals.{In-loop-i}
use Rattle.embedding_ends.proofs.steps.kinds_left.Goals as goal

-- the step at hand, and what is left behind it
at_step : (c : In-loop-i)
    → Leaving (table_by c.args.target.now) c.args.from (take c.args.count c.args.path) c.loop-i.t
    (get_or c.args.path c.loop-i.i 0 ∷ drop (c.loop-i.i + 1) (take c.args.count c.args.path)) c.loop-i.left
at_step c =
    let inside : c.loop-i.i < c.args.count = omega arith in
    let long : c.args.count ≤ length c.args.path = omega arith in
    rw (rest_cons _ _ _ inside long) at c.loop-i.invariant

-- where the step is kept
here : (c : In-loop-i) → StepAt c.args.target.now c.loop-i.t (get_or c.args.path c.loop-i.i 0)
here c = step_at (record { bounded = c.requires.bounded; exists = (goes_on (at_step c).walks).exists })

pub loop-i-init : goal.loop-i-init
loop-i-init c = record { walks = c.requires.walks; choices = refl; optionals = refl; lists = refl }

pub kind-requires : goal.kind-requires
kind-requires c = let s = here c in omega (arith, s.inside, s.few)

pub next_type-t-requires : goal.next_type-t-requires
next_type-t-requires c = record { bounded = c.requires.bounded; exists = (goes_on (at_step (goal.at.next_type-t-requires c).In-loop-i).walks).exists }

pub loop-i-preserved : goal.loop-i-preserved
loop-i-preserved c =
    rw (c.next_type-t.ensures, c.with_kind-left.ensures, c.kind.ensures.0) (leaving_in (here (goal.at.loop-i-preserved c).In-loop-i) (at_step (goal.at.loop-i-preserved c).In-loop-i))

pub returns : goal.returns
returns c = let past : c.args.count ≤ c.loop-i.i = omega arith in leaving_ends c.loop-i.invariant (rest_none _ _ _ past)
