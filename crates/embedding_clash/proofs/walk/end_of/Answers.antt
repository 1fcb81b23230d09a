use mathlib.Core.Path.{refl}
use Prim.Native.Nat.{◌+◌, ◌≤◌, ◌<◌}
use native.Mathlib.Omega.{arith}
use mathlib.Core.List.{◌∷◌}
use lib.ListN.{length, get_or, take, drop}
use Rattle.loaded_table.specs.Loaded.{table_by}
use Rattle.embedding_clash.proofs.Following.{OnTheWay, way_on, way_ends, goes_on, rest_cons, rest_none}
use Rattle.embedding_clash.proofs.walk.end_of.Goals.{In-loop-i}
use Rattle.embedding_clash.proofs.walk.end_of.Goals as goal

-- the step at hand, and what is left behind it
at_step : (c : In-loop-i)
    → OnTheWay (table_by c.args.target.now)
    c.args.from (take c.args.count c.args.path) c.loop-i.t
    (get_or c.args.path c.loop-i.i 0 ∷ drop (c.loop-i.i + 1) (take c.args.count c.args.path))
at_step c =
    let inside : c.loop-i.i < c.args.count = omega arith in
    let long : c.args.count ≤ length c.args.path = omega arith in
    rw (rest_cons _ _ _ inside long) at c.loop-i.invariant

pub loop-i-init : goal.loop-i-init
loop-i-init c = record { walks = c.requires.walks; ends = refl }

pub next_type-t-requires : goal.next_type-t-requires
next_type-t-requires c = record { bounded = c.requires.bounded; exists = (goes_on (at_step c).walks).exists }

pub loop-i-preserved : goal.loop-i-preserved
loop-i-preserved c = rw c.next_type-t.ensures (way_on (at_step (goal.at.loop-i-preserved c).In-loop-i))

pub returns : goal.returns
returns c = let past : c.args.count ≤ c.loop-i.i = omega arith in way_ends c.loop-i.invariant (rest_none _ _ _ past)
