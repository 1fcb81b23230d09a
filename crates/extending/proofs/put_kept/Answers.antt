use Prim.Native.Nat.{◌+◌, ◌≤◌, ◌<◌}
use native.Mathlib.Omega.{arith}
use lib.ListN.{length, length-set}
use borrow.Author.Rules.{rules}
use Rattle.loaded_table.specs.Loaded.{types_in, table_by}
use Rattle.extending.proofs.Reporting.{KeptWith, kept_with, none_kept, one_more_kept, all_kept}
use Rattle.extending.proofs.put_kept.Goals as goal
use Rattle.extending.proofs.put_kept.Goals.{In-loop-t, After-height}

-- in a turn there is a type, and room for three bytes more
exists : (turn : In-loop-t) → turn.loop-t.t < types_in turn.args.numbers.now
exists turn = omega (arith, turn.loop-t-test.true, turn.types-t-end.ensures.0)

room : (turn : In-loop-t) → turn.loop-t.at + 3 ≤ length turn.loop-t.out
room turn =
    let k = turn.loop-t.invariant in
    omega (arith, exists turn, k.place, k.long, turn.requires.1)

below : (turn : In-loop-t) → turn.loop-t.t < 64
below turn = omega (arith, exists turn, turn.requires.0.stands.bounded.few_types)

-- what was read is what is kept with the type
with-type : (c : After-height) → KeptWith (table_by c.args.numbers.now) c.loop-t.t c.height.result c.fill-length.result
with-type c =
    rw (c.height.ensures.0, c.fill-length.ensures.0) (kept_with _ _ c.requires.0 (omega (arith, c.loop-t-test.true, c.types-t-end.ensures.0)))

pub loop-t-init : goal.loop-t-init
loop-t-init c = none_kept _ _ _

pub fill-length-requires : goal.fill-length-requires
fill-length-requires c = below (goal.at.fill-length-requires c).In-loop-t

pub overflow_add-second : goal.overflow_add-second
overflow_add-second c = search (rules, room (goal.at.overflow_add-second c).In-loop-t)

pub overflow_add-third : goal.overflow_add-third
overflow_add-third c = search (rules, room (goal.at.overflow_add-third c).In-loop-t)

pub height-requires : goal.height-requires
height-requires c = below (goal.at.height-requires c).In-loop-t

pub overflow_cast-out : goal.overflow_cast-out
overflow_cast-out c = search (rules, (with-type (goal.at.overflow_cast-out c).After-height).low_height)

pub bounds-out-at : goal.bounds-out-at
bounds-out-at c = omega (arith, room (goal.at.bounds-out-at c).In-loop-t)

pub overflow_cast-out-in-loop-t : goal.overflow_cast-out-in-loop-t
overflow_cast-out-in-loop-t c = search (rules, c.fill-length.ensures.1)

pub bounds-out-second : goal.bounds-out-second
bounds-out-second c = simp length-set (omega (arith, room (goal.at.bounds-out-second c).In-loop-t))

pub bounds-out-third : goal.bounds-out-third
bounds-out-third c = simp length-set (omega (arith, room (goal.at.bounds-out-third c).In-loop-t))

pub overflow_add-at : goal.overflow_add-at
overflow_add-at c = search (rules, room (goal.at.overflow_add-at c).In-loop-t)

pub loop-t-preserved : goal.loop-t-preserved
loop-t-preserved c = one_more_kept _ _ _ _ _ _ _ _ c.loop-t.invariant c.loop-t-test.true (with-type (goal.at.loop-t-preserved c).After-height)

pub shape_of-out : goal.shape_of-out
shape_of-out c = c.loop-t.invariant.long

pub returns : goal.returns
returns c = all_kept c.loop-t.invariant c.loop-t-test.false c.types-t-end.ensures.0
