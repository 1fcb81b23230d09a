-- `element` meets its contract, turn by turn.
use Prim.Native.Nat.{ℕ}
use native.Mathlib.Omega.{arith}
use Rattle.rows.specs.Rows.{item_row}
use Rattle.measuring.proofs.Turns.{ChildMeasured, row_within, counts_start, turn-within, turn_done, turn-letter, turn-opens, turn-ahead, turn-child}
use Rattle.measuring.proofs.+element.Goals as goal
use Rattle.measuring.proofs.+element.Goals.{After-element-p}

pub item_size-around-requires-clause-s_bound : goal.item_size-around-requires-clause-s_bound
item_size-around-requires-clause-s_bound t c = (c.requires.exists, row_within c.requires (item_row c.args.s) (omega arith))

pub size_of-size-requires : goal.size_of-size-requires
size_of-size-requires t c = row_within c.requires c.source_row.result c.source_row.ensures.1

pub loop-o-init : goal.loop-o-init
loop-o-init t c =
    let size = c.size_of-size.ensures in
    counts_start c.type_ahead-first.ensures c.source_row.ensures.0 size.0 size.1 size.2 c.requires

pub bounds-tr-o : goal.bounds-tr-o
bounds-tr-o t c = turn-within c.loop-o.invariant c.requires

pub bounds-tr-o-in-loop-o : goal.bounds-tr-o-in-loop-o
bounds-tr-o-in-loop-o t c = turn-within c.loop-o.invariant c.requires

-- a character was counted
pub loop-o-preserved-then-tr-o-eq-CHARACTER : goal.loop-o-preserved-then-tr-o-eq-CHARACTER
loop-o-preserved-then-tr-o-eq-CHARACTER t c =
    let size = c.with_character-size.ensures in
    turn-letter c.loop-o.invariant c.requires c.if-tr-o-eq-CHARACTER.true size.0 size.1 size.2

-- an element opens
pub overflow_add-o-else-tr-o-eq-CHARACTER : goal.overflow_add-o-else-tr-o-eq-CHARACTER
overflow_add-o-else-tr-o-eq-CHARACTER t c = omega (arith, turn-opens c.loop-o.invariant c.requires c.if-tr-o-eq-CHARACTER.false c.loop-o-test.true)

pub bounds-tr-o-else-tr-o-eq-CHARACTER : goal.bounds-tr-o-else-tr-o-eq-CHARACTER
bounds-tr-o-else-tr-o-eq-CHARACTER t c = turn-opens c.loop-o.invariant c.requires c.if-tr-o-eq-CHARACTER.false c.loop-o-test.true

pub child_depth-depth-requires-clause-s_bound : goal.child_depth-depth-requires-clause-s_bound
child_depth-depth-requires-clause-s_bound t c =
    let ahead = turn-ahead c.loop-o.invariant c.requires c.if-tr-o-eq-CHARACTER.false c.loop-o-test.true c.from-t.result c.from-t.ensures in
    (c.requires.exists, ahead.few)

pub overflow_add-o-else-tr-o-eq-CHARACTER-2 : goal.overflow_add-o-else-tr-o-eq-CHARACTER-2
overflow_add-o-else-tr-o-eq-CHARACTER-2 t c =
    let ahead = turn-ahead c.loop-o.invariant c.requires c.if-tr-o-eq-CHARACTER.false c.loop-o-test.true c.from-t.result c.from-t.ensures in
    omega (arith, ahead.two)

pub element-p-requires : goal.element-p-requires
element-p-requires t c =
    let ahead = turn-ahead c.loop-o.invariant c.requires c.if-tr-o-eq-CHARACTER.false c.loop-o-test.true c.from-t.result c.from-t.ensures in
    (omega (arith, c.decreases, c.loop-o.invariant.far, ahead.two), ahead.given)

-- it was measured
element-turned : (t : ℕ) (c : After-element-p t)
    → ChildMeasured c.args.source.now c.args.map.now c.args.sizes.now c.args.tr.now c.args.s c.args.from c.loop-o.o c.loop-o.i c.loop-o.size.levels c.loop-o.size.bytes c.loop-o.size.filler c.item_size-around.result.levels c.item_size-around.result.bytes c.item_size-around.result.filler c.child_depth-depth.result c.element-p.result.size.levels c.element-p.result.size.bytes c.element-p.result.size.filler c.element-p.result.end
element-turned t c =
    let around = c.item_size-around.ensures in
    turn-child c.loop-o.invariant c.requires c.if-tr-o-eq-CHARACTER.false c.loop-o-test.true c.from-t.result c.from-t.ensures around.levels around.bytes around.filler c.child_depth-depth.ensures.0 c.element-p.ensures

pub with_child-size-requires : goal.with_child-size-requires
with_child-size-requires t c =
    let turn = element-turned t (goal.at.with_child-size-requires t c).After-element-p in
    (c.loop-o.invariant.held, turn.about_held, turn.inner_held, c.child_depth-depth.ensures.1)

pub overflow_add-o-else-tr-o-eq-CHARACTER-3 : goal.overflow_add-o-else-tr-o-eq-CHARACTER-3
overflow_add-o-else-tr-o-eq-CHARACTER-3 t c =
    let turn = element-turned t (goal.at.overflow_add-o-else-tr-o-eq-CHARACTER-3 t c).After-element-p in
    omega (arith, turn.within)

pub overflow_add-i : goal.overflow_add-i
overflow_add-i t c =
    let turn = element-turned t (goal.at.overflow_add-i t c).After-element-p in
    omega (arith, c.loop-o.invariant.few, turn.further, turn.within)

pub loop-o-smaller : goal.loop-o-smaller
loop-o-smaller t c =
    let turn = element-turned t (goal.at.loop-o-smaller t c).After-element-p in
    omega (arith, turn.further, turn.within)

pub loop-o-preserved : goal.loop-o-preserved
loop-o-preserved t c =
    let size = c.with_child-size.ensures in
    (element-turned t (goal.at.loop-o-preserved t c).After-element-p).joined size.levels size.bytes size.filler

pub returns : goal.returns
returns t c = turn_done c.loop-o.invariant c.requires c.loop-o-test.false
