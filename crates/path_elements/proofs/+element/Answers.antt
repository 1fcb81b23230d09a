-- `element` meets its contract, turn by turn.
use Prim.Native.Nat.{ℕ}
use native.Mathlib.Omega.{arith}
use Rattle.rows.specs.Rows.{item_row}
use Rattle.path_elements.proofs.Turns.{ChildCounted, row_within, counts_start, turn-within, turn_done, turn-letter, turn-opens, turn-ahead, turn-child}
use Rattle.path_elements.proofs.+element.Goals as goal
use Rattle.path_elements.proofs.+element.Goals.{After-element-inner}

pub item_openings-around-requires : goal.item_openings-around-requires
item_openings-around-requires t c = let g = c.requires in (g.exists, g.bounded, row_within g (item_row c.args.s) (omega arith), g.rows.within _)

pub row_openings-count-requires : goal.row_openings-count-requires
row_openings-count-requires t c = let g = c.requires in (row_within g c.source_row.result c.source_row.ensures.1, g.rows.within _)

pub loop-o-init : goal.loop-o-init
loop-o-init t c = counts_start c.type_ahead-first.ensures c.source_row.ensures.0 c.row_openings-count.ensures

pub bounds-tr-o : goal.bounds-tr-o
bounds-tr-o t c = turn-within c.loop-o.invariant c.requires

pub bounds-tr-o-in-loop-o : goal.bounds-tr-o-in-loop-o
bounds-tr-o-in-loop-o t c = turn-within c.loop-o.invariant c.requires

-- a character adds nothing
pub loop-o-preserved-then-tr-o-eq-CHARACTER : goal.loop-o-preserved-then-tr-o-eq-CHARACTER
loop-o-preserved-then-tr-o-eq-CHARACTER t c = turn-letter c.loop-o.invariant c.requires c.if-tr-o-eq-CHARACTER.true

-- an element opens
pub overflow_add-o-else-tr-o-eq-CHARACTER : goal.overflow_add-o-else-tr-o-eq-CHARACTER
overflow_add-o-else-tr-o-eq-CHARACTER t c = omega (arith, turn-opens c.loop-o.invariant c.requires c.if-tr-o-eq-CHARACTER.false c.loop-o-test.true)

pub bounds-tr-o-else-tr-o-eq-CHARACTER : goal.bounds-tr-o-else-tr-o-eq-CHARACTER
bounds-tr-o-else-tr-o-eq-CHARACTER t c = turn-opens c.loop-o.invariant c.requires c.if-tr-o-eq-CHARACTER.false c.loop-o-test.true

pub overflow_add-o-else-tr-o-eq-CHARACTER-2 : goal.overflow_add-o-else-tr-o-eq-CHARACTER-2
overflow_add-o-else-tr-o-eq-CHARACTER-2 t c = omega (arith, turn-opens c.loop-o.invariant c.requires c.if-tr-o-eq-CHARACTER.false c.loop-o-test.true)

-- its content begins later, and is given
pub element-inner-requires : goal.element-inner-requires
element-inner-requires t c =
    let opens = turn-opens c.loop-o.invariant c.requires c.if-tr-o-eq-CHARACTER.false c.loop-o-test.true in
    (omega (arith, c.decreases, c.loop-o.invariant.far, opens), turn-ahead c.loop-o.invariant c.requires c.if-tr-o-eq-CHARACTER.false c.loop-o-test.true c.from-t.result c.from-t.ensures)

-- it was counted
element-turn : (t : ℕ) (c : After-element-inner t)
    → ChildCounted c.args.source.now c.args.pool.now c.args.places.now c.args.tr.now c.args.s c.args.from c.loop-o.o c.loop-o.count c.item_openings-around.result c.element-inner.result.count c.element-inner.result.end
element-turn t c =
    turn-child c.loop-o.invariant c.requires c.if-tr-o-eq-CHARACTER.false c.loop-o-test.true c.from-t.result c.from-t.ensures c.item_openings-around.ensures c.element-inner.ensures

pub overflow_add-count : goal.overflow_add-count
overflow_add-count t c =
    let turn = element-turn t (goal.at.overflow_add-count t c).After-element-inner in
    omega (arith, c.loop-o.invariant.small, turn.about_small)

pub overflow_add-count-else-tr-o-eq-CHARACTER : goal.overflow_add-count-else-tr-o-eq-CHARACTER
overflow_add-count-else-tr-o-eq-CHARACTER t c =
    let turn = element-turn t (goal.at.overflow_add-count-else-tr-o-eq-CHARACTER t c).After-element-inner in
    omega (arith, c.loop-o.invariant.small, turn.about_small, turn.inner_small)

pub overflow_add-o-else-tr-o-eq-CHARACTER-3 : goal.overflow_add-o-else-tr-o-eq-CHARACTER-3
overflow_add-o-else-tr-o-eq-CHARACTER-3 t c =
    let turn = element-turn t (goal.at.overflow_add-o-else-tr-o-eq-CHARACTER-3 t c).After-element-inner in
    omega (arith, turn.within)

pub loop-o-smaller : goal.loop-o-smaller
loop-o-smaller t c =
    let turn = element-turn t (goal.at.loop-o-smaller t c).After-element-inner in
    omega (arith, turn.further, turn.within)

-- its count is joined to the count so far
pub loop-o-preserved : goal.loop-o-preserved
loop-o-preserved t c = (element-turn t (goal.at.loop-o-preserved t c).After-element-inner).joined (omega (arith, c.min-count.ensures))

pub returns : goal.returns
returns t c = turn_done c.loop-o.invariant c.requires c.loop-o-test.false
