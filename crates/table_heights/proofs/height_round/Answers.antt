use mathlib.Core.Path.{◌≡◌, sym, ap, ◌∙◌, subst}
use mathlib.Core.Bool.{true}
use mathlib.Core.List.{List}
use Prim.Native.Nat.{ℕ, ◌-◌, ◌≤◌, ◌<◌}
use native.Mathlib.Omega.{arith}
use lib.ListN.{length, set}
use Rattle.loaded_table.specs.Loaded.{heights_of, table_by, length_of_lem, section_long, section-set}
use Rattle.table_heights.specs.Sections.{elsewhere_same, elsewhere_set, types_elsewhere, table_elsewhere, bounded_elsewhere}
use Rattle.table_heights.specs.Heights.{next_height}
use Rattle.table_heights.proofs.Rounds.{Raising, raising_starts, raising_changed, raising_kept, raising_ends}
use Rattle.table_heights.proofs.height_round.Goals as goal
use Rattle.table_heights.proofs.height_round.Goals.{After-types-all, In-loop-t, After-next_height-h}

-- the array before the round, and its number of types
abbrev before : After-types-all → List ℕ
before c = c.args.table.now

long : (c : After-types-all) → length (table_by (before c)) ≡ c.types-all.result
long c = length_of_lem (before c) ∙ sym c.types-all.ensures.0

few : (c : After-types-all) → c.types-all.result ≤ 64
few c = omega (arith, c.types-all.ensures.0, c.requires.few_types)

-- a turn's type is one of the table
here : (c : In-loop-t) → c.loop-t.t - 1 < c.types-all.result
here c = omega (arith, c.loop-t-test.true, c.loop-t.invariant.1.within, length_of_lem c.args.table.now, c.types-all.ensures.0)

-- the height found is the next
next : (c : After-next_height-h)
    → c.next_height-h.result ≡ next_height (table_by c.args.table.now) (heights_of c.loop-t.table) (c.loop-t.t - 1)
next c =
    c.next_height-h.ensures ∙ ap (λ T. next_height T (heights_of c.loop-t.table) (c.loop-t.t - 1)) (table_elsewhere (omega arith) (omega arith) c.loop-t.invariant.0)

pub types-all-requires : goal.types-all-requires
types-all-requires c = tt

pub loop-t-init : goal.loop-t-init
loop-t-init c =
    let rows = before c in
    (elsewhere_same 128 64 rows, subst (λ k. Raising (table_by rows) (heights_of rows) k (heights_of rows) _) (long c) (raising_starts (table_by rows) (heights_of rows) (section_long 128 64 rows (omega (arith, c.requires.size)))))

pub overflow_sub-t : goal.overflow_sub-t
overflow_sub-t c = omega (arith, c.loop-t-test.true)

pub next_height-h-requires : goal.next_height-h-requires
next_height-h-requires c =
    let kept = c.loop-t.invariant.0 in
    (bounded_elsewhere (omega arith) (omega arith) kept c.requires, omega (arith, here (goal.at.next_height-h-requires c).In-loop-t, c.types-all.ensures.0, types_elsewhere (omega arith) (omega arith) kept))

pub height-requires : goal.height-requires
height-requires c = omega (arith, here (goal.at.height-requires c).In-loop-t, few (goal.at.height-requires c).After-types-all)

pub overflow_cast-h : goal.overflow_cast-h
overflow_cast-h c = record { fits = omega (arith, next (goal.at.overflow_cast-h c).After-next_height-h, long (goal.at.overflow_cast-h c).After-types-all, few (goal.at.overflow_cast-h c).After-types-all) }

pub set_height-requires : goal.set_height-requires
set_height-requires c =
    omega (arith, here (goal.at.set_height-requires c).In-loop-t, few (goal.at.set_height-requires c).After-types-all)

pub loop-t-smaller-then-height-h : goal.loop-t-smaller-then-height-h
loop-t-smaller-then-height-h c = omega (arith, c.loop-t-test.true)

pub loop-t-preserved-then-height-h : goal.loop-t-preserved-then-height-h
loop-t-preserved-then-height-h c =
    let rows = before (goal.at.loop-t-preserved-then-height-h c).After-types-all in
    let h = c.next_height-h.result in
    let low : c.loop-t.t - 1 < 64 = omega (arith, here (goal.at.loop-t-preserved-then-height-h c).In-loop-t, few (goal.at.loop-t-preserved-then-height-h c).After-types-all) in
    let stored : heights_of c.set_height.new.table ≡ set (heights_of c.loop-t.table) (c.loop-t.t - 1) h = ap heights_of c.set_height.ensures ∙ section-set 128 64 c.loop-t.table (c.loop-t.t - 1) h low in (
      elsewhere_set (c.loop-t.t - 1) h low c.set_height.ensures c.loop-t.invariant.0,
      subst (λ hs. Raising (table_by rows) (heights_of rows) (c.loop-t.t - 1) hs true) (sym stored) (raising_changed c.loop-t.t c.loop-t-test.true (next (goal.at.loop-t-preserved-then-height-h c).After-next_height-h) c.loop-t.invariant.1),
    )

pub loop-t-smaller : goal.loop-t-smaller
loop-t-smaller c = omega (arith, c.loop-t-test.true)

pub loop-t-preserved : goal.loop-t-preserved
loop-t-preserved c =
    (c.loop-t.invariant.0, raising_kept c.loop-t.t c.loop-t-test.true (next (goal.at.loop-t-preserved c).After-next_height-h) (sym c.height.ensures.0 ∙ c.if-height-h.false) c.loop-t.invariant.1)

pub returns : goal.returns
returns c = (c.loop-t.invariant.0, raising_ends (omega (arith, c.loop-t-test.false)) c.loop-t.invariant.1)
