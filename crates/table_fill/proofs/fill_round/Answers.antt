use mathlib.Core.Path.{◌≡◌, refl, sym, ap, ◌∙◌, subst}
use mathlib.Core.Bool.{true}
use Prim.Native.Nat.{◌-◌, ◌<◌}
use native.Mathlib.Omega.{arith}
use lib.ListN.{length, set}
use lib.Seq.{set-get_or}
use Rattle.loaded_table.specs.Loaded.{types_in, fill_of, table_by, length_of_lem, section_long, section-set}
use Rattle.model.specs.Definitions.Heights.{heights}
use Rattle.model.proofs.Theorems.Tools.{true_false}
use Rattle.table_heights.specs.Sections.{elsewhere_same, elsewhere_set, types_elsewhere, bounded_elsewhere}
use Rattle.table_fill.specs.Fill.{next_fill}
use Rattle.table_fill.proofs.FillRounds.{Filling, next_is, filling_starts, filling_turn, filling_ends}
use Rattle.table_fill.proofs.fill_round.Goals as goal
use Rattle.table_fill.proofs.fill_round.Goals.{In-loop-t, After-fill_of-length}

-- a turn's type is one of the table, and has a place
here : (i : In-loop-t) → i.loop-t.t - 1 < types_in i.args.table.now
here i = omega (arith, i.loop-t-test.true, i.loop-t.invariant.0)

low : (i : In-loop-t) → i.loop-t.t - 1 < 64
low i = omega (arith, here i, i.requires.0.few_types)

place : (i : In-loop-t) → i.loop-t.t - 1 < length (fill_of i.loop-t.table)
place i =
    rw (section_long 192 64 i.loop-t.table (omega (arith, i.loop-t.invariant.1.same_size, i.requires.0.size))) (low i)

-- the length found is the next
next : (c : After-fill_of-length)
    → c.fill_of-length.result ≡ next_fill (table_by c.args.table.now) (heights (table_by c.args.table.now)) (fill_of c.loop-t.table) (c.loop-t.t - 1)
next c = next_is (c.loop-t.t - 1) c.requires.1 c.loop-t.invariant.1 c.fill_of-length.ensures

pub types-all-requires : goal.types-all-requires
types-all-requires c = tt

pub loop-t-init : goal.loop-t-init
loop-t-init c = let all = c.types-all.ensures.0 in (omega arith, elsewhere_same 192 64 _, λ s. filling_starts _ s (omega (arith, all, length_of_lem c.args.table.now)))

pub overflow_sub-t : goal.overflow_sub-t
overflow_sub-t c = omega (arith, c.loop-t-test.true)

pub fill_of-length-requires : goal.fill_of-length-requires
fill_of-length-requires c = let kept = c.loop-t.invariant.1 in
    (bounded_elsewhere (omega arith) (omega arith) kept c.requires.0, omega (arith, here (goal.at.fill_of-length-requires c).In-loop-t, types_elsewhere (omega arith) (omega arith) kept))

pub fill_at-requires : goal.fill_at-requires
fill_at-requires c = tt

pub set_fill-requires : goal.set_fill-requires
set_fill-requires c = low (goal.at.set_fill-requires c).In-loop-t

pub loop-t-smaller-then-fill_at-length : goal.loop-t-smaller-then-fill_at-length
loop-t-smaller-then-fill_at-length c = omega (arith, c.loop-t-test.true)

pub loop-t-preserved-then-fill_at-length : goal.loop-t-preserved-then-fill_at-length
loop-t-preserved-then-fill_at-length c =
    let v = c.fill_of-length.result in
    let stored : fill_of c.set_fill.new.table ≡ set (fill_of c.loop-t.table) (c.loop-t.t - 1) v = ap fill_of c.set_fill.ensures ∙ section-set 192 64 c.loop-t.table (c.loop-t.t - 1) v (low (goal.at.loop-t-preserved-then-fill_at-length c).In-loop-t) in (
      omega (arith, here (goal.at.loop-t-preserved-then-fill_at-length c).In-loop-t),
      elsewhere_set (c.loop-t.t - 1) v (low (goal.at.loop-t-preserved-then-fill_at-length c).In-loop-t) c.set_fill.ensures c.loop-t.invariant.1,
      λ s. subst (λ xs. Filling (table_by c.args.table.now) s (fill_of c.args.table.now) (c.loop-t.t - 1) xs true) (sym stored)
          (filling_turn (table_by c.args.table.now) s (c.loop-t.t - 1) v true (omega arith) (place (goal.at.loop-t-preserved-then-fill_at-length c).In-loop-t) (next (goal.at.loop-t-preserved-then-fill_at-length c).After-fill_of-length) (λ q. true_false refl q) (c.loop-t.invariant.2 s)),
    )

pub loop-t-smaller : goal.loop-t-smaller
loop-t-smaller c = omega (arith, c.loop-t-test.true)

pub loop-t-preserved : goal.loop-t-preserved
loop-t-preserved c =
    let v = c.fill_of-length.result in
    let kept : set (fill_of c.loop-t.table) (c.loop-t.t - 1) v ≡ fill_of c.loop-t.table = ap (set (fill_of c.loop-t.table) (c.loop-t.t - 1)) (sym c.if-fill_at-length.false ∙ c.fill_at.ensures) ∙ set-get_or (fill_of c.loop-t.table) (c.loop-t.t - 1) 0 in (
      omega (arith, here (goal.at.loop-t-preserved c).In-loop-t),
      c.loop-t.invariant.1,
      λ s. subst (λ xs. Filling (table_by c.args.table.now) s (fill_of c.args.table.now) (c.loop-t.t - 1) xs c.loop-t.changed) kept
          (filling_turn (table_by c.args.table.now) s (c.loop-t.t - 1) v c.loop-t.changed (omega arith) (place (goal.at.loop-t-preserved c).In-loop-t) (next (goal.at.loop-t-preserved c).After-fill_of-length) (λ q. (q, kept)) (c.loop-t.invariant.2 s)),
    )

pub returns : goal.returns
returns c = (c.loop-t.invariant.1, λ s. filling_ends (table_by c.args.table.now) s (omega (arith, c.loop-t-test.false)) (c.loop-t.invariant.2 s))
