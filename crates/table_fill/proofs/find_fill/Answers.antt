use mathlib.Core.Path.{subst}
use mathlib.Core.Logic.{inl}
use native.Mathlib.Omega.{arith}
use Rattle.loaded_table.specs.Loaded.{fill_of, table_by, length_of_lem}
use Rattle.model.proofs.Theorems.Facts.{SoundTable}
use Rattle.table_heights.specs.Sections.{elsewhere_same, elsewhere_both, section_elsewhere, table_elsewhere, bounded_elsewhere}
use Rattle.table_fill.specs.Fill.{HoldsFillRound}
use Rattle.table_fill.proofs.FillRounds.{fill_none, fill_all}
use Rattle.table_fill.proofs.find_fill.Goals as goal
use Rattle.table_fill.proofs.find_fill.Goals.{After-fill_round}

-- a round of the table before it is one of the first table
round : (c : After-fill_round)
    → let T = table_by c.args.table.now in
    SoundTable T → HoldsFillRound T (fill_of c.loop-n.table) (fill_of c.fill_round.new.table) c.fill_round.result
round c =
    subst (λ T. SoundTable T → HoldsFillRound T (fill_of c.loop-n.table) (fill_of c.fill_round.new.table) c.fill_round.result) (table_elsewhere (omega arith) (omega arith) c.loop-n.invariant.1) c.fill_round.ensures.1

pub types-all-requires : goal.types-all-requires
types-all-requires c = tt

pub loop-n-init : goal.loop-n-init
loop-n-init c = (omega arith, elsewhere_same 192 64 _, λ s. fill_none _ s (fill_of c.args.table.now))

pub fill_round-requires : goal.fill_round-requires
fill_round-requires c = let kept = c.loop-n.invariant.1 in (bounded_elsewhere (omega arith) (omega arith) kept c.requires.0, rw (table_elsewhere (omega arith) (omega arith) kept, section_elsewhere 128 64 (inl (omega arith)) kept) c.requires.1)

pub overflow_add-n : goal.overflow_add-n
overflow_add-n c = omega (arith, c.types-all.ensures.1)

pub loop-n-smaller-then-fill_round : goal.loop-n-smaller-then-fill_round
loop-n-smaller-then-fill_round c = omega arith

pub loop-n-preserved-then-fill_round : goal.loop-n-preserved-then-fill_round
loop-n-preserved-then-fill_round c = (omega arith, elsewhere_both c.loop-n.invariant.1 c.fill_round.ensures.0, λ s. (round (goal.at.loop-n-preserved-then-fill_round c).After-fill_round s).higher c.loop-n.n (c.loop-n.invariant.2 s))

pub loop-n-smaller : goal.loop-n-smaller
loop-n-smaller c = omega arith

pub loop-n-preserved : goal.loop-n-preserved
loop-n-preserved c = (omega arith, elsewhere_both c.loop-n.invariant.1 c.fill_round.ensures.0, λ s t exists low. ((round (goal.at.loop-n-preserved c).After-fill_round s).unchanged c.if-fill_round.false).fill_at_lem t exists)

pub returns : goal.returns
returns c = let all = c.types-all.ensures.0 in
    record { elsewhere = c.loop-n.invariant.1; found = λ s. fill_all _ s (omega (arith, all, length_of_lem c.args.table.now)) (c.loop-n.invariant.2 s) }
