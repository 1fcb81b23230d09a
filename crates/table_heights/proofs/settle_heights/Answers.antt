use mathlib.Core.Path.{subst}
use Prim.Native.Nat.{◌≤◌}
use native.Mathlib.Omega.{arith}
use lib.ListN.{length}
use Rattle.loaded_table.specs.Loaded.{heights_of, table_by, length_of_lem, section_long}
use Rattle.table_heights.specs.Sections.{elsewhere_same, elsewhere_both, table_elsewhere, bounded_elsewhere}
use Rattle.table_heights.specs.Heights.{HoldsRound}
use Rattle.table_heights.proofs.Rounds.{settled_none, settled_more, settled_last, settled_all}
use Rattle.table_heights.proofs.settle_heights.Goals as goal
use Rattle.table_heights.proofs.settle_heights.Goals.{After-types-all, After-height_round}

few : (c : After-types-all) → length (table_by c.args.table.now) ≤ 64
few c = omega (arith, length_of_lem c.args.table.now, c.requires.0.few_types)

-- a round of the table before it is one of the first table
round : (c : After-height_round)
    → HoldsRound (table_by c.args.table.now) (heights_of c.loop-n.table) (heights_of c.height_round.new.table) c.height_round.result
round c =
    subst (λ T. HoldsRound T (heights_of c.loop-n.table) (heights_of c.height_round.new.table) c.height_round.result) (table_elsewhere (omega arith) (omega arith) c.loop-n.invariant.1) c.height_round.ensures.1

pub types-all-requires : goal.types-all-requires
types-all-requires c = tt

pub loop-n-init : goal.loop-n-init
loop-n-init c =
    let rows = c.args.table.now in
    (omega arith, elsewhere_same 128 64 rows, settled_none (section_long 128 64 rows (omega (arith, c.requires.0.size))) c.requires.1)

pub height_round-requires : goal.height_round-requires
height_round-requires c = bounded_elsewhere (omega arith) (omega arith) c.loop-n.invariant.1 c.requires.0

pub overflow_add-n : goal.overflow_add-n
overflow_add-n c = omega (arith, c.types-all.ensures.1)

pub loop-n-smaller-then-height_round : goal.loop-n-smaller-then-height_round
loop-n-smaller-then-height_round c = omega arith

pub loop-n-preserved-then-height_round : goal.loop-n-preserved-then-height_round
loop-n-preserved-then-height_round c =
    (omega arith, elsewhere_both c.loop-n.invariant.1 c.height_round.ensures.0, settled_more (few (goal.at.loop-n-preserved-then-height_round c).After-types-all) c.loop-n.invariant.2 (round (goal.at.loop-n-preserved-then-height_round c).After-height_round))

pub loop-n-smaller : goal.loop-n-smaller
loop-n-smaller c = omega arith

pub loop-n-preserved : goal.loop-n-preserved
loop-n-preserved c =
    (omega arith, elsewhere_both c.loop-n.invariant.1 c.height_round.ensures.0, settled_last (few (goal.at.loop-n-preserved c).After-types-all) c.loop-n.invariant.0 c.loop-n.invariant.2 (round (goal.at.loop-n-preserved c).After-height_round) c.if-height_round.false)

pub returns : goal.returns
returns c =
    let rows = c.args.table.now in
    record { elsewhere = c.loop-n.invariant.1; found = settled_all (omega (arith, length_of_lem rows, c.types-all.ensures.0)) c.loop-n.invariant.2 }
