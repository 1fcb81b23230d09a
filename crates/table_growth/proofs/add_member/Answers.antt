-- `add_member` meets its contract: where numbers can move, rounds from what is kept find them again.
use mathlib.Core.Path.{sym, subst}
use native.Mathlib.Omega.{arith}
use Rattle.loaded_table.specs.Loaded.{heights_of}
use Rattle.table_heights.specs.Sections.{table_elsewhere, bounded_elsewhere}
use Rattle.table_heights.specs.Heights.{HoldsHeights}
use Rattle.table_growth.proofs.Joining.{stays, ready, moved}
use Rattle.table_growth.proofs.add_member.Goals as goal

pub moves-lower-requires : goal.moves-lower-requires
moves-lower-requires c = c.requires

pub overflow_cast-m : goal.overflow_cast-m
overflow_cast-m c = record { fits = omega (arith, c.requires.known, c.requires.loaded.stands.bounded.few_types) }

pub join-requires : goal.join-requires
join-requires c = (omega (arith, c.requires.exists, c.requires.loaded.stands.bounded.few_types), c.requires.room)

pub settle_heights-requires : goal.settle_heights-requires
settle_heights-requires c =
    ready _ _ _ c.requires c.join.ensures

pub find_fill-requires : goal.find_fill-requires
find_fill-requires c =
    let settled = c.settle_heights.ensures in
    let bounded = (ready _ _ _ c.requires c.join.ensures).0 in (
      bounded_elsewhere (omega arith) (omega arith) settled.elsewhere bounded,
      subst (λ T. HoldsHeights T (heights_of c.settle_heights.new.table)) (sym (table_elsewhere (omega arith) (omega arith) settled.elsewhere)) settled.found,
    )

pub returns-then-lower : goal.returns-then-lower
returns-then-lower c =
    moved _ _ _ c.requires c.join.ensures c.settle_heights.ensures c.find_fill.ensures

pub returns-else-lower : goal.returns-else-lower
returns-else-lower c =
    stays _ _ _ c.requires c.join.ensures c.moves-lower.ensures c.if-lower.false
