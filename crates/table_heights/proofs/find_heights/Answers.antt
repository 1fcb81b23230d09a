-- `find_heights` meets its contract: the numbers with which rounds begin are nowhere below the heights.
use mathlib.Core.Path.{subst}
use native.Mathlib.Omega.{arith}
use Rattle.loaded_table.specs.Loaded.{heights_of}
use Rattle.table_heights.specs.Sections.{elsewhere_both, types_elsewhere, table_elsewhere, bounded_elsewhere}
use Rattle.table_heights.specs.Heights.{HoldsHeights}
use Rattle.table_heights.proofs.Rounds.{first_above}
use Rattle.table_heights.proofs.find_heights.Goals as goal

pub begin_heights-requires : goal.begin_heights-requires
begin_heights-requires c = c.requires

pub settle_heights-requires : goal.settle_heights-requires
settle_heights-requires c =
    let begun = c.begin_heights in
    let bounded = bounded_elsewhere (omega arith) (omega arith) begun.ensures.0 c.requires in
    (bounded, first_above begun.new.table bounded (λ t low. rw (types_elsewhere (omega arith) (omega arith) begun.ensures.0) (begun.ensures.1 t low)))

pub returns : goal.returns
returns c =
    let begun = c.begin_heights.ensures.0 in
    let settled = c.settle_heights.ensures in
    record {
      elsewhere = elsewhere_both begun settled.elsewhere;
      found = subst (λ T. HoldsHeights T (heights_of c.settle_heights.new.table)) (table_elsewhere (omega arith) (omega arith) begun) settled.found;
    }
