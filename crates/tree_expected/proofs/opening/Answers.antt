-- `opening` meets its contract: one law for each arm.
use Rattle.std.proofs.Common.{arith, sym, ◌∙◌, get_or, ◌≤◌, ◌<◌}
use Rattle.loaded_table.specs.Loaded.{kinds_of}
use Rattle.tree_expected.proofs.Rests.{opening_nothing, opening_past, opening_next, opening_other, opening-second, opening-member, opening-no-member, opening-item, opening-no-item}
use Rattle.tree_expected.proofs.opening.Goals.{else-h-count-via-then-h-count+else-x-member, else-h-count-via-else-h-count, else-h-eq0-via-then-h-eq0+else-member_of, else-h-eq0-via-else-h-eq0}
use Rattle.tree_expected.proofs.opening.Goals as goal

pub member-requires : goal.member-requires
member-requires c = (c.requires.below, omega (arith, c.count.ensures.0, c.if-h-count.true, c.requires.bounded.few_members c.args.m))

-- a text or an empty type
pub returns-in-0 : goal.returns-in-0
returns-in-0 c = opening_nothing c.args.table.now c.args.m c.args.h c.args.x (omega (arith, c.kind.ensures.0))

-- a sequence
pub returns-then-x-member : goal.returns-then-x-member
returns-then-x-member c =
    opening_next _ _ _ _ c.requires (sym c.kind.ensures.0 ∙ c.in-2.is) (omega (arith, c.count.ensures.0, c.if-h-count.true)) (c.if-x-member.true ∙ c.member.ensures.0)

pub returns-else-h-count : goal.returns-else-h-count
returns-else-h-count c =
    let a = c.args in
    let is = sym c.kind.ensures.0 ∙ c.in-2.is in
    elim c.else-h-count.branch [
      | else-h-count-via-then-h-count+else-x-member w ↦
          opening_other a.table.now a.m a.h a.x c.requires is (omega (arith, c.count.ensures.0, w.if-h-count.true)) (λ e. w.if-x-member.false (e ∙ sym w.member.ensures.0))
      | else-h-count-via-else-h-count w ↦ opening_past a.table.now a.m a.h a.x is (omega (arith, c.count.ensures.0, w.if-h-count.false))
    ]

-- a choice of either kind
pub returns-then-member_of : goal.returns-then-member_of
returns-then-member_of c =
    let a = c.args in
    let low : 3 ≤ get_or (kinds_of a.table.now) a.m 0 = omega (arith, c.kind.ensures.0) in
    let high : get_or (kinds_of a.table.now) a.m 0 < 5 = omega (arith, c.kind.ensures.0) in
    opening-member a.table.now a.m a.h a.x low high c.if-h-eq0.true c.member_of.ensures c.if-member_of.true

pub returns-else-h-eq0 : goal.returns-else-h-eq0
returns-else-h-eq0 c =
    let a = c.args in
    let low : 3 ≤ get_or (kinds_of a.table.now) a.m 0 = omega (arith, c.kind.ensures.0) in
    let high : get_or (kinds_of a.table.now) a.m 0 < 5 = omega (arith, c.kind.ensures.0) in
    elim c.else-h-eq0.branch [
      | else-h-eq0-via-then-h-eq0+else-member_of w ↦ opening-no-member a.table.now a.m a.h a.x low high w.if-h-eq0.true w.member_of.ensures w.if-member_of.false
      | else-h-eq0-via-else-h-eq0 w ↦ opening-second a.table.now a.m a.h a.x low high w.if-h-eq0.false
    ]

-- a list
pub returns-then-x-member-2 : goal.returns-then-x-member-2
returns-then-x-member-2 c =
    let a = c.args in
    opening-item a.table.now a.m a.h a.x (omega (arith, c.kind.ensures.0)) (c.if-x-member-2.true ∙ c.member-in_default.ensures.0)

pub returns-else-x-member-2 : goal.returns-else-x-member-2
returns-else-x-member-2 c =
    let a = c.args in
    opening-no-item a.table.now a.m a.h a.x (omega (arith, c.kind.ensures.0)) (λ e. c.if-x-member-2.false (e ∙ sym c.member-in_default.ensures.0))
