-- `member_of` meets its contract: a member is x, or none is.
use Rattle.std.proofs.Common.{arith, sym, ◌∙◌}
use Rattle.tree_expected.proofs.Rests.{searching_start, searching_found, searching_on, searching_end, members_within}
use Rattle.tree_expected.proofs.member_of.Goals as goal

pub loop-i-init : goal.loop-i-init
loop-i-init c = searching_start _ _ _ _

pub member-requires : goal.member-requires
member-requires c = (c.requires.below, omega (arith, c.count-i-end.ensures.0, c.loop-i-test.true, c.requires.bounded.few_members c.args.m))

pub returns-then-x-member : goal.returns-then-x-member
returns-then-x-member c =
    searching_found _ _ _ _ _ (members_within _ _ c.requires) (omega (arith, c.count-i-end.ensures.0, c.loop-i-test.true)) c.loop-i.invariant (c.if-x-member.true ∙ c.member.ensures.0)

pub loop-i-preserved : goal.loop-i-preserved
loop-i-preserved c =
    searching_on _ _ _ _ _ (members_within _ _ c.requires) (omega (arith, c.count-i-end.ensures.0, c.loop-i-test.true)) c.loop-i.invariant (λ e. c.if-x-member.false (e ∙ sym c.member.ensures.0))

pub returns : goal.returns
returns c = searching_end _ _ _ _ _ (omega (arith, c.count-i-end.ensures.0, c.loop-i-test.false)) c.loop-i.invariant
