use mathlib.Core.Path.{refl, sym, ◌∙◌}
use Rattle.type_commands.proofs.Reading.{member_passed, no_member, member_cut, members_end}
use Rattle.type_commands.proofs.members_only.Goals as goal

pub loop-at-init : goal.loop-at-init
loop-at-init c = refl

pub returns-then-cs-at-ne-MEMBER : goal.returns-then-cs-at-ne-MEMBER
returns-then-cs-at-ne-MEMBER c = sym (no_member _ _ c.loop-at-test.true c.if-cs-at-ne-MEMBER.true) ∙ c.loop-at.invariant

pub returns-then-cs-at : goal.returns-then-cs-at
returns-then-cs-at c = sym (member_cut _ _ c.loop-at-test.true c.if-cs-at.true) ∙ c.loop-at.invariant

pub loop-at-preserved : goal.loop-at-preserved
loop-at-preserved c = member_passed _ _ c.if-cs-at.false c.if-cs-at-ne-MEMBER.false ∙ c.loop-at.invariant

pub returns : goal.returns
returns c = sym (members_end _ _ c.loop-at-test.false) ∙ c.loop-at.invariant
