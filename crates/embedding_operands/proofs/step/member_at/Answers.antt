-- `member_at` meets its contract: a row of members has room for all that are counted, so member p stands at p - 1.
use mathlib.Core.Path.{ap, ◌∙◌}
use mathlib.Core.Option.{some}
use native.Mathlib.Omega.{arith}
use Rattle.embedding_operands.proofs.Steps.{member_none, member_there_lem, member_past}
use Rattle.embedding_form.proofs.Types.{members_whole}
use Rattle.embedding_operands.proofs.step.member_at.Goals as goal

pub returns-then-p-eq0 : goal.returns-then-p-eq0
returns-then-p-eq0 c = member_none _ _ c.if-p-eq0.true

pub member-requires : goal.member-requires
member-requires c =
    (c.requires.t_lt_max_types, omega (arith, c.if-p-count.true, c.if-p-eq0.false, c.count.ensures.0, c.requires.bounded.few_members c.args.t))

pub returns-then-p-count : goal.returns-then-p-count
returns-then-p-count c =
    ap some c.member.ensures.0
    ∙ member_there_lem _ _ _ _ (members_whole c.args.table.now c.requires.bounded) c.requires.t_lt_max_types (c.requires.bounded.few_members c.args.t) c.if-p-eq0.false (rw c.count.ensures.0 at c.if-p-count.true)

pub returns : goal.returns
returns c = member_past _ _ _ (rw c.count.ensures.0 at c.if-p-count.false)
