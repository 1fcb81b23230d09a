-- `step_from` meets its contract: each arm knows the range of the kind's code.
use mathlib.Core.Path.{◌∙◌}
use native.Mathlib.Omega.{arith}
use Rattle.embedding_operands.proofs.Steps.{nowhere, row_to, list-to, list-nowhere}
use Rattle.embedding_operands.proofs.step.step_from.Goals as goal

pub kind-kind-requires : goal.kind-kind-requires
kind-kind-requires c = omega (arith, c.requires.t_bound, c.requires.bounded.few_types)

pub member_at-requires : goal.member_at-requires
member_at-requires c = record { bounded = c.requires.bounded; t_lt_max_types = omega (arith, c.requires.t_bound, c.requires.bounded.few_types) }

pub member-requires : goal.member-requires
member-requires c = (omega (arith, c.requires.t_bound, c.requires.bounded.few_types), omega arith)

pub returns-in-0 : goal.returns-in-0
returns-in-0 c = nowhere c.args.table.now _ c.requires.t_bound c.kind-kind.ensures.0 _ c.in-0.is

pub returns-in-2 : goal.returns-in-2
returns-in-2 c =
    c.member_at.ensures ∙ row_to c.args.table.now _ c.requires.t_bound c.kind-kind.ensures.0 _ c.in-2.if-kind-lt2-own.false c.in-2.if-kind-lt5-own.true

pub returns-then-p-eq1 : goal.returns-then-p-eq1
returns-then-p-eq1 c =
    list-to c.args.table.now _ c.requires.t_bound c.kind-kind.ensures.0 c.in_default.if-kind-lt5-own.false _ c.member.ensures.0 c.if-p-eq1.true

pub returns-else-p-eq1 : goal.returns-else-p-eq1
returns-else-p-eq1 c =
    list-nowhere c.args.table.now _ c.requires.t_bound c.kind-kind.ensures.0 c.in_default.if-kind-lt5-own.false _ c.if-p-eq1.false
