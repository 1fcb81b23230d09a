-- `one_type` meets its contract: behind its first byte each arm asks what `type_in` asks there.
use mathlib.Core.Logic.{inl, inr}
use Rattle.type_commands.proofs.Reading.{nothing_read, alone_read, list_read, one_or_more, two_or_more, none_read}
use Rattle.type_commands.proofs.one_type.Goals as goal

pub returns-then-cs-eq0 : goal.returns-then-cs-eq0
returns-then-cs-eq0 c = nothing_read c.args.cs.now c.if-cs-eq0.true

pub returns-in-20 : goal.returns-in-20
returns-in-20 c = list_read c.args.cs.now c.in-20.is

pub returns-in-18 : goal.returns-in-18
returns-in-18 c = one_or_more c.args.cs.now c.in-18.is c.members_at_least.ensures

pub returns-in-19 : goal.returns-in-19
returns-in-19 c = two_or_more c.args.cs.now c.in-19.is c.members_at_least-in-19.ensures

pub returns-in-16 : goal.returns-in-16
returns-in-16 c = alone_read c.args.cs.now c.in-16.if-b-lt16-own.false c.in-16.if-b-lt18-own.true

pub returns-in_default : goal.returns-in_default
returns-in_default c = none_read c.args.cs.now c.in_default.in_default-own.rest (inl c.in_default.if-b-lt16-own.true)

pub returns-in_default-2 : goal.returns-in_default-2
returns-in_default-2 c = none_read c.args.cs.now c.in_default.in_default-own.rest (inr c.in_default.if-b-lt18-own.false)
