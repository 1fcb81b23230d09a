-- `command_at` meets its contract: in each arm the byte is known, and `Commands` says which command stands there.
use mathlib.Core.Path.{refl, ap, sym}
use Rattle.model.specs.Definitions.Basics.{pick}
use Rattle.model.specs.Definitions.Commands.{takes_operand, table_command, list_type, member}
use Rattle.table_form.proofs.Commands.{bare_at, paired_at, cut_at, other_at}
use Rattle.table_form.proofs.command.command_at.Goals as goal

pub returns-in-16 : goal.returns-in-16
unfolding takes_operand table_command pick
returns-in-16 c = bare_at _ _ 0x10 c.in-16.is refl refl

pub returns-in-17 : goal.returns-in-17
unfolding takes_operand table_command pick
returns-in-17 c = bare_at _ _ 0x11 c.in-17.is refl refl

pub returns-in-18 : goal.returns-in-18
unfolding takes_operand table_command pick
returns-in-18 c = bare_at _ _ 0x12 c.in-18.is refl refl

pub returns-in-19 : goal.returns-in-19
unfolding takes_operand table_command pick
returns-in-19 c = bare_at _ _ 0x13 c.in-19.is refl refl

pub returns-in-23 : goal.returns-in-23
unfolding takes_operand table_command pick
returns-in-23 c = bare_at _ _ 0x17 c.in-23.is refl refl

pub returns-in_ok-get-in-20 : goal.returns-in_ok-get-in-20
unfolding takes_operand table_command pick
returns-in_ok-get-in-20 c = let h = c.in_ok-get-in-20.ensures.lookup in paired_at _ _ 0x14 c.in-20.is refl h.3.0 (ap list_type (sym (h.3.1 0)))

pub returns-in_err-get-in-20 : goal.returns-in_err-get-in-20
unfolding takes_operand table_command pick
returns-in_err-get-in-20 c = rw c.from_residual.ensures (cut_at _ _ 0x14 c.in-20.is refl c.in_err-get-in-20.ensures.lookup.3)

pub returns-in_ok-get-in-21 : goal.returns-in_ok-get-in-21
unfolding takes_operand table_command pick
returns-in_ok-get-in-21 c = let h = c.in_ok-get-in-21.ensures.lookup in paired_at _ _ 0x15 c.in-21.is refl h.3.0 (ap member (sym (h.3.1 0)))

pub returns-in_err-get-in-21 : goal.returns-in_err-get-in-21
unfolding takes_operand table_command pick
returns-in_err-get-in-21 c = rw c.from_residual-in_err-get-in-21.ensures (cut_at _ _ 0x15 c.in-21.is refl c.in_err-get-in-21.ensures.lookup.3)

pub returns-in-31 : goal.returns-in-31
unfolding takes_operand table_command pick
returns-in-31 c = bare_at _ _ 0x1F c.in-31.is refl refl

pub returns-in_default : goal.returns-in_default
unfolding takes_operand table_command pick
returns-in_default c = other_at _ _ c.in_default.in_default-own.rest
