-- The codes of choices stand between those of sequences and lists.
use mathlib.Core.Path.{sym}
use Rattle.loaded_table.specs.Kinds.{below_choices, above_choices, choice_between}
use Rattle.loaded_table.proofs.is_choice.Goals as goal

pub returns-in-3 : goal.returns-in-3
returns-in-3 c = sym (choice_between _ c.in-3.if-kind-lt3-own.false c.in-3.if-kind-lt5-own.true)

pub returns-in_default : goal.returns-in_default
returns-in_default c = sym (below_choices _ c.in_default.if-kind-lt3-own.true)

pub returns-in_default-2 : goal.returns-in_default-2
returns-in_default-2 c = sym (above_choices _ c.in_default.if-kind-lt5-own.false)
