-- `kind_begun` meets its contract: a byte of an arm is found by the tests of `code_begun`, and any other by none.
use mathlib.Core.Path.{sym, ap}
use borrow.Author.Tests.{ne_eqb}
use Rattle.model.specs.Definitions.Basics.{pick}
use Rattle.type_commands.specs.Types.{code_begun}
use Rattle.type_commands.proofs.kind_begun.Goals as goal

pub returns-in-16 : goal.returns-in-16
unfolding code_begun pick
returns-in-16 c = sym (ap code_begun c.in-16.is)

pub returns-in-17 : goal.returns-in-17
unfolding code_begun pick
returns-in-17 c = sym (ap code_begun c.in-17.is)

pub returns-in-18 : goal.returns-in-18
unfolding code_begun pick
returns-in-18 c = sym (ap code_begun c.in-18.is)

pub returns-in-19 : goal.returns-in-19
unfolding code_begun pick
returns-in-19 c = sym (ap code_begun c.in-19.is)

pub returns-in-23 : goal.returns-in-23
unfolding code_begun pick
returns-in-23 c = sym (ap code_begun c.in-23.is)

-- a byte that no arm names
pub returns-in_default : goal.returns-in_default
unfolding code_begun pick
returns-in_default c =
    let isnt = c.in_default.in_default-own.rest in
    rw (ne_eqb _ _ isnt.0.0.0.0.1, ne_eqb _ _ isnt.0.0.0.1, ne_eqb _ _ isnt.0.0.1, ne_eqb _ _ isnt.0.1, ne_eqb _ _ isnt.1)
