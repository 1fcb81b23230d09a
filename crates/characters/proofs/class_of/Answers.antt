-- `characters::class_of` meets its contract: what each arm is told, and what each test between two arms leaves, is a line of
-- the predicate. Assumes nothing.
use mathlib.Core.Path.{sym}
use native.Mathlib.Omega.{arith}
use borrow.Author.Rules.{rules}
use Rattle.model.specs.Definitions.Characters.{as_entity}
use Rattle.model.proofs.Theorems.Characters.{class_of}
use Rattle.characters.proofs.Ranges.{from_tab, printed, accents, below_tab, below_space, below_accents}
use Rattle.characters.proofs.class_of.Goals as goal

pub returns-in-9 : goal.returns-in-9
returns-in-9 c = sym (class_of _ (from_tab c.in-9.if-c-lt9-own.false c.in-9.if-c-lt11-own.true))

pub returns-in-38 : goal.returns-in-38
returns-in-38 c = sym (class_of _ (as_entity c.in-38.is))

pub returns-in_default-c : goal.returns-in_default-c
returns-in_default-c c = sym (class_of _ (printed (omega arith) (omega arith) c.in_default-c.in_default-c-own.rest.1))

pub returns-in-160-to-255 : goal.returns-in-160-to-255
returns-in-160-to-255 c = sym (class_of _ (accents c.in-160-to-255.if-c-lt160-own.false (search rules)))

pub returns-in_default : goal.returns-in_default
returns-in_default c = sym (class_of _ (below_tab c.in_default.if-c-lt9-own.true))

pub returns-in_default-2 : goal.returns-in_default-2
returns-in_default-2 c = sym (class_of _ (below_space c.in_default.if-c-lt11-own.false c.in_default.if-c-lt32-own.true))

pub returns-in_default-3 : goal.returns-in_default-3
returns-in_default-3 c = sym (class_of _ (below_accents (omega arith) (omega arith)))
