-- `type_more` meets its contract: each arm knows the test of the model.
use native.Mathlib.Numerals.{add-one}
use borrow.Author.Tests.{lt-ltb, le-ltb}
use Rattle.model.specs.Definitions.Basics.{goes_if}
use Rattle.model.specs.Definitions.TableChecks.{one_type_more}
use Rattle.table_limits.proofs.limits.Counts.type_more.Goals as goal

pub returns-then-types-lt-MAX_TYPES : goal.returns-then-types-lt-MAX_TYPES
unfolding one_type_more goes_if
returns-then-types-lt-MAX_TYPES c = rw (lt-ltb _ 64 c.if-types-lt-MAX_TYPES.true, add-one)

pub returns-else-types-lt-MAX_TYPES : goal.returns-else-types-lt-MAX_TYPES
unfolding one_type_more goes_if
returns-else-types-lt-MAX_TYPES c = rw (le-ltb _ 64 c.if-types-lt-MAX_TYPES.false)
