-- `member_more` meets its contract: each arm knows the test of the model.
use native.Mathlib.Numerals.{add-one}
use borrow.Author.Tests.{lt-ltb, le-ltb}
use Rattle.model.specs.Definitions.Basics.{goes_if}
use Rattle.table_limits.specs.Limits.{one_member_more}
use Rattle.table_limits.proofs.limits.Counts.member_more.Goals as goal

pub returns-then-members-lt-MAX_MEMBERS : goal.returns-then-members-lt-MAX_MEMBERS
unfolding one_member_more goes_if
returns-then-members-lt-MAX_MEMBERS c = rw (lt-ltb _ 16 c.if-members-lt-MAX_MEMBERS.true, add-one)

pub returns-else-members-lt-MAX_MEMBERS : goal.returns-else-members-lt-MAX_MEMBERS
unfolding one_member_more goes_if
returns-else-members-lt-MAX_MEMBERS c = rw (le-ltb _ 16 c.if-members-lt-MAX_MEMBERS.false)
