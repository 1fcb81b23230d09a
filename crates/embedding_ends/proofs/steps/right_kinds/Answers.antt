-- Kind by kind.
use mathlib.Core.Path.{◌≡◌}
use mathlib.Core.Bool.{false}
use Prim.Native.Nat.{ℕ}
use Rattle.embedding_ends.specs.Kinds.{right_by}
use Rattle.loaded_table.specs.Kinds.{unmatched_code}
use Rattle.embedding_ends.proofs.steps.right_kinds.Goals as goal

pub returns-then-left-2 : goal.returns-then-left-2
returns-then-left-2 c = unmatched_code (λ (k : ℕ). false ≡ right_by k c.args.left c.args.count) (λ code. rw c.if-left-2.true) _ c.in_default.in_default-own.rest

pub returns-else-left : goal.returns-else-left
returns-else-left c = rw (c.in-2.is, c.if-left.false)

pub returns-in-3 : goal.returns-in-3
returns-in-3 c = rw c.in-3.is

pub returns-in-4 : goal.returns-in-4
returns-in-4 c = rw c.in-4.is

pub returns-else-left-2 : goal.returns-else-left-2
returns-else-left-2 c = unmatched_code (λ (k : ℕ). c.args.left.list ≡ right_by k c.args.left c.args.count) (λ code. rw c.if-left-2.false) _ c.in_default.in_default-own.rest
