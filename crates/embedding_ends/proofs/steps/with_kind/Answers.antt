-- Kind by kind.
use mathlib.Core.Path.{◌≡◌, refl}
use mathlib.Core.Bool.{true}
use Rattle.embedding_ends.specs.declared.steps.Left.{Left}
use Prim.Native.Nat.{ℕ}
use Rattle.embedding_ends.specs.Kinds.{with_kind}
use Rattle.loaded_table.specs.Kinds.{unmatched_code}
use Rattle.embedding_ends.proofs.steps.with_kind.Goals as goal

pub optional_first-requires : goal.optional_first-requires
optional_first-requires c = tt

pub returns-in-3 : goal.returns-in-3
returns-in-3 c = rw c.in-3.is

pub returns-in-4 : goal.returns-in-4
returns-in-4 c = rw (c.optional_first.ensures, c.in-4.is)

pub returns-in_default : goal.returns-in_default
returns-in_default c = unmatched_code (λ (k : ℕ). ◌≡◌ {A = Left} (record { choice = c.args.left.choice; optional = c.args.left.optional; list = true }) (with_kind c.args.left k)) (λ code. refl) _ c.in_default.in_default-own.rest
