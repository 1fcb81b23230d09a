-- The kinds that the steps of a path leave, as the code collects them.
use Rattle.std.specs.Prelude.{◌≡◌, Bool, true, not, ◌&&◌, List, ℕ, zero, suc, ltb}
use Rattle.embedding_ends.specs.declared.steps.Left.{Left}
use Rattle.model.specs.Definitions.Basics.{pick, some_of}
use Rattle.model.specs.Definitions.Table.{Table, is_choice, is_list}
use Rattle.model.specs.Definitions.Embedding.{leaves}
use Rattle.model.specs.Definitions.EmbeddingChecks.{optional_first}

-- one step more, which leaves a type of a kind with this code
abbrev pub with_kind : Left → ℕ → Left
with_kind left zero = left
with_kind left (suc zero) = left
with_kind left (suc (suc zero)) = left
with_kind left (suc (suc (suc zero))) = record { choice = true; optional = left.optional; list = left.list }
with_kind left (suc (suc (suc (suc zero)))) = record { choice = true; optional = pick left.choice left.optional true; list = left.list }
with_kind left (suc (suc (suc (suc (suc code))))) = record { choice = left.choice; optional = left.optional; list = true }

-- whether a path of `count` steps that leaves these kinds is right for a source type of a kind with this code
abbrev pub right_by : ℕ → Left → ℕ → Bool
right_by zero left count = not left.choice
right_by (suc zero) left count = true
right_by (suc (suc zero)) left count = not left.choice && ltb 0 count
right_by (suc (suc (suc zero))) left count = left.choice
right_by (suc (suc (suc (suc zero)))) left count = left.optional
right_by (suc (suc (suc (suc (suc code))))) left count = not left.choice && left.list

-- the kinds that a path leaves
pub record LeftAll (left : Left) (T : Table) (from : ℕ) (steps : List ℕ) : Type 0 where
  pub choices : left.choice ≡ some_of is_choice (leaves T from steps)
  pub optionals : left.optional ≡ optional_first (leaves T from steps)
  pub lists : left.list ≡ some_of is_list (leaves T from steps)
