-- For the level check of a tree document the verdict of what is left from an offset on, and what a loop that makes the check
-- keeps: the offset is within the document, and what is left gives the verdict of the whole.
use Rattle.std.specs.Prelude.{◌≡◌, true, List, ℕ, ◌≤◌, length, Option, Some, None}
use Rattle.model.specs.Definitions.Basics.{Verdict, Next, goes, stops}
use Rattle.model.specs.Definitions.Commands.{tree_commands, tree_width}
use Rattle.model.specs.Definitions.TreeChecks.{level_step, tree_levels}
use Rattle.checking.specs.Checks.{left_by}
use Rattle.tree_levels.specs.declared.levels.Depth.{Depth}

-- the number of open elements, as the model's state
abbrev pub next : Option Depth → Next ℕ
next (Some s) = goes s.open
next None = stops

-- the verdict of what is left, with so many elements open
abbrev pub levels_left : List ℕ → ℕ → ℕ → Verdict
levels_left = left_by tree_commands tree_width level_step (λ n. true)

-- the level check at an offset where `depth` elements are open
pub record InLevels (bs : List ℕ) (depth at : ℕ) : Type 0 where
  pub within : at ≤ length bs
  pub low : depth ≤ 128
  pub whole : levels_left bs depth at ≡ tree_levels bs
