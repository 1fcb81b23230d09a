-- For the operand check of a tree document the verdict of what is left from an offset on, and what a loop that makes the
-- check keeps: the offset is within the document, and what is left gives the verdict of the whole.
use Rattle.std.specs.Prelude.{◌≡◌, true, List, ℕ, ◌≤◌, length}
use Rattle.model.specs.Definitions.Basics.{Verdict}
use Rattle.model.specs.Definitions.Commands.{tree_commands, tree_width}
use Rattle.model.specs.Definitions.TreeChecks.{operand_step, tree_operands}
use Rattle.checking.specs.Checks.{left_by}

-- the verdict of what is left, by a table of so many types
abbrev pub operands_left : ℕ → List ℕ → Unit {0} → ℕ → Verdict
operands_left types = left_by tree_commands tree_width (operand_step types) (λ u. true)

-- the operand check at an offset
pub record InOperands (types : ℕ) (bs : List ℕ) (at : ℕ) : Type 0 where
  pub within : at ≤ length bs
  pub whole : operands_left types bs tt at ≡ tree_operands types bs
