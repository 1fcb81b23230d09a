-- The judgement of a tree document by the checks that need no table but its number of types, and what the judge promises.
use Rattle.std.specs.Prelude.{◌≡◌, List, ℕ, ◌+◌, Result, Ok, Err}
use Rattle.model.specs.Definitions.Content.{content_of, elements}
use Rattle.model.specs.Definitions.Table.{Table}
use Rattle.model.specs.Definitions.TreeChecks.{tree_form, tree_levels, tree_operands}
use Rattle.model.specs.Definitions.Refusals.{Judged, sound, has, too_long, bad_form, over_limit, bad_operand, fault_at, fault_unless, fits}
use Rattle.model.specs.Definitions.Entries.{judged_tree}
use Rattle.answers.specs.Answers.{fault}
use Rattle.answers.specs.declared.Fault.{Fault}

-- checks 1 to 4
unfoldable pub judged_before : ℕ → List ℕ → Judged
judged_before types bs =
    fault_unless too_long (fits bs) λ u.
    fault_at bad_form (tree_form bs) λ u.
    fault_at over_limit (tree_levels bs) λ u.
    fault_at bad_operand (tree_operands types bs) λ u.
    sound

-- The model's judgement: a document with a fault has that one, one that is sound has as many elements as were counted, the root
-- included.
abbrev pub TreeJudged : Table → List ℕ → Result ℕ Fault → Type 0
TreeJudged S bs (Ok n) = (judged_tree S bs ≡ sound) × (n ≡ 1 + elements (content_of bs))
TreeJudged S bs (Err f) = judged_tree S bs ≡ has (fault f)
