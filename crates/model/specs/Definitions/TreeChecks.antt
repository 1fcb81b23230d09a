-- 01 "Refusal answers": the checks of a tree document, 2, 3, 4 and 11 (1 is the same for all documents).
use Rattle.std.specs.Prelude.{Bool, true, false, List, [], ◌∷◌, ℕ, zero, suc, ◌+◌, pred, take, ltb}
use Rattle.model.specs.Definitions.Basics.{Verdict, Next, goes, stops, goes_if, run}
use Rattle.model.specs.Definitions.Commands.{TreeCommand, opens, character, closes, tree_end, alien_t, tree_commands, tree_width}
use Rattle.model.specs.Definitions.Table.{Kind, sequence, Table, kind_of, is_text}
use Rattle.model.specs.Definitions.Characters.{allowed}
use Rattle.model.specs.Definitions.Conformance.{admits, after, complete, Begins}

-- ---- 2, form: one root element and then 3F; a character may stand in any element here

-- before the root; in an element with so many around it; after the root; after 3F
pub data TreeState : Type 0 where
  no_root : TreeState
  inside : ℕ → TreeState
  root_closed : TreeState
  tree_ended : TreeState

unfoldable pub closed : ℕ → TreeState
closed zero = root_closed
closed (suc around) = inside around

unfoldable pub tree_step : TreeState → TreeCommand → Next TreeState
tree_step no_root (opens t) = goes (inside 0)
tree_step no_root (character c) = stops
tree_step no_root closes = stops
tree_step no_root tree_end = stops
tree_step no_root alien_t = stops
tree_step (inside around) (opens t) = goes (inside (suc around))
tree_step (inside around) (character c) = goes (inside around)
tree_step (inside around) closes = goes (closed around)
tree_step (inside around) tree_end = stops
tree_step (inside around) alien_t = stops
tree_step root_closed (opens t) = stops
tree_step root_closed (character c) = stops
tree_step root_closed closes = stops
tree_step root_closed tree_end = goes tree_ended
tree_step root_closed alien_t = stops
tree_step tree_ended (opens t) = stops
tree_step tree_ended (character c) = stops
tree_step tree_ended closes = stops
tree_step tree_ended tree_end = stops
tree_step tree_ended alien_t = stops

unfoldable pub tree_complete : TreeState → Bool
tree_complete no_root = false
tree_complete (inside around) = false
tree_complete root_closed = false
tree_complete tree_ended = true

unfoldable pub tree_form : List ℕ → Verdict
tree_form bs = run tree_width tree_step tree_complete no_root 0 (tree_commands bs)

-- ---- 3, levels

abbrev pub max_levels : ℕ
max_levels = 128

unfoldable pub level_step : ℕ → TreeCommand → Next ℕ
level_step n (opens t) = goes_if (ltb n max_levels) (suc n)
level_step n (character c) = goes n
level_step n closes = goes (pred n)
level_step n tree_end = goes n
level_step n alien_t = stops

-- the 129th level
unfoldable pub tree_levels : List ℕ → Verdict
tree_levels bs = run tree_width level_step (λ n. true) 0 0 (tree_commands bs)

-- ---- 4, operands

unfoldable pub operand_step : ℕ → Unit {0} → TreeCommand → Next (Unit {0})
operand_step types u (opens t) = goes_if (ltb t types) u
operand_step types u (character c) = goes_if (allowed c) u
operand_step types u closes = goes u
operand_step types u tree_end = goes u
operand_step types u alien_t = stops

-- an element of no such type, in a table of so many types; a character that is not allowed
unfoldable pub tree_operands : ℕ → List ℕ → Verdict
tree_operands types bs = run tree_width (operand_step types) (λ u. true) tt 0 (tree_commands bs)

-- ---- 11, the first command that no conforming document has after the same beginning

-- The state is what may still follow in each open element, the innermost first, and last in the document itself, which
-- is to hold one element of type 0. In an accepted table every type has a finite instance, so whatever may still
-- follow can be completed.
unfoldable pub expect_step : Table → List Kind → TreeCommand → Next (List Kind)
expect_step S [] (opens t) = goes []
expect_step S [] (character c) = goes []
expect_step S [] closes = goes []
expect_step S [] tree_end = goes []
expect_step S [] alien_t = stops
expect_step S (κ ∷ around) (opens t) = goes_if (admits κ t) (kind_of S t ∷ after κ ∷ around)
expect_step S (κ ∷ around) (character c) = goes_if (is_text κ) (κ ∷ around)
expect_step S (κ ∷ around) closes = goes_if (complete κ) around
expect_step S (κ ∷ around) tree_end = goes around
expect_step S (κ ∷ around) alien_t = stops

unfoldable pub tree_expected : Table → List ℕ → Verdict
tree_expected S bs = run tree_width (expect_step S) (λ s. true) (sequence (0 ∷ []) ∷ []) 0 (tree_commands bs)

-- The same by what exists: some conforming document begins with the bytes before the offset `at`, and none with those
-- up to and including the command that stands there, whose bytes are `width` many. That check 11 marks exactly
-- this place is a theorem.
unfoldable pub FirstUnexpected : Table → List ℕ → ℕ → ℕ → Type 0
FirstUnexpected S bs at width = Begins S (take at bs) × (Begins S (take (at + width) bs) → ⊥)
