-- The loop of the operand check: what its machine does at each command, and what is left behind it.
use mathlib.Core.Path.{◌≡◌, refl, sym, ◌∙◌}
use mathlib.Core.Bool.{true, false}
use mathlib.Core.List.{List}
use Prim.Native.Nat.{ℕ, ◌+◌, ◌≤◌, ◌<◌}
use native.Mathlib.Omega.{arith}
use lib.ListN.{length}
use borrow.Author.Tests.{lt-ltb, le-ltb}
use Rattle.model.specs.Definitions.Basics.{pick, passes, fails, goes, stops, goes_if}
use Rattle.model.specs.Definitions.Commands.{TreeCommand, opens, character, closes, tree_end, alien_t, tree_commands, tree_width}
use Rattle.model.specs.Definitions.Characters.{allowed}
use Rattle.model.specs.Definitions.TreeChecks.{operand_step, tree_operands}
use Rattle.model.proofs.Theorems.Reading.{left_stops, left_goes, goes_within, left_ends, no_tree-commands}
use Rattle.tree_operands.specs.Operands.{InOperands}
use Rattle.tree_form.specs.Commands.{ReadsCommand}

module _ (types : ℕ) where
  -- the machine stops at an alien command
  pub operands_alien : (u : Unit {0}) → operand_step types u alien_t ≡ stops
  unfolding operand_step
  operands_alien u = refl

  -- a command that the machine goes on from leaves the verdict to what is behind it
  operands_goes : {bs : List ℕ} {at : ℕ} {c : TreeCommand} → ReadsCommand bs at c → operand_step types tt c ≡ goes tt → InOperands types bs at → InOperands types bs (at + tree_width c)
  operands_goes r e i = record {
    within = goes_within tree_commands tree_width alien_t (operand_step types) (λ u. true) operands_alien tt tt r e;
    whole = sym (left_goes tree_commands tree_width alien_t (operand_step types) (λ u. true) operands_alien tt tt r e) ∙ i.whole;
  }

  -- one that it refuses is the verdict
  operands_stops : {bs : List ℕ} {at : ℕ} {c : TreeCommand} → ReadsCommand bs at c → operand_step types tt c ≡ stops → InOperands types bs at → fails at ≡ tree_operands types bs
  operands_stops r e i = sym (left_stops tree_commands tree_width alien_t (operand_step types) (λ u. true) operands_alien tt r e) ∙ i.whole

  -- at the beginning all is left
  pub operands_start : (bs : List ℕ) → InOperands types bs 0
  unfolding tree_operands
  operands_start bs = record { within = omega arith; whole = refl }

  -- where no byte is left, the check passes
  pub operands_end : (bs : List ℕ) (at : ℕ) → length bs ≤ at → InOperands types bs at → passes ≡ tree_operands types bs
  unfolding pick
  operands_end bs at h i = sym (left_ends tree_commands tree_width alien_t (operand_step types) (λ u. true) operands_alien no_tree-commands bs tt at h) ∙ i.whole

  -- an element of a type that exists
  pub operands_opens : {bs : List ℕ} {t : ℕ} (at : ℕ) → t < types → InOperands types bs at → ReadsCommand bs at (opens t) → InOperands types bs (at + 2)
  unfolding operand_step goes_if tree_width
  operands_opens {t = t} at h i r = operands_goes r (rw (lt-ltb t types h)) i

  -- one of a type that does not exist is the verdict
  pub operands_no_type : {bs : List ℕ} {t : ℕ} (at : ℕ) → types ≤ t → InOperands types bs at → ReadsCommand bs at (opens t) → fails at ≡ tree_operands types bs
  unfolding operand_step goes_if
  operands_no_type {t = t} at h i r = operands_stops r (rw (le-ltb t types h)) i

  -- a character that is allowed
  pub operands_character : {bs : List ℕ} {c : ℕ} (at : ℕ) → allowed c ≡ true → InOperands types bs at → ReadsCommand bs at (character c) → InOperands types bs (at + 2)
  unfolding operand_step goes_if tree_width
  operands_character at h i r = operands_goes r (rw h) i

  -- one that is not allowed is the verdict
  pub operands_not_allowed : {bs : List ℕ} {c : ℕ} (at : ℕ) → allowed c ≡ false → InOperands types bs at → ReadsCommand bs at (character c) → fails at ≡ tree_operands types bs
  unfolding operand_step goes_if
  operands_not_allowed at h i r = operands_stops r (rw h) i

  -- a close has no operand
  pub operands_closes : {bs : List ℕ} (at : ℕ) → InOperands types bs at → ReadsCommand bs at closes → InOperands types bs (at + 1)
  unfolding operand_step tree_width
  operands_closes at i r = operands_goes r refl i

  -- nor has 3F
  pub operands_tree_end : {bs : List ℕ} (at : ℕ) → InOperands types bs at → ReadsCommand bs at tree_end → InOperands types bs (at + 1)
  unfolding operand_step tree_width
  operands_tree_end at i r = operands_goes r refl i
