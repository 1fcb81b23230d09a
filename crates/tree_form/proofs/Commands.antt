-- The command at an offset, by the byte that stands there, and what a loop knows of the command that it read.
use mathlib.Core.Path.{◌≡◌, refl, sym, ap, ◌∙◌, subst}
use mathlib.Core.Bool.{Bool, true, false}
use mathlib.Core.List.{List}
use Prim.Native.Nat.{ℕ, suc, ◌+◌, ◌≤◌, ◌<◌}
use native.Mathlib.Numerals.{add-one}
use lib.ListN.{length, get_or}
use lib.Dec.{ltb}
use borrow.Author.Tests.{lt-ltb, le-ltb, ne_eqb}
use Rattle.model.specs.Definitions.Basics.{pick}
use Rattle.model.specs.Definitions.Commands.{opens, character, closes, tree_end, alien_t, tree_command, takes_operand}
use Rattle.model.proofs.Theorems.Reading.{raw_with, raw_at, tree_reads}
use Rattle.tree_form.specs.declared.command.TreeCommand.{TreeCommand}
use Rattle.tree_form.specs.Commands.{command, ReadsCommand}
use Rattle.model.specs.Definitions.Commands as model

-- a byte that begins no command of a tree, with an operand or without
alien_with : (o m : Bool) (b t : ℕ) → (b ≡ 0x30 → ⊥) → (b ≡ 0x31 → ⊥) → (b ≡ 0x32 → ⊥) → (b ≡ 0x3F → ⊥) → alien_t ≡ tree_command (raw_with o m b t)
unfolding raw_with tree_command pick
alien_with false m b t p q r s = rw (ne_eqb b 0x32 r, ne_eqb b 0x3F s)
alien_with true true b t p q r s = rw (ne_eqb b 0x30 p, ne_eqb b 0x31 q)
alien_with true false b t p q r s = refl

module _ (bs : List ℕ) (at : ℕ) where
  -- 30 with a byte behind it opens an element of that type
  pub opens_at : get_or bs at 0 ≡ 0x30 → at + 1 < length bs → opens (get_or bs (at + 1) 0) ≡ tree_command (raw_at bs at)
  unfolding raw_at raw_with takes_operand tree_command pick
  opens_at e more = rw (e, ← add-one at, lt-ltb (at + 1) (length bs) more)

  -- 31 with a byte behind it is that character
  pub character_at : get_or bs at 0 ≡ 0x31 → at + 1 < length bs → character (get_or bs (at + 1) 0) ≡ tree_command (raw_at bs at)
  unfolding raw_at raw_with takes_operand tree_command pick
  character_at e more = rw (e, ← add-one at, lt-ltb (at + 1) (length bs) more)

  -- a 30 at the end is alien
  pub open_cut : get_or bs at 0 ≡ 0x30 → length bs ≤ at + 1 → alien_t ≡ tree_command (raw_at bs at)
  unfolding raw_at raw_with takes_operand tree_command
  open_cut e none = rw (e, ← add-one at, le-ltb (at + 1) (length bs) none)

  -- a 31 at the end is alien too
  pub character_cut : get_or bs at 0 ≡ 0x31 → length bs ≤ at + 1 → alien_t ≡ tree_command (raw_at bs at)
  unfolding raw_at raw_with takes_operand tree_command
  character_cut e none = rw (e, ← add-one at, le-ltb (at + 1) (length bs) none)

  -- 32 closes an element
  pub closes_at : get_or bs at 0 ≡ 0x32 → closes ≡ tree_command (raw_at bs at)
  unfolding raw_at raw_with takes_operand tree_command pick
  closes_at e = rw e

  -- 3F ends the document
  pub end_at : get_or bs at 0 ≡ 0x3F → tree_end ≡ tree_command (raw_at bs at)
  unfolding raw_at raw_with takes_operand tree_command pick
  end_at e = rw e

  -- any other byte is alien
  pub alien_at : (get_or bs at 0 ≡ 0x30 → ⊥) → (get_or bs at 0 ≡ 0x31 → ⊥) → (get_or bs at 0 ≡ 0x32 → ⊥) → (get_or bs at 0 ≡ 0x3F → ⊥) → alien_t ≡ tree_command (raw_at bs at)
  unfolding raw_at
  alien_at p q r s = alien_with (takes_operand (get_or bs at 0)) (ltb (suc at) (length bs)) (get_or bs at 0) (get_or bs (suc at) 0) p q r s

-- a command that was read stands where it was read
pub met : (bs : List ℕ) (at : ℕ) {r d : TreeCommand} → at < length bs → command r ≡ tree_command (raw_at bs at) → r ≡ d → ReadsCommand bs at (command d)
met bs at h e q = subst (λ (c : model.TreeCommand). ReadsCommand bs at c) (sym e ∙ ap command q) (tree_reads bs at h)
