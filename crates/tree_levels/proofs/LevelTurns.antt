-- The loop of the level check: what its machine does at each command, and what is left behind it.
use mathlib.Core.Path.{◌≡◌, refl, sym, ◌∙◌}
use mathlib.Core.Bool.{Bool, true, false}
use Rattle.std.specs.Prelude.{⊤}
use lib.Dec.{ltb}
use mathlib.Core.List.{List}
use Prim.Native.Nat.{ℕ, suc, pred, ◌+◌, ◌≤◌, ◌<◌}
use native.Mathlib.Numerals.{add-one}
use native.Mathlib.Omega.{arith}
use lib.ListN.{length}
use borrow.Author.Tests.{lt-ltb, le-ltb, ltb-true}
use Rattle.model.specs.Definitions.Basics.{pick, passes, fails, Next, goes, stops, goes_if}
use Rattle.model.specs.Definitions.Commands.{TreeCommand, opens, character, closes, tree_end, alien_t, tree_commands, tree_width}
use Rattle.model.specs.Definitions.TreeChecks.{level_step, tree_levels}
use Rattle.model.proofs.Theorems.Reading.{left_stops, left_goes, goes_within, left_ends, no_tree-commands}
use Rattle.tree_levels.specs.Levels.{InLevels}
use Rattle.tree_form.specs.Commands.{ReadsCommand}

-- the machine stops at an alien command
pub levels_alien : (n : ℕ) → level_step n alien_t ≡ stops
unfolding level_step
levels_alien n = refl

-- a command that the machine goes on from leaves the verdict to what is behind it
levels_goes : {bs : List ℕ} {at : ℕ} {c : TreeCommand} (m n : ℕ) → ReadsCommand bs at c → level_step m c ≡ goes n → n ≤ 128 → InLevels bs m at → InLevels bs n (at + tree_width c)
levels_goes m n r e low i = record {
  within = goes_within tree_commands tree_width alien_t level_step (λ n. true) levels_alien m n r e;
  low = low;
  whole = sym (left_goes tree_commands tree_width alien_t level_step (λ n. true) levels_alien m n r e) ∙ i.whole;
}

-- one that it refuses is the verdict
levels_stops : {bs : List ℕ} {at : ℕ} {c : TreeCommand} (n : ℕ) → ReadsCommand bs at c → level_step n c ≡ stops → InLevels bs n at → fails at ≡ tree_levels bs
levels_stops n r e i = sym (left_stops tree_commands tree_width alien_t level_step (λ n. true) levels_alien n r e) ∙ i.whole

-- at the beginning no element is open
pub levels_start : (bs : List ℕ) → InLevels bs 0 0
unfolding tree_levels
levels_start bs = record { within = omega arith; low = omega arith; whole = refl }

-- where no byte is left, the check passes
pub levels_end : (bs : List ℕ) (n at : ℕ) → length bs ≤ at → InLevels bs n at → passes ≡ tree_levels bs
unfolding pick
levels_end bs n at h i = sym (left_ends tree_commands tree_width alien_t level_step (λ n. true) levels_alien no_tree-commands bs n at h) ∙ i.whole

-- an element is opened
pub levels_opens : {bs : List ℕ} {t : ℕ} (n at : ℕ) → n < 128 → InLevels bs n at → ReadsCommand bs at (opens t) → InLevels bs (n + 1) (at + 2)
unfolding level_step goes_if tree_width
levels_opens n at h i r = levels_goes n (n + 1) r (rw (lt-ltb n 128 h, add-one n)) (omega arith) i

-- the 129th level is the verdict
pub levels_deep : {bs : List ℕ} {t : ℕ} (n at : ℕ) → 128 ≤ n → InLevels bs n at → ReadsCommand bs at (opens t) → fails at ≡ tree_levels bs
unfolding level_step goes_if
levels_deep n at h i r = levels_stops n r (rw (le-ltb n 128 h)) i

-- a character leaves the number of open elements as it is
pub levels_character : {bs : List ℕ} {c : ℕ} (n at : ℕ) → InLevels bs n at → ReadsCommand bs at (character c) → InLevels bs n (at + 2)
unfolding level_step tree_width
levels_character n at i r = levels_goes n n r refl i.low i

-- an element is closed, if one is open
pub levels-closed : {bs : List ℕ} (n at : ℕ) → InLevels bs n at → ReadsCommand bs at closes → InLevels bs (pred n) (at + 1)
unfolding level_step tree_width
levels-closed n at i r = levels_goes n (pred n) r refl (let low : n ≤ 128 = i.low in omega arith) i

-- 3F changes nothing
pub levels_tree_end : {bs : List ℕ} (n at : ℕ) → InLevels bs n at → ReadsCommand bs at tree_end → InLevels bs n (at + 1)
unfolding level_step tree_width
levels_tree_end n at i r = levels_goes n n r refl i.low i

-- ---- the machine alone

-- an element is opened, but no 129th level
pub opens_more : (n t : ℕ) → n < 128 → goes (n + 1) ≡ level_step n (opens t)
unfolding level_step goes_if
opens_more n t h = rw (lt-ltb n 128 h, add-one n)

pub opens_none : (n t : ℕ) → 128 ≤ n → stops ≡ level_step n (opens t)
unfolding level_step goes_if
opens_none n t h = rw (le-ltb n 128 h)

-- no command takes it above
abbrev Low : Next ℕ → Type 0
Low (goes n) = n ≤ 128
Low stops = ⊤

low_next : (n : ℕ) (c : TreeCommand) → n ≤ 128 → Low (level_step n c)
unfolding level_step goes_if
low_next n (opens t) h = go (ltb n 128) refl
  where
    go : (b : Bool) → ltb n 128 ≡ b → Low (goes_if b (suc n))
    go true e = let low : n < 128 = ltb-true n 128 e in omega arith
    go false e = tt
low_next n (character c) h = h
low_next n closes h = omega arith
low_next n tree_end h = h
low_next n alien_t h = tt

pub low_goes : (n m : ℕ) (c : TreeCommand) → n ≤ 128 → level_step n c ≡ goes m → m ≤ 128
low_goes n m c h e = rw e at (low_next n c h)
