-- The loop of the form check: what its machine does at each command, and what is left behind it.
use mathlib.Core.Path.{◌≡◌, refl, sym, ◌∙◌}
use mathlib.Core.Bool.{false}
use mathlib.Core.List.{List}
use Rattle.std.specs.Prelude.{⊤}
use Prim.Native.Nat.{ℕ, zero, suc, ◌+◌, ◌-◌, ◌≤◌, ◌<◌}
use native.Mathlib.Numerals.{add-one, sub-one}
use native.Mathlib.Omega.{arith}
use lib.ListN.{length}
use Rattle.model.specs.Definitions.Basics.{pick, passes, fails, Next, goes, stops}
use Rattle.model.specs.Definitions.Commands.{TreeCommand, opens, character, closes, tree_end, alien_t, tree_command, tree_commands, tree_width}
use Rattle.model.specs.Definitions.TreeChecks.{TreeState, no_root, inside, root_closed, tree_ended, closed, tree_step, tree_complete, tree_form}
use Rattle.model.proofs.Theorems.Reading.{raw_at, tree_reads, left_stops, left_goes, goes_within, left_ends, no_tree-commands}
use Rattle.tree_form.specs.Form.{state, form_left, Shallow, InForm, AfterEnd}
use Rattle.tree_form.specs.Commands.{ReadsCommand}
use Rattle.tree_form.specs.declared.form.TreeState.TheVariants as states
use Rattle.tree_form.specs.declared.form.TreeState as forms

-- the machine stops at an alien command
pub form_alien : (s : TreeState) → tree_step s alien_t ≡ stops
unfolding tree_step
form_alien no_root = refl
form_alien (inside n) = refl
form_alien root_closed = refl
form_alien tree_ended = refl

-- behind a close in an element that is in another
pub closed_inside : (around : ℕ) → (around ≡ 0 → ⊥) → inside (around - 1) ≡ closed around
unfolding closed
closed_inside zero h = absurd (h refl)
closed_inside (suc n) h = rw (sub-one (suc n)) refl

-- the next state, if there is one, has fewer elements around it than bytes before it
abbrev Held : ℕ → Next TreeState → Type 0
Held at (goes t) = Shallow t at
Held at stops = ⊤

shallow_closed : (around at : ℕ) → around < at → Shallow (closed around) (at + 1)
unfolding closed
shallow_closed zero at h = tt
shallow_closed (suc n) at h = omega arith

shallow_next : (s : TreeState) (c : TreeCommand) (at : ℕ) → Shallow s at → Held (at + tree_width c) (tree_step s c)
unfolding tree_step tree_width
shallow_next no_root (opens t) at h = omega arith
shallow_next no_root (character c) at h = tt
shallow_next no_root closes at h = tt
shallow_next no_root tree_end at h = tt
shallow_next no_root alien_t at h = tt
shallow_next (inside n) (opens t) at h = omega arith
shallow_next (inside n) (character c) at h = omega arith
shallow_next (inside n) closes at h = shallow_closed n at h
shallow_next (inside n) tree_end at h = tt
shallow_next (inside n) alien_t at h = tt
shallow_next root_closed (opens t) at h = tt
shallow_next root_closed (character c) at h = tt
shallow_next root_closed closes at h = tt
shallow_next root_closed tree_end at h = tt
shallow_next root_closed alien_t at h = tt
shallow_next tree_ended (opens t) at h = tt
shallow_next tree_ended (character c) at h = tt
shallow_next tree_ended closes at h = tt
shallow_next tree_ended tree_end at h = tt
shallow_next tree_ended alien_t at h = tt

pub shallow_goes : (s t : TreeState) (c : TreeCommand) (at : ℕ) → Shallow s at → tree_step s c ≡ goes t → Shallow t (at + tree_width c)
shallow_goes s t c at h e = rw e at (shallow_next s c at h)

-- a command that the form's machine refuses is the verdict
pub form_stops : {bs : List ℕ} {at : ℕ} {c : TreeCommand} (s : TreeState) → ReadsCommand bs at c → tree_step s c ≡ stops → form_left bs s at ≡ tree_form bs → fails at ≡ tree_form bs
form_stops {bs} {at} s r e w = sym (left_stops tree_commands tree_width alien_t tree_step tree_complete form_alien s r e) ∙ w

-- one that it goes on from leaves the verdict to what is behind it
form_goes : {bs : List ℕ} {at : ℕ} {c : TreeCommand} (s n : TreeState) → ReadsCommand bs at c → tree_step s c ≡ goes n → form_left bs s at ≡ tree_form bs → form_left bs n (at + tree_width c) ≡ tree_form bs
form_goes s n r e w = sym (left_goes tree_commands tree_width alien_t tree_step tree_complete form_alien s n r e) ∙ w

-- and stays within the document
form_within : {bs : List ℕ} {at : ℕ} {c : TreeCommand} (s n : TreeState) → ReadsCommand bs at c → tree_step s c ≡ goes n → at + tree_width c ≤ length bs
form_within s n r e = goes_within tree_commands tree_width alien_t tree_step tree_complete form_alien s n r e

-- where no byte is left, the state decides
form_ends : (bs : List ℕ) (s : TreeState) (at : ℕ) → length bs ≤ at → form_left bs s at ≡ pick (tree_complete s) passes (fails at)
form_ends bs s at h = left_ends tree_commands tree_width alien_t tree_step tree_complete form_alien no_tree-commands bs s at h

-- where no byte is left, only the end of the document may have come
pub form_short : (bs : List ℕ) (depth at : ℕ) → length bs ≤ at → InForm bs depth at → fails at ≡ tree_form bs
unfolding tree_complete pick closed
form_short bs zero at h i = sym (form_ends bs root_closed at h) ∙ i.whole
form_short bs (suc n) at h i = sym (form_ends bs (inside n) at h) ∙ i.whole

-- an empty document is refused at 0
pub form_empty : (bs : List ℕ) → length bs ≡ 0 → fails 0 ≡ tree_form bs
unfolding tree_form tree_complete pick
form_empty bs h = sym (form_ends bs no_root 0 (omega arith))

-- the machine stops at a first command that opens no element
pub form_first_stops : {bs : List ℕ} {c : TreeCommand} → ReadsCommand bs 0 c → tree_step no_root c ≡ stops → fails 0 ≡ tree_form bs
unfolding tree_form
form_first_stops r e = form_stops no_root r e refl

-- after the root element was opened
pub form_first : {bs : List ℕ} {t : ℕ} → ReadsCommand bs 0 (opens t) → InForm bs 1 2
unfolding tree_step tree_width tree_form closed
form_first r = record {
  within = form_within no_root (inside 0) r refl;
  deep = omega arith;
  whole = form_goes no_root (inside 0) r refl refl;
}

-- an element is opened in an element
pub form_opens : {bs : List ℕ} {t : ℕ} (depth at : ℕ) → 0 < depth → InForm bs depth at → ReadsCommand bs at (opens t) → InForm bs (depth + 1) (at + 2)
unfolding tree_step tree_width closed
form_opens zero at h i r = absurd (omega arith)
form_opens {bs} (suc n) at h i r =
    record {
      within = form_within (inside n) (inside (suc n)) r refl;
      deep = omega (arith, i.deep);
      whole = rw (add-one (suc n)) (form_goes (inside n) (inside (suc n)) r refl i.whole);
    }

-- a character leaves the state as it is
pub form_character : {bs : List ℕ} {c : ℕ} (depth at : ℕ) → 0 < depth → InForm bs depth at → ReadsCommand bs at (character c) → InForm bs depth (at + 2)
unfolding tree_step tree_width closed
form_character zero at h i r = absurd (omega arith)
form_character {bs} (suc n) at h i r =
    record {
      within = form_within (inside n) (inside n) r refl;
      deep = omega (arith, i.deep);
      whole = form_goes (inside n) (inside n) r refl i.whole;
    }

-- a close leaves one open element less
pub form_closes : {bs : List ℕ} (depth at : ℕ) → 0 < depth → InForm bs depth at → ReadsCommand bs at closes → InForm bs (depth - 1) (at + 1)
unfolding tree_step tree_width closed
form_closes zero at h i r = absurd (omega arith)
form_closes {bs} (suc n) at h i r =
    record {
      within = form_within (inside n) (closed n) r refl;
      deep = omega (arith, i.deep);
      whole = rw (sub-one (suc n)) (form_goes (inside n) (closed n) r refl i.whole);
    }

-- 3F may not stand in an element
pub form_end_inside : {bs : List ℕ} (depth at : ℕ) → 0 < depth → InForm bs depth at → ReadsCommand bs at tree_end → fails at ≡ tree_form bs
unfolding tree_step closed
form_end_inside zero at h i r = absurd (omega arith)
form_end_inside (suc n) at h i r = form_stops (inside n) r refl i.whole

-- an alien command is refused in every state
pub form_alien_inside : {bs : List ℕ} (depth at : ℕ) → InForm bs depth at → ReadsCommand bs at alien_t → fails at ≡ tree_form bs
form_alien_inside depth at i r = form_stops (closed depth) r (form_alien (closed depth)) i.whole

-- only 3F may stand behind the root
pub form_root_stops : {bs : List ℕ} {c : TreeCommand} (at : ℕ) → InForm bs 0 at → ReadsCommand bs at c → tree_step root_closed c ≡ stops → fails at ≡ tree_form bs
unfolding closed
form_root_stops at i r e = form_stops root_closed r e i.whole

-- behind that, the document has ended
pub form_root_end : {bs : List ℕ} (at : ℕ) → InForm bs 0 at → ReadsCommand bs at tree_end → AfterEnd bs (at + 1)
unfolding tree_step tree_width closed
form_root_end at i r = record {
  within = form_within root_closed tree_ended r refl;
  whole = form_goes root_closed tree_ended r refl i.whole;
}

-- where nothing stands behind 3F, the form is right
pub form_ended : (bs : List ℕ) (at : ℕ) → length bs ≤ at → AfterEnd bs at → passes ≡ tree_form bs
unfolding tree_complete pick
form_ended bs at h i = sym (form_ends bs tree_ended at h) ∙ i.whole

-- every command is refused there
pub ended_stops : (c : TreeCommand) → tree_step tree_ended c ≡ stops
unfolding tree_step
ended_stops (opens t) = refl
ended_stops (character c) = refl
ended_stops closes = refl
ended_stops tree_end = refl
ended_stops alien_t = refl

-- so a byte behind 3F is the verdict
pub form_more : (bs : List ℕ) (at : ℕ) → at < length bs → AfterEnd bs at → fails at ≡ tree_form bs
form_more bs at h i = form_stops tree_ended (tree_reads bs at h) (ended_stops (tree_command (raw_at bs at))) i.whole

-- a document may end in no other state than the last
pub not_ended : (s : forms.TreeState) → (s ≡ states.Ended → ⊥) → tree_complete (state s) ≡ false
unfolding tree_complete
not_ended states.NoRoot h = refl
not_ended (states.Inside n) h = refl
not_ended states.RootClosed h = refl
not_ended states.Ended h = absurd (h refl)
