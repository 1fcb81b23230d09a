-- The test of a character agrees with the predicate.
use Rattle.std.specs.Prelude.{◌≡◌, refl, Bool, not, ◌||◌, ◌↔◌, ◌⊎◌, ℕ, leb}
use Rattle.std.proofs.Common.{subst, inl, inr, arith, leb-true, le-leb}
use Rattle.std.proofs.Math.Bool.{true, false}
use Rattle.model.specs.Definitions.Basics.{pick}
use Rattle.model.specs.Definitions.Characters.{CharacterClass, plain, entity, decimal_reference, not_allowed, Range, Ascii, Markup, Accented, Classed, as_itself, as_entity, as_reference, forbidden, between, is_ascii, is_markup, is_accented, character_class, is_not_allowed, allowed}
use Rattle.model.proofs.Theorems.Tools.{true_false, and_left, and_right, and_both, Decides, refuted, denied, either, equal}

-- ---- tests and what they decide

-- one of three
of_three : {P Q R : Type 0} (a b c : Bool) → Decides a P → Decides b Q → Decides c R → Decides (a || b || c) (P ⊎ Q ⊎ R)
of_three true b c d e f = either true (b || c) d (either b c e f)
of_three false b c d e f = either false (b || c) d (either b c e f)

-- a test of a range
in_range : (low high c : ℕ) → Decides (between low high c) (Range low high c)
unfolding between
in_range low high c = (
  λ h. (leb-true low c (and_left (leb low c) (leb c high) h), leb-true c high (and_right (leb low c) (leb c high) h)),
  λ r. and_both (le-leb low c r.0) (le-leb c high r.1),
)

-- ---- classes

-- & < and > are among 01's characters
markup_ascii : {c : ℕ} → Markup c → Ascii c
markup_ascii (inl e) = inr (inr (omega arith, omega arith))
markup_ascii (inr (inl e)) = inr (inr (omega arith, omega arith))
markup_ascii (inr (inr e)) = inr (inr (omega arith, omega arith))

-- A0 to FF are not
accented_apart : {c : ℕ} → Accented c → Ascii c → ⊥
accented_apart r (inl e) = omega arith
accented_apart r (inr (inl e)) = omega arith
accented_apart r (inr (inr s)) = omega arith

-- the class that three tests give, of markup, of 01's characters and of A0 to FF
abbrev class_by : Bool → Bool → Bool → CharacterClass
class_by markup ascii accented = pick markup entity (pick ascii plain (pick accented decimal_reference not_allowed))

module _ (c : ℕ) where
  -- the class that tests find is the value's class
  by_tests : (m a l : Bool) → Decides m (Markup c) → Decides a (Ascii c) → Decides l (Accented c) → Classed c (class_by m a l)
  unfolding pick
  by_tests true a l dm da dl = as_entity (dm.0 refl)
  by_tests false true l dm da dl = as_itself (da.0 refl) (denied dm)
  by_tests false false true dm da dl = as_reference (dl.0 refl)
  by_tests false false false dm da dl = forbidden (denied da) (denied dl)

  -- and the value's class is the one that they find
  to_tests : {κ : CharacterClass} (m a l : Bool) → Decides m (Markup c) → Decides a (Ascii c) → Decides l (Accented c) → Classed c κ → class_by m a l ≡ κ
  unfolding pick
  to_tests m a l dm da dl (as_itself h other) = rw (refuted m dm other, da.1 h)
  to_tests m a l dm da dl (as_entity h) = rw (dm.1 h)
  to_tests m a l dm da dl (as_reference h) = rw (refuted m dm (λ s. accented_apart h (markup_ascii s)), refuted a da (accented_apart h), dl.1 h)
  to_tests m a l dm da dl (forbidden h r) = rw (refuted m dm (λ s. h (markup_ascii s)), refuted a da h, refuted l dl r)

  -- the tests of the definition
  markup_test : Decides (is_markup c) (Markup c)
  unfolding is_markup
  markup_test = of_three _ _ _ (equal c 0x26) (equal c 0x3C) (equal c 0x3E)

  ascii_test : Decides (is_ascii c) (Ascii c)
  unfolding is_ascii
  ascii_test = of_three _ _ _ (equal c 0x09) (equal c 0x0A) (in_range 0x20 0x7E c)

  accented_test : Decides (is_accented c) (Accented c)
  unfolding is_accented
  accented_test = in_range 0xA0 0xFF c

  -- test and predicate, each way
  pub classed : Classed c (character_class c)
  unfolding character_class
  classed = by_tests _ _ _ markup_test ascii_test accented_test

  pub class_of : {κ : CharacterClass} → Classed c κ → character_class c ≡ κ
  unfolding character_class
  class_of h = to_tests _ _ _ markup_test ascii_test accented_test h

  pub class_exactly : (κ : CharacterClass) → (character_class c ≡ κ) ↔ Classed c κ
  class_exactly κ = (λ e. subst (Classed c) e classed, class_of)

-- ---- allowed

-- the values of a class are 01's characters or A0 to FF exactly where it isn't `not_allowed`
by_class : {c : ℕ} {κ : CharacterClass} → Classed c κ → (not (is_not_allowed κ) ≡ true) ↔ (Ascii c ⊎ Accented c)
unfolding is_not_allowed
by_class (as_itself h other) = (λ e. inl h, λ s. refl)
by_class (as_entity h) = (λ e. inl (markup_ascii h), λ s. refl)
by_class (as_reference h) = (λ e. inr h, λ s. refl)
by_class {c} (forbidden h r) = (λ e. true_false e refl, neither)
  where
    neither : Ascii c ⊎ Accented c → false ≡ true
    neither (inl s) = absurd (h s)
    neither (inr s) = absurd (r s)

-- which values are allowed
pub allowed_values : (c : ℕ) → (allowed c ≡ true) ↔ (Ascii c ⊎ Accented c)
unfolding allowed
allowed_values c = by_class (classed c)
