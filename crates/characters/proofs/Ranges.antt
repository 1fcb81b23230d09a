-- The ranges into which the code divides the bytes, and their classes.
use mathlib.Core.Path.{◌≡◌, refl}
use mathlib.Core.Bool.{Bool, true, false}
use mathlib.Core.Logic.{inl, inr}
use Prim.Native.Nat.{ℕ, ◌≤◌, ◌<◌}
use native.Mathlib.Omega.{arith}
use lib.Dec.{eqb}
use borrow.Author.Tests.{eqb-true, eqb-false}
use Rattle.model.specs.Definitions.Characters.{plain, decimal_reference, not_allowed, Range, Ascii, Markup, Classed, as_itself, as_reference, forbidden}

-- tab and line feed
pub from_tab : {c : ℕ} → 0x09 ≤ c → c < 0x0B → Classed c plain
from_tab {c} low high = as_itself (go (eqb c 0x09) refl) other
  where
    go : (b : Bool) → eqb c 0x09 ≡ b → Ascii c
    go true e = inl (eqb-true c 0x09 e)
    go false e = inr (inl (after (eqb-false c 0x09 e)))
      where
        after : (c ≡ 0x09 → ⊥) → c ≡ 0x0A
        after unequal = omega arith

    other : Markup c → ⊥
    other (inl e) = omega arith
    other (inr (inl e)) = omega arith
    other (inr (inr e)) = omega arith

-- 20 to 7E, the entities aside
pub printed : {c : ℕ} → 0x20 ≤ c → c < 0x7F → (Markup c → ⊥) → Classed c plain
printed low high other = as_itself (inr (inr (low, omega arith))) other

-- A0 to FF
pub accents : {c : ℕ} → 0xA0 ≤ c → c < 0x100 → Classed c decimal_reference
accents low high = as_reference (low, omega arith)

-- what 01's characters leave: a value that is none of them
none_of : {c : ℕ} → (c ≡ 0x09 → ⊥) → (c ≡ 0x0A → ⊥) → (Range 0x20 0x7E c → ⊥) → Ascii c → ⊥
none_of tab feed printed (inl e) = tab e
none_of tab feed printed (inr (inl e)) = feed e
none_of tab feed printed (inr (inr r)) = printed r

-- the three gaps below A0
pub below_tab : {c : ℕ} → c < 0x09 → Classed c not_allowed
below_tab h = forbidden (none_of (λ e. omega arith) (λ e. omega arith) (λ r. omega arith)) (λ r. omega arith)

pub below_space : {c : ℕ} → 0x0B ≤ c → c < 0x20 → Classed c not_allowed
below_space low high = forbidden (none_of (λ e. omega arith) (λ e. omega arith) (λ r. omega arith)) (λ r. omega arith)

pub below_accents : {c : ℕ} → 0x7F ≤ c → c < 0xA0 → Classed c not_allowed
below_accents low high = forbidden (none_of (λ e. omega arith) (λ e. omega arith) (λ r. omega arith)) (λ r. omega arith)
