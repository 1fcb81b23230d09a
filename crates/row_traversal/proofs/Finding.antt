-- The loop of `element_from`: it passes over one element a turn.
use mathlib.Core.Path.{◌≡◌, subst}
use mathlib.Core.List.{List}
use Prim.Native.Nat.{ℕ, zero, suc, ◌+◌, ◌-◌, ◌≤◌, ◌<◌}
use native.Mathlib.Omega.{arith}
use lib.ListN.{length, get_or}
use Rattle.model.specs.Definitions.Content.{Content, end, char, elem, bytes}
use Rattle.scanning.specs.Scanning.{ContentAt}
use Rattle.scanning.specs.Laws.{element_first, OpensElement, opens, opens_next}
use Rattle.row_traversal.specs.Contents.{after_first, ChildThere, Behind, behind_none}

-- what follows element number n
after_next : (n : ℕ) (k : Content) {t : ℕ} {l r : Content} → after_first n k ≡ elem t l r → after_first (suc n) k ≡ r
unfolding after_first
after_next zero end e = let z : ◌≡◌ {A = ℕ} 0 1 = cc in absurd (omega arith)
after_next zero (char c r) e = let z : ◌≡◌ {A = ℕ} 0 1 = cc in absurd (omega arith)
after_next zero (elem t l r) e = cc
after_next (suc n) end e = let z : ◌≡◌ {A = ℕ} 0 1 = cc in absurd (omega arith)
after_next (suc n) (char c r) e = let z : ◌≡◌ {A = ℕ} 0 1 = cc in absurd (omega arith)
after_next (suc n) (elem t l r) e = after_next n r e

-- content that has element number i begins, behind fewer elements, with an element
opens_behind : {tr : List ℕ} {o : ℕ} (n i : ℕ) (k : Content) {t : ℕ} {l r : Content} → n ≤ i → after_first i k ≡ elem t l r → ContentAt tr o (after_first n k) → get_or tr o 0 ≡ 0x30
unfolding after_first
opens_behind {tr} {o} zero zero k less e a = element_first (subst (ContentAt tr o) e a)
opens_behind zero (suc i) end less e a = let z : ◌≡◌ {A = ℕ} 0 1 = cc in absurd (omega arith)
opens_behind zero (suc i) (char c r) less e a = let z : ◌≡◌ {A = ℕ} 0 1 = cc in absurd (omega arith)
opens_behind zero (suc i) (elem t l r) less e a = element_first a
opens_behind (suc n) zero k less e a = absurd (omega arith)
opens_behind (suc n) (suc i) end less e a = let z : ◌≡◌ {A = ℕ} 0 1 = cc in absurd (omega arith)
opens_behind (suc n) (suc i) (char c r) less e a = let z : ◌≡◌ {A = ℕ} 0 1 = cc in absurd (omega arith)
opens_behind (suc n) (suc i) (elem t l r) less e a = opens_behind n i r (omega arith) e a

-- of the elements before element number i, `left` are to be passed over, from offset o on
pub record ToPass (tr : List ℕ) (i o left : ℕ) : Type 0 where
  pub few : left ≤ i
  pub behind : Behind tr (i - left) o

-- from the start on, all of them
pub pass_all : {tr : List ℕ} {i : ℕ} → ToPass tr i 0 i
pass_all {tr} {i} = let none : i - i ≡ 0 = omega arith in record { few = omega arith; behind = rw none behind_none }

-- from an element on that was found before, those behind it
pub pass_from : {tr : List ℕ} {i seen near : ℕ} → seen ≤ i → Behind tr seen near → ToPass tr i near (i - seen)
pass_from {tr} {i} {seen} less b = let back : i - (i - seen) ≡ seen = omega arith in record { few = omega arith; behind = rw back b }

-- their number, written in another way
pub pass_more : {tr : List ℕ} {i o left now : ℕ} → left ≡ now → ToPass tr i o left → ToPass tr i o now
pass_more {tr} {i} {o} e p = subst (ToPass tr i o) e p

module _ {tr : List ℕ} {i o left : ℕ} (p : ToPass tr i o left) where
  -- all content at the start of the document has an element here
  next_opens : ChildThere tr i → (k : Content) (there : ContentAt tr 0 k) → OpensElement tr o (after_first (i - left) k) (p.behind.begins k there).rest
  next_opens c k there =
      opens (after_first (i - left) k) (p.behind.begins k there) (opens_behind (i - left) i c.around (omega arith) c.is (p.behind.begins c.around c.there))

  -- the next element, of the content that is there
  pub next_passed : (c : ChildThere tr i) → OpensElement tr o (after_first (i - left) c.around) (p.behind.begins c.around c.there).rest
  next_passed c = next_opens c c.around c.there

  -- behind it one less is to be passed over
  pub pass_on : ChildThere tr i → 0 < left → {close : ℕ} → ((k : Content) → ContentAt tr (o + 2) k → close ≡ o + 2 + length (bytes k)) → ToPass tr i (close + 1) (left - 1)
  pass_on c some {close} closes = record { few = omega (arith, p.few); behind = rw one (record { begins = next }) }
    where
      one : i - (left - 1) ≡ suc (i - left)
      one = omega (arith, p.few)

      next : (k : Content) → ContentAt tr 0 k → ContentAt tr (close + 1) (after_first (suc (i - left)) k)
      next k there = let w = next_opens c k there in rw (after_next (i - left) k w.is, closes w.inside w.within) (opens_next w)

  -- none is to be passed over
  pub pass_none : left ≤ 0 → Behind tr i o
  pass_none none = let all : i - left ≡ i = omega arith in subst (λ (n : ℕ). Behind tr n o) all p.behind
