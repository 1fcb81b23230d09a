-- The searches for a child element: the sibling reached, and how many children are still to be counted.
use mathlib.Core.Path.{◌≡◌, refl, sym, ap, ◌∙◌}
use mathlib.Core.List.{List}
use mathlib.Core.Option.{Option, none, some}
use Prim.Native.Nat.{ℕ, zero, suc, ◌+◌, ◌≤◌, ◌<◌}
use native.Mathlib.Omega.{arith}
use lib.ListN.{length, get_or}
use lib.Dec.{eqb}
use borrow.Author.Tests.{eq-eqb, ne_eqb}
use Rattle.model.specs.Definitions.Basics.{pick}
use Rattle.model.specs.Definitions.Content.{Content, end, char, elem, bytes}
use Rattle.model.specs.Definitions.Inverse.{child_at, child_of_type, located, found_at, bytes_before}
use Rattle.model.proofs.Theorems.Tools.{pick_true, pick_false}
use Rattle.scanning.specs.Scanning.{ContentAt}
use Rattle.scanning.specs.Finding.{FoundContent}
use Rattle.scanning.specs.Laws.{content_within, element_first, OpensElement, opens, opens_next}

-- ---- a child by its place

-- there is no child 0
pub child_zero : (k : Content) → child_at k 0 ≡ none
unfolding child_at
child_zero end = refl
child_zero (char c r) = refl
child_zero (elem t k r) = refl

child_one : (t : ℕ) (k r : Content) (p : ℕ) → p ≡ 1 → child_at (elem t k r) p ≡ some k
unfolding child_at
child_one t k r p one = rw one

-- a later child is an earlier one of what follows
child_later : (t : ℕ) (k r : Content) (p later : ℕ) → 1 ≤ later → p ≡ later + 1 → child_at (elem t k r) p ≡ child_at r later
unfolding child_at
child_later t k r p zero more next = absurd (omega arith)
child_later t k r p (suc later) more next = let two : p ≡ suc (suc later) = omega arith in rw two

-- the bytes before it
before_one : (t : ℕ) (k r : Content) (p : ℕ) → p ≡ 1 → bytes_before (elem t k r) p ≡ 0
unfolding bytes_before
before_one t k r p one = rw one

before_later : (t : ℕ) (k r : Content) (p later : ℕ) → 1 ≤ later → p ≡ later + 1 → bytes_before (elem t k r) p ≡ 3 + length (bytes k) + bytes_before r later
unfolding bytes_before
before_later t k r p zero more next = absurd (omega arith)
before_later t k r p (suc later) more next = let two : p ≡ suc (suc later) = omega arith in rw two

-- what is there begins where it was found, and what isn't has no offset
found_there : {o : ℕ} (w : ℕ) {sought : Option Content} (k : Content) → sought ≡ some k → w ≡ o → found_at w sought ≡ some (located o k)
unfolding found_at
found_there w k e place = rw (e, place)

pub found_nowhere : (w : ℕ) {sought : Option Content} → sought ≡ none → found_at w sought ≡ none
unfolding found_at
found_nowhere w e = rw e

-- content that begins with no element has no child
child_none : {tr : List ℕ} {at : ℕ} (k : Content) → ContentAt tr at k → (get_or tr at 0 ≡ 0x30 → ⊥) → (p : ℕ) → child_at k p ≡ none
unfolding child_at
child_none end a other p = refl
child_none (char c r) a other p = refl
child_none (elem t k r) a other p = absurd (other (element_first a))

-- the content at offset `at` has, as its child number `left`, what is sought, which begins at offset w
pub record SearchReached (tr : List ℕ) (at : ℕ) (w : ℕ) (sought : Option Content) (left : ℕ) : Type 0 where
  pub content : Content
  pub there : ContentAt tr at content
  pub same : sought ≡ child_at content left
  pub place : w ≡ at + bytes_before content left + 2

module _ {tr : List ℕ} {at w : ℕ} {sought : Option Content} {left : ℕ} (now : SearchReached tr at w sought left) where
  pub reached_within : at < length tr
  reached_within = omega (arith, content_within now.there)

  pub reached_none : (get_or tr at 0 ≡ 0x30 → ⊥) → found_at w sought ≡ none
  reached_none other = found_nowhere w (now.same ∙ child_none now.content now.there other left)

  module _ (first : get_or tr at 0 ≡ 0x30) where
    abbrev o : OpensElement tr at now.content now.there.rest
    o = opens now.content now.there first

    same-opens : sought ≡ child_at (elem o.type o.inside o.next) left
    same-opens = now.same ∙ ap (λ (k : Content). child_at k left) o.is

    before-opens : w ≡ at + bytes_before (elem o.type o.inside o.next) left + 2
    before-opens = now.place ∙ ap (λ (k : Content). at + bytes_before k left + 2) o.is

    -- an element stands here, and its content begins two further
    pub reached-inside : (at + 1 < length tr) × ((k : Content) × ContentAt tr (at + 2) k)
    reached-inside = (o.two, (o.inside, o.within))

    -- it is the one that is sought
    pub reached-found : left ≡ 1 → FoundContent tr (at + 2) (found_at w sought)
    reached-found one =
        record {
          content = o.inside;
          is =
              found_there w o.inside (same-opens ∙ child_one o.type o.inside o.next left one)
              (omega (arith, before-opens, before_one o.type o.inside o.next left one));
          there = o.within;
        }

    -- or a later one is; `close` is the offset of the 32 that closes it
    module _ (close : ℕ) (skips : (k : Content) → ContentAt tr (at + 2) k → close ≡ at + 2 + length (bytes k)) where
      pub reached-close : (at < close) × (close < length tr)
      reached-close = omega (arith, skips o.inside o.within, content_within o.within)

      pub reached-next : (later : ℕ) → 1 ≤ later → left ≡ later + 1 → SearchReached tr (close + 1) w sought later
      reached-next later more next =
          let place : at + 2 + length (bytes o.inside) ≡ close = sym (skips o.inside o.within) in
          record {
            content = o.next;
            there = rw place at (opens_next o);
            same = same-opens ∙ child_later o.type o.inside o.next left later more next;
            place = omega (arith, before-opens, before_later o.type o.inside o.next left later more next, place);
          }

-- the loop's invariant: so it is for every content that begins at `from`
abbrev pub Seeks : List ℕ → ℕ → ℕ → ℕ → ℕ → Type 0
Seeks tr from p at left = (k : Content) → ContentAt tr from k → SearchReached tr at (from + bytes_before k p + 2) (child_at k p) left

-- ---- a child by its type

module _ {tr : List ℕ} {at : ℕ} (t : ℕ) where
  -- content that begins with no element has no child of a type
  pub typed_none : (k : Content) → ContentAt tr at k → (get_or tr at 0 ≡ 0x30 → ⊥) → found_at (at + 2) (child_of_type k t) ≡ none
  unfolding child_of_type found_at
  typed_none end a other = refl
  typed_none (char c r) a other = refl
  typed_none (elem u k r) a other = absurd (other (element_first a))

  module _ (k : Content) (a : ContentAt tr at k) (first : get_or tr at 0 ≡ 0x30) where
    abbrev e : OpensElement tr at k a.rest
    e = opens k a first

    typed : child_of_type k t ≡ pick (eqb t (get_or tr (at + 1) 0)) (some e.inside) none
    unfolding child_of_type
    typed = ap (λ (l : Content). child_of_type l t) e.is ∙ ap (λ (u : ℕ). pick (eqb t u) (some e.inside) none) (sym e.named)

    -- the element's type is its second byte
    pub typed-found : get_or tr (at + 1) 0 ≡ t → FoundContent tr (at + 2) (found_at (at + 2) (child_of_type k t))
    typed-found same =
        record {
          content = e.inside;
          is = found_there (at + 2) e.inside (typed ∙ pick_true _ _ _ (eq-eqb t (get_or tr (at + 1) 0) (sym same))) refl;
          there = e.within;
        }

    pub typed-other : (get_or tr (at + 1) 0 ≡ t → ⊥) → found_at (at + 2) (child_of_type k t) ≡ none
    typed-other other = found_nowhere (at + 2) (typed ∙ pick_false _ _ _ (ne_eqb t (get_or tr (at + 1) 0) (λ same. other (sym same))))
