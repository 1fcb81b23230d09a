-- The loop over an element's content: the size so far and what is left make up the whole.
use mathlib.Core.Path.{◌≡◌, refl, sym, ap, ◌∙◌}
use mathlib.Core.List.{List}
use Prim.Native.Nat.{ℕ, suc, ◌+◌, min, max}
use native.Mathlib.Omega.{arith}
use lib.ListN.{length, get_or}
use Rattle.model.specs.Definitions.Table.{kind_of}
use Rattle.model.specs.Definitions.Content.{Content, end, char, elem, bytes}
use Rattle.model.specs.Definitions.Embedding.{paths_of}
use Rattle.model.specs.Definitions.Image.{Setting}
use Rattle.model.specs.Definitions.Templates.{first_in, around, depth_of, own_length, own_filler, own_levels, item_length, item_filler, item_levels, sum_length, sum_filler, deepest}
use Rattle.scanning.specs.Laws.{OpensElement}
use Rattle.measuring.specs.Measured.{Held, Measured}
use Rattle.measuring.proofs.Content.{Unread, unread_done, lettered, unread-letter, opened, unread-next}

-- ---- held numbers

held_character : (n r : ℕ) → min 60001 (min 60001 (n + 2) + r) ≡ min 60001 (n + (2 + r))
held_character n r = omega arith

pub held_child : (n a m r : ℕ) → min 60001 (min 60001 (n + min 60001 a + min 60001 m) + r) ≡ min 60001 (n + (a + m + r))
held_child n a m r = omega arith

held_larger : (a b : ℕ) → min 60001 (max a b) ≡ max (min 60001 a) (min 60001 b)
held_larger a b = omega arith

held_again : (a : ℕ) → min 60001 (min 60001 a) ≡ min 60001 a
held_again a = omega arith

held_below : (d m : ℕ) → min 60001 (d + min 60001 m) ≡ min 60001 (d + m)
held_below d m = omega arith

larger_again : (a b c d : ℕ) → max (max a (max b c)) d ≡ max a (max b (max c d))
larger_again a b c d = omega arith

held-levels : (n a d m r : ℕ)
    → min 60001 (max (max n (max (min 60001 a) (min 60001 (d + min 60001 m)))) r) ≡ min 60001 (max n (max a (max (d + m) r)))
held-levels n a d m r =
    rw (
      held_below d m,
      held_larger (max n (max (min 60001 a) (min 60001 (d + m)))) r,
      held_larger n (max (min 60001 a) (min 60001 (d + m))),
      held_larger (min 60001 a) (min 60001 (d + m)),
      held_again a,
      held_again (d + m),
      held_larger n (max a (max (d + m) r)),
      held_larger a (max (d + m) r),
      held_larger (d + m) r,
    )
    (larger_again (min 60001 n) (min 60001 a) (min 60001 (d + m)) (min 60001 r))

-- ---- what content adds, by what it begins with

module _ (X : Setting) (s : ℕ) where
  -- what stands around a child, and the steps to it
  abbrev about : ℕ → ℕ
  about n = around (kind_of X.source s) n

  abbrev steps_to : ℕ → ℕ → ℕ
  steps_to i t = depth_of (kind_of X.source s) (paths_of X.embedding s) i t

  nothing_more : (i : ℕ) → (deepest X s i end ≡ 0) × (sum_length X s end ≡ 0) × (sum_filler X s end ≡ 0)
  unfolding deepest sum_length sum_filler
  nothing_more i = (refl, refl, refl)

  letter_more : (i c : ℕ) (r : Content)
      → (deepest X s i (char c r) ≡ deepest X s i r) × (sum_length X s (char c r) ≡ 2 + sum_length X s r) × (sum_filler X s (char c r) ≡ sum_filler X s r)
  unfolding deepest sum_length sum_filler
  letter_more i c r = (refl, refl, refl)

  child_levels : (i t : ℕ) (k r : Content)
      → deepest X s i (elem t k r) ≡ max (about (item_levels X s)) (max (steps_to i t + max (own_levels X t (first_in k)) (deepest X t 0 k)) (deepest X s (suc i) r))
  unfolding deepest
  child_levels i t k r = refl

  child_bytes : (t : ℕ) (k r : Content) → sum_length X s (elem t k r) ≡ about (item_length X s) + (own_length X t (first_in k) + sum_length X t k) + sum_length X s r
  unfolding sum_length
  child_bytes t k r = refl

  child_filler : (t : ℕ) (k r : Content) → sum_filler X s (elem t k r) ≡ about (item_filler X s) + (own_filler X t (first_in k) + sum_filler X t k) + sum_filler X s r
  unfolding sum_filler
  child_filler t k r = refl

-- ---- one element

-- the size so far, and what is left of the content k of an element of type s from offset o and child number i on, make up the whole;
-- the content ends at `close`
pub record Counted (X : Setting) (s : ℕ) (tr : List ℕ) (k : Content) (close o i high long fill : ℕ) : Type 0 where
  pub unread : Unread X.source (kind_of X.source s) tr close o i
  pub levels_left_lem : min 60001 (max high (deepest X s i unread.left)) ≡ min 60001 (max (own_levels X s (first_in k)) (deepest X s 0 k))
  pub bytes_left : min 60001 (long + sum_length X s unread.left) ≡ min 60001 (own_length X s (first_in k) + sum_length X s k)
  pub filler_left : min 60001 (fill + sum_filler X s unread.left) ≡ min 60001 (own_filler X s (first_in k) + sum_filler X s k)

-- the size of what stands around each item
pub record Around (X : Setting) (s high long fill : ℕ) : Type 0 where
  pub levels_are : high ≡ min 60001 (about X s (item_levels X s))
  pub bytes_are : long ≡ min 60001 (about X s (item_length X s))
  pub filler_is : fill ≡ min 60001 (about X s (item_filler X s))

module _ {X : Setting} {s : ℕ} {tr : List ℕ} {k : Content} {close o i high long fill : ℕ} (now : Counted X s tr k close o i high long fill) where
  -- at the close nothing is left
  pub counted_done : Held high long fill → get_or tr o 0 ≡ 0x32 → Measured X s k high long fill × (o ≡ close)
  counted_done held here =
      let done = unread_done now.unread here in
      let deep : deepest X s i now.unread.left ≡ 0 = ap (deepest X s i) done.0 ∙ (nothing_more X s i).0 in
      let sum : sum_length X s now.unread.left ≡ 0 = ap (sum_length X s) done.0 ∙ (nothing_more X s i).1 in
      let filler : sum_filler X s now.unread.left ≡ 0 = ap (sum_filler X s) done.0 ∙ (nothing_more X s i).2 in
      let levels-here : high ≡ min 60001 (max high (deepest X s i now.unread.left)) = omega (arith, deep, held.levels_held) in
      let bytes-here : long ≡ min 60001 (long + sum_length X s now.unread.left) = omega (arith, sum, held.bytes_held) in
      let filler-here : fill ≡ min 60001 (fill + sum_filler X s now.unread.left) = omega (arith, filler, held.filler_held) in (
        record {
          levels_are = levels-here ∙ now.levels_left_lem;
          bytes_are = bytes-here ∙ now.bytes_left;
          filler_is = filler-here ∙ now.filler_left;
        },
        done.1,
      )

  -- a character
  pub counted_letter : get_or tr o 0 ≡ 0x31 → Counted X s tr k close (o + 2) i high (min 60001 (long + 2)) fill
  counted_letter first =
      let l = lettered now.unread first in
      let more = letter_more X s i l.letter l.next in
      let deep : deepest X s i l.next ≡ deepest X s i now.unread.left = sym (ap (deepest X s i) l.is ∙ more.0) in
      let sum : 2 + sum_length X s l.next ≡ sum_length X s now.unread.left = sym (ap (sum_length X s) l.is ∙ more.1) in
      let filler : sum_filler X s l.next ≡ sum_filler X s now.unread.left = sym (ap (sum_filler X s) l.is ∙ more.2) in
      record {
        unread = unread-letter now.unread first;
        levels_left_lem = ap (λ (n : ℕ). min 60001 (max high n)) deep ∙ now.levels_left_lem;
        bytes_left = held_character long (sum_length X s l.next) ∙ ap (λ (n : ℕ). min 60001 (long + n)) sum ∙ now.bytes_left;
        filler_left = ap (λ (n : ℕ). min 60001 (fill + n)) filler ∙ now.filler_left;
      }

  module _ (first : get_or tr o 0 ≡ 0x30) where
    abbrev child : OpensElement tr o now.unread.left now.unread.here.rest
    child = opened now.unread first

    -- with the size of its image, what follows it is left
    module _ {about-high about-long about-fill depth in-high in-long in-fill stop : ℕ}
        (item : Around X s about-high about-long about-fill)
        (deep : depth ≡ steps_to X s i child.type)
        (inner : Measured X child.type child.inside in-high in-long in-fill)
        (stops : stop ≡ o + 2 + length (bytes child.inside)) where
      levels-next : min 60001 (max (max high (max about-high (min 60001 (depth + in-high)))) (deepest X s (suc i) child.next)) ≡ min 60001 (max high (deepest X s i now.unread.left))
      levels-next =
          rw (item.levels_are, deep, inner.levels_are)
          (held-levels high (about X s (item_levels X s)) (steps_to X s i child.type) (max (own_levels X child.type (first_in child.inside)) (deepest X child.type 0 child.inside)) (deepest X s (suc i) child.next)
          ∙ ap (λ (n : ℕ). min 60001 (max high n)) (sym (ap (deepest X s i) child.is ∙ child_levels X s i child.type child.inside child.next)))

      bytes_next : min 60001 (min 60001 (long + about-long + in-long) + sum_length X s child.next) ≡ min 60001 (long + sum_length X s now.unread.left)
      bytes_next =
          rw (item.bytes_are, inner.bytes_are)
          (held_child long (about X s (item_length X s)) (own_length X child.type (first_in child.inside) + sum_length X child.type child.inside) (sum_length X s child.next)
          ∙ ap (λ (n : ℕ). min 60001 (long + n)) (sym (ap (sum_length X s) child.is ∙ child_bytes X s child.type child.inside child.next)))

      filler-next : min 60001 (min 60001 (fill + about-fill + in-fill) + sum_filler X s child.next) ≡ min 60001 (fill + sum_filler X s now.unread.left)
      filler-next =
          rw (item.filler_is, inner.filler_is)
          (held_child fill (about X s (item_filler X s)) (own_filler X child.type (first_in child.inside) + sum_filler X child.type child.inside) (sum_filler X s child.next)
          ∙ ap (λ (n : ℕ). min 60001 (fill + n)) (sym (ap (sum_filler X s) child.is ∙ child_filler X s child.type child.inside child.next)))

      pub counted_next : Counted X s tr k close (stop + 1) (suc i) (max high (max about-high (min 60001 (depth + in-high)))) (min 60001 (long + about-long + in-long)) (min 60001 (fill + about-fill + in-fill))
      counted_next =
          record {
            unread = unread-next now.unread first stops;
            levels_left_lem = levels-next ∙ now.levels_left_lem;
            bytes_left = bytes_next ∙ now.bytes_left;
            filler_left = filler-next ∙ now.filler_left;
          }
