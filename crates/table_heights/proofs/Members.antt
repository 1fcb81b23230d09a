-- Loops over the members of one type: what is left of them gives the whole.
use mathlib.Core.Path.{◌≡◌, refl, sym, ap}
use mathlib.Core.Bool.{Bool, true, false}
use mathlib.Core.List.{List, [], ◌∷◌}
use Prim.Native.Nat.{ℕ, ◌+◌, ◌≤◌, ◌<◌, max}
use native.Mathlib.Numerals.{add-one}
use native.Mathlib.Omega.{arith}
use lib.ListN.{length, drop, get_or, drop_of_length-le}
use lib.Seq.{drop-cons}
use lib.Dec.{leb}
use borrow.Author.Tests.{leb-true, leb-false, le-leb, lt-leb}
use Rattle.model.specs.Definitions.Basics.{pick}
use Rattle.model.specs.Definitions.Heights.{height_in, highest, lowest, least_member}
use Rattle.model.proofs.Theorems.Tools.{pick_true, pick_false}

-- a turn of the loop for the highest
pub highest_turn : (hs ms : List ℕ) (i best next whole : ℕ) → i < length ms → next ≡ max best (height_in hs (get_or ms i 0))
    → max best (highest hs (drop i ms)) ≡ whole → max next (highest hs (drop (i + 1) ms)) ≡ whole
unfolding highest
highest_turn hs ms i best next whole here e before = rw (add-one i) (omega (arith, rw (drop-cons ms i 0 here) at before))

-- and its end
pub highest_end : (hs ms : List ℕ) (i best whole : ℕ) → length ms ≤ i → max best (highest hs (drop i ms)) ≡ whole → best ≡ whole
unfolding highest
highest_end hs ms i best whole past before = omega (arith, rw (drop_of_length-le ms past) at before)

-- the earlier of two members that is not higher than the other
abbrev pub lesser : List ℕ → ℕ → ℕ → ℕ
lesser hs b m = pick (leb (height_in hs b) (height_in hs m)) b m

-- choosing among three members is the same from the right and from the left
lesser_assoc : (hs : List ℕ) (b m l : ℕ) → lesser hs b (lesser hs m l) ≡ lesser hs (lesser hs b m) l
unfolding pick
lesser_assoc hs b m l = go (leb (height_in hs m) (height_in hs l)) refl (leb (height_in hs b) (height_in hs m)) refl
  where
    go : (s : Bool) → leb (height_in hs m) (height_in hs l) ≡ s → (f : Bool) → leb (height_in hs b) (height_in hs m) ≡ f
        → lesser hs b (lesser hs m l) ≡ lesser hs (lesser hs b m) l
    go true p true q =
        let low : height_in hs b ≤ height_in hs l = omega (arith, leb-true (height_in hs m) (height_in hs l) p, leb-true (height_in hs b) (height_in hs m) q) in
        rw (p, q, le-leb (height_in hs b) (height_in hs l) low)
    go true p false q = rw (p, q, p)
    go false p true q = rw (p, q)
    go false p false q =
        let high : height_in hs l < height_in hs b = omega (arith, leb-false (height_in hs m) (height_in hs l) p, leb-false (height_in hs b) (height_in hs m) q) in
        rw (p, q, p, lt-leb (height_in hs b) (height_in hs l) high)

-- The least member of a list that begins with two: that of the list in which the lesser of the two stands for both.
least_two : (hs : List ℕ) (b m : ℕ) (ms : List ℕ) → least_member hs (b ∷ m ∷ ms) ≡ least_member hs (lesser hs b m ∷ ms)
unfolding least_member
least_two hs b m [] = refl
least_two hs b m (n ∷ ms) = lesser_assoc hs b m (least_member hs (n ∷ ms))

-- before the loop the first member is the least
pub least_start : (hs ms : List ℕ) → 0 < length ms → least_member hs (get_or ms 0 0 ∷ drop 1 ms) ≡ least_member hs ms
least_start hs ms some = ap (least_member hs) (sym (drop-cons ms 0 0 some))

-- the lesser of two is the second where that is lower
pub lesser_second : (hs : List ℕ) (b m : ℕ) → height_in hs m < height_in hs b → lesser hs b m ≡ m
lesser_second hs b m h = pick_false (leb (height_in hs b) (height_in hs m)) b m (lt-leb (height_in hs b) (height_in hs m) h)

-- and the first where the second is not
pub lesser_first : (hs : List ℕ) (b m : ℕ) → height_in hs b ≤ height_in hs m → lesser hs b m ≡ b
lesser_first hs b m h = pick_true (leb (height_in hs b) (height_in hs m)) b m (le-leb (height_in hs b) (height_in hs m) h)

-- a turn of the loop for the least member
pub least_turn : (hs ms : List ℕ) (i best next whole : ℕ) → i < length ms → next ≡ lesser hs best (get_or ms i 0)
    → least_member hs (best ∷ drop i ms) ≡ whole → least_member hs (next ∷ drop (i + 1) ms) ≡ whole
least_turn hs ms i best next whole here e before = rw (add-one i, e, ← least_two) (rw (drop-cons ms i 0 here) at before)

-- and its end
pub least_end : (hs ms : List ℕ) (i best whole : ℕ) → length ms ≤ i → least_member hs (best ∷ drop i ms) ≡ whole → best ≡ whole
unfolding least_member
least_end hs ms i best whole past before = rw (drop_of_length-le ms past) at before

-- without members the lowest height is 0
pub lowest_none : (hs ms : List ℕ) → length ms ≡ 0 → 0 ≡ lowest hs ms
unfolding lowest
lowest_none hs [] none = refl
lowest_none hs (m ∷ ms) none = absurd (omega arith)

-- and the least member is 0
pub least_none : (hs ms : List ℕ) → length ms ≡ 0 → 0 ≡ least_member hs ms
unfolding least_member
least_none hs [] none = refl
least_none hs (m ∷ ms) none = absurd (omega arith)
