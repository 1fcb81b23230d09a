-- The loop that asks whether a number is among others: what is left of them decides.
use mathlib.Core.Path.{◌≡◌, refl, sym}
use mathlib.Core.Bool.{true, false}
use mathlib.Core.List.{List}
use Prim.Native.Nat.{ℕ, ◌+◌, ◌≤◌, ◌<◌}
use native.Mathlib.Numerals.{add-one}
use lib.ListN.{length, drop, get_or, drop_of_length-le}
use lib.Seq.{drop-cons}
use borrow.Author.Tests.{eq-eqb, ne_eqb}
use Rattle.model.specs.Definitions.Basics.{member_of}

-- the next is it
pub named_here : (m : ℕ) (ms : List ℕ) (i : ℕ) → i < length ms → get_or ms i 0 ≡ m → member_of m (drop i ms) ≡ true
unfolding member_of
named_here m ms i here e = rw (drop-cons ms i 0 here, eq-eqb m (get_or ms i 0) (sym e)) refl

-- it isn't
pub not_named_here : (m : ℕ) (ms : List ℕ) (i : ℕ) → i < length ms → (get_or ms i 0 ≡ m → ⊥) → member_of m (drop (i + 1) ms) ≡ member_of m (drop i ms)
unfolding member_of
not_named_here m ms i here other = rw (add-one i, drop-cons ms i 0 here, ne_eqb m (get_or ms i 0) (λ e. other (sym e))) refl

-- none is left
pub named_nowhere : (m : ℕ) (ms : List ℕ) (i : ℕ) → length ms ≤ i → member_of m (drop i ms) ≡ false
unfolding member_of
named_nowhere m ms i past = rw (drop_of_length-le ms past) refl
