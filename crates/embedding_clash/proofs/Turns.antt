-- Laws of a loop over the numbers i to n, in which `join` puts what one number gives before what those behind it give: what is left gives
-- the whole. Searches and rows of checks are such loops.
use mathlib.Core.Path.{◌≡◌, sym, ap, ◌∙◌}
use Prim.Native.Nat.{ℕ, suc, ◌+◌, ◌-◌, ◌≤◌, ◌<◌}
use native.Mathlib.Nat.{sub-zero}
use native.Mathlib.Numerals.{add-one}
use native.Mathlib.Omega.{arith}

module _ {A : Type 0} (join : A → A → A) (nothing : A) (over : (ℕ → A) → ℕ → ℕ → A)
    (over_none : (at : ℕ → A) (i : ℕ) → over at i 0 ≡ nothing)
    (over-more : (at : ℕ → A) (i k : ℕ) → over at i (suc k) ≡ join (at i) (over at (suc i) k))
    (at : ℕ → A) where
  -- at the start all are left
  pub turns_start : {n m : ℕ} → n ≡ m → over at 0 (n - 0) ≡ over at 0 m
  turns_start {n} e = ap (over at 0) (sub-zero n ∙ e)

  -- one number, and those behind it
  turn : (i n : ℕ) {a : A} → i < n → at i ≡ a → over at i (n - i) ≡ join a (over at (i + 1) (n - (i + 1)))
  turn i n h e =
      let more : n - i ≡ suc (n - (i + 1)) = omega arith in
      ap (over at i) more ∙ over-more at i (n - (i + 1)) ∙ ap (λ (k : ℕ). join (at i) (over at k (n - (i + 1)))) (sym (add-one i))
      ∙ ap (λ (b : A). join b (over at (i + 1) (n - (i + 1)))) e

  -- one that gives nothing leaves it to those behind it
  pub turn_passes : ((b : A) → join nothing b ≡ b) → (i n : ℕ) → i < n → at i ≡ nothing → over at (i + 1) (n - (i + 1)) ≡ over at i (n - i)
  turn_passes skips i n h e = sym (turn i n h e ∙ skips _)

  -- what counts before all behind it is the whole
  pub turn_decides : (i n : ℕ) {a : A} → ((b : A) → join a b ≡ a) → i < n → at i ≡ a → over at i (n - i) ≡ a
  turn_decides i n first h e = turn i n h e ∙ first _

  -- after the last there is nothing
  pub turns_end : (i n : ℕ) → n ≤ i → over at i (n - i) ≡ nothing
  turns_end i n h = let none_left : n - i ≡ 0 = omega arith in ap (over at i) none_left ∙ over_none at i
