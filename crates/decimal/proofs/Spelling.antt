-- The digits of a number, one after the other.
use mathlib.Core.Path.{◌≡◌, refl, sym, ap, ◌∙◌}
use mathlib.Core.List.{List, [], ◌∷◌, ◌++◌}
use Prim.Native.Nat.{ℕ, zero, suc, ◌+◌, ◌*◌, ◌-◌, ◌^◌, ◌≤◌, ◌<◌}
use native.Mathlib.Nat.{zero-mul, pow-suc}
use native.Mathlib.Numerals.{add-one}
use native.Mathlib.Omega.{arith}
use lib.ListN.{length, take, set, replicate, length-set, length-append}
use Rattle.model.specs.Definitions.Decimal.{Digits, no_digit, value_from, digit_bytes, DecimalText}
use Rattle.model.proofs.Theorems.Decimal.{last_digit, digits_behind, bytes_behind, form_of}
use Rattle.decimal.specs.Digits.{most_digits, Width, Share}
use Rattle.decimal.proofs.Powers.{next_digit}

-- of the w digits of n the first i stand in an array that has room for the digits of any number, and what is left is below the place
-- of the last of them
pub record Spelled (n w i left : ℕ) (bytes : List ℕ) : Type 0 where
  pub room : length bytes ≡ most_digits
  pub not_beyond : i ≤ w
  pub digits : List ℕ
  pub below_ten : Digits digits
  pub as_many : length digits ≡ i
  pub as_bytes : take i bytes ≡ digit_bytes digits
  pub sum : value_from 0 digits * 10 ^ (w - i) + left ≡ n
  pub rest : left < 10 ^ (w - i)

-- at first none, and the whole number is left
pub none_spelled : (n w : ℕ) → Width n w → Spelled n w 0 n (replicate most_digits 0)
unfolding value_from digit_bytes
none_spelled n w width =
    let all : w - 0 ≡ w = omega arith in
    record { room = refl; not_beyond = omega arith; digits = []; below_ten = no_digit; as_many = refl; as_bytes = refl; sum = omega (arith, zero-mul (10 ^ (w - 0))); rest = rw all width.below }

-- the place of the next digit
next_place : (w i : ℕ) → i < w → 10 ^ (w - i) ≡ 10 ^ (w - 1 - i) * 10
next_place w i less = let place : w - i ≡ suc (w - 1 - i) = omega arith in rw place (pow-suc 10 (w - 1 - i))

-- so what is left is less than ten times what the next digit counts
pub next_fits : {n w i left : ℕ} {bytes : List ℕ} → Spelled n w i left bytes → i < w → left < 10 * 10 ^ (w - 1 - i)
next_fits {w = w} {i} s less = omega (arith, s.rest, next_place w i less)

-- a byte stored behind the first i
stored_behind : (bytes : List ℕ) (i b : ℕ) → i < length bytes → take (suc i) (set bytes i b) ≡ take i bytes ++ b ∷ []
stored_behind [] i b h = absurd (omega arith)
stored_behind (x ∷ bytes) zero b h = refl
stored_behind (x ∷ bytes) (suc i) b h = ap (λ (bs : List ℕ). x ∷ bs) (stored_behind bytes i b (omega arith))

-- One more: the digits so far count ten times as much, the found one stands behind them, and what it counts is no longer left.
pub spelled_more : (n w i left : ℕ) (bytes : List ℕ) (d later : ℕ) → Spelled n w i left bytes → i < w → w ≤ most_digits → Share left (10 ^ (w - 1 - i)) d later
    → Spelled n w (i + 1) later (set bytes i (0x30 + d))
spelled_more n w i left bytes d later s less few found =
    let place : w - (i + 1) ≡ w - 1 - i = omega arith in
    let v = value_from 0 s.digits in
    let unit = 10 ^ (w - 1 - i) in
    let counted : v * 10 ^ (w - i) ≡ v * (unit * 10) = ap (λ (q : ℕ). v * q) (next_place w i less) in
    let before : v * (unit * 10) + (d * unit + later) ≡ n = omega (arith, s.sum, counted, found.sum) in
    record {
      room = length-set bytes i (0x30 + d) ∙ s.room;
      not_beyond = omega arith;
      digits = s.digits ++ d ∷ [];
      below_ten = digits_behind s.below_ten found.below_ten;
      as_many = length-append s.digits (d ∷ []) ∙ ap (λ (m : ℕ). m + 1) s.as_many;
      as_bytes = rw (add-one i) (stored_behind bytes i (0x30 + d) (omega (arith, s.room)) ∙ ap (λ (bs : List ℕ). bs ++ (0x30 + d) ∷ []) s.as_bytes ∙ sym (bytes_behind s.digits d));
      sum = rw (place, last_digit s.digits d) (sym (next_digit v unit d later) ∙ before);
      rest = rw place found.rest;
    }

-- When all stand there nothing is left, so they give the number back; and it has no fewer, since it reaches their powers.
pub all_spelled : (n w i left : ℕ) (bytes : List ℕ) → Width n w → Spelled n w i left bytes → w ≤ i → DecimalText n (take w bytes)
all_spelled n w i left bytes width s end =
    let all : i ≡ w = omega (arith, s.not_beyond) in
    let last : w - i ≡ 0 = omega arith in
    let one : 10 ^ (w - i) ≡ 1 = rw last refl in
    let sum : value_from 0 s.digits * 1 + left ≡ n = rw one at s.sum in
    let none_left : left < 1 = rw one at s.rest in
    let whole : value_from 0 s.digits ≡ n = omega (arith, sum, none_left) in
    let long : length s.digits ≡ w = s.as_many ∙ all in
    record {
      digits = s.digits;
      is_form = form_of n s.digits s.below_ten whole (omega (arith, long, width.reaches.some_digit)) (λ k low high. width.reaches.reached k low (omega (arith, long)));
      as_bytes = rw (sym all) s.as_bytes;
    }
