-- The digits of a number: how many, each one, and all of them in lent bytes.
use Rattle.std.specs.Prelude.{◌≡◌, List, ℕ, ◌+◌, ◌*◌, ◌^◌, ◌≤◌, ◌<◌, length}
use Rattle.model.specs.Definitions.Decimal.{DecimalText}
use Rattle.writing.specs.Writing.{Writes}

-- no number of 64 bits has more digits; in the code `MOST_DIGITS`
abbrev pub most_digits : ℕ
most_digits = 20

-- a number has at least w digits, which are at least 1 and at most 20: it isn't below any power of ten before the w-th, 1 aside
pub record Reaches (n w : ℕ) : Type 0 where
  pub some_digit : 0 < w
  pub not_more : w ≤ most_digits
  pub reached : (k : ℕ) → 0 < k → k < w → 10 ^ k ≤ n

-- it has w digits: it is below the w-th power too
pub record Width (n w : ℕ) : Type 0 where
  pub reaches : Reaches n w
  pub below : n < 10 ^ w

-- a digit counts `unit` each, and less than that is left
pub record Share (n unit digit left : ℕ) : Type 0 where
  pub below_ten : digit < 10
  pub sum : digit * unit + left ≡ n
  pub rest : left < unit

-- a number's decimal form is written at offset `at`, and `next` is the offset after it
pub record WritesDecimal (n : ℕ) (old new : List ℕ) (at next : ℕ) : Type 0 where
  pub text : List ℕ
  pub is_decimal : DecimalText n text
  pub writes : Writes old new at text next
  pub short : length text ≤ most_digits
