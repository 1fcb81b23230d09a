-- 02, N2: numbers in decimal.
use Rattle.std.specs.Prelude.{◌≡◌, List, [], ◌∷◌, ◌++◌, map, ℕ, ◌+◌, ◌*◌, ◌≤◌, ◌<◌, length, drop}

-- each digit is below ten
pub data Digits : List ℕ → Type 0 where
  no_digit : Digits []
  one_more : {d : ℕ} {ds : List ℕ} → d < 10 → Digits ds → Digits (d ∷ ds)

-- the number that digits give back, the highest first, where those before them gave v: each digit is added to ten times what
-- came before it
unfoldable pub value_from : ℕ → List ℕ → ℕ
value_from v [] = v
value_from v (d ∷ ds) = value_from (10 * v + d) ds

-- the first digit isn't 0, unless it is the only one
pub data NoLeadingZero : List ℕ → Type 0 where
  only_digit : {d : ℕ} → NoLeadingZero (d ∷ [])
  first_not_zero : {d : ℕ} {ds : List ℕ} → 0 < d → NoLeadingZero (d ∷ ds)

-- `DecimalForm n ds`: the digits ds, the highest first, are the decimal form of n
pub record DecimalForm (n : ℕ) (ds : List ℕ) : Type 0 where
  pub below_ten : Digits ds
  pub gives_back : value_from 0 ds ≡ n
  pub no_leading_zero : NoLeadingZero ds

-- digits as bytes of text: 30 to 39
unfoldable pub digit_bytes : List ℕ → List ℕ
digit_bytes ds = map (λ (d : ℕ). 0x30 + d) ds

-- `DecimalText n bs`: the bytes bs are the decimal form of n
pub record DecimalText (n : ℕ) (bs : List ℕ) : Type 0 where
  pub digits : List ℕ
  pub is_form : DecimalForm n digits
  pub as_bytes : bs ≡ digit_bytes digits

-- A number written at the start of lent bytes: its decimal form, every later byte as it was, and its length answered. Where they
-- are too few, no byte changes and 0 is answered.
pub data DecimalWritten (n : ℕ) (old new : List ℕ) (answer : ℕ) : Type 0 where
  with_room : {text : List ℕ} → DecimalText n text → length text ≤ length old → new ≡ text ++ drop (length text) old → answer ≡ length text → DecimalWritten n old new answer
  without_room : {text : List ℕ} → DecimalText n text → length old < length text → new ≡ old → answer ≡ 0 → DecimalWritten n old new answer
