-- A number has one decimal form, and so an answer has one line.
use Rattle.std.specs.Prelude.{◌≡◌, refl, List, [], ◌∷◌, ◌++◌, ℕ, zero, suc, ◌+◌, ◌*◌, ◌/◌, ◌%◌, ◌^◌, ◌≤◌, ◌<◌, length}
use Rattle.std.proofs.Common.{sym, ap, ap₂, ◌∙◌, subst, lt_of_not-le, mul-one, one-mul, mul_comm, mul_assoc, mul-le-mul_right, arith}
use Rattle.std.proofs.Math.Decide.{dec_le}
use Rattle.std.proofs.Math.Nat.{pow-succ'}
use Rattle.model.specs.Definitions.Decimal.{Digits, no_digit, one_more, value_from, NoLeadingZero, only_digit, first_not_zero, DecimalForm, digit_bytes, DecimalText}
use Rattle.model.specs.Definitions.Entries.{Answer}
use Rattle.model.specs.Definitions.Lines.{NumbersText, no_number, number_then, Line, AnswerLine, acceptance, refusing}

-- ---- one form

-- Of as many digits, those behind the smaller number give the smaller number.
smaller_before : (v w : ℕ) (ds es : List ℕ) → length ds ≡ length es → Digits ds → v < w → value_from v ds < value_from w es
unfolding value_from
smaller_before v w [] [] e h less = less
smaller_before v w [] (x ∷ es) e h less = absurd (omega arith)
smaller_before v w (d ∷ ds) [] e h less = absurd (omega arith)
smaller_before v w (d ∷ ds) (x ∷ es) e (one_more small h) less = smaller_before (10 * v + d) (10 * w + x) ds es (omega arith) h (omega arith)

-- More digits, behind a number that isn't 0, give more.
more_digits : (w : ℕ) (ds es : List ℕ) → length ds ≤ length es → Digits ds → 0 < w → value_from 0 ds < value_from w es
unfolding value_from
more_digits w ds [] few h some = smaller_before 0 w ds [] (omega arith) h some
more_digits w ds (x ∷ es) few h some = go (dec_le (length ds) (length es)) (λ fewer. more_digits (10 * w + x) ds es fewer h (omega arith))
  where
    go : Dec (length ds ≤ length es) → (length ds ≤ length es → value_from 0 ds < value_from (10 * w + x) es) → value_from 0 ds < value_from w (x ∷ es)
    go (yes fewer) later = later fewer
    go (no same) later = smaller_before 0 w ds (x ∷ es) (omega (arith, lt_of_not-le same)) h some

-- As many digits that give back the same number are the same, and stand behind the same.
same_digits : (v w : ℕ) (ds es : List ℕ) → length ds ≡ length es → Digits ds → Digits es → value_from v ds ≡ value_from w es → (v ≡ w) × (ds ≡ es)
unfolding value_from
same_digits v w [] [] e h k same = (same, refl)
same_digits v w [] (x ∷ es) e h k same = absurd (omega arith)
same_digits v w (d ∷ ds) [] e h k same = absurd (omega arith)
same_digits v w (d ∷ ds) (x ∷ es) e (one_more small h) (one_more small2 k) same =
    let rest = same_digits (10 * v + d) (10 * w + x) ds es (omega arith) h k same in
    let first : d ≡ x = omega (arith, rest.0) in
    (omega (arith, rest.0), ap₂ (λ (y : ℕ) (ys : List ℕ). y ∷ ys) first rest.1)

-- a form has a digit
some_digit : {ds : List ℕ} → NoLeadingZero ds → 0 < length ds
some_digit only_digit = omega arith
some_digit (first_not_zero more) = omega arith

-- fewer digits give less than a form does
fewer_less : {ds es : List ℕ} → Digits ds → NoLeadingZero ds → NoLeadingZero es → length ds < length es → value_from 0 ds < value_from 0 es
unfolding value_from
fewer_less h some only_digit few = absurd (omega (arith, some_digit some))
fewer_less {ds} h some (first_not_zero {d = x} {ds = es} more) few = more_digits (10 * 0 + x) ds es (omega arith) h (omega arith)

-- two forms of a number have as many digits
no_longer : {n : ℕ} {ds es : List ℕ} → DecimalForm n ds → DecimalForm n es → length ds ≤ length es
no_longer {n} {ds} {es} f g = go (dec_le (length ds) (length es))
  where
    go : Dec (length ds ≤ length es) → length ds ≤ length es
    go (yes h) = h
    go (no h) =
        let less = fewer_less g.below_ten g.no_leading_zero f.no_leading_zero (lt_of_not-le h) in
        absurd (omega (arith, less, f.gives_back, g.gives_back))

-- so they have the same digits
pub form_unique : (n : ℕ) (ds es : List ℕ) → DecimalForm n ds → DecimalForm n es → ds ≡ es
form_unique n ds es f g =
    let long : length ds ≡ length es = omega (arith, no_longer f g, no_longer g f) in
    (same_digits 0 0 ds es long f.below_ten g.below_ten (f.gives_back ∙ sym g.gives_back)).1

-- ---- one text, of one number

pub text_unique : (n : ℕ) (bs cs : List ℕ) → DecimalText n bs → DecimalText n cs → bs ≡ cs
text_unique n bs cs t u = t.as_bytes ∙ ap digit_bytes (form_unique n _ _ t.is_form u.is_form) ∙ sym u.as_bytes

-- bytes are those of one row of digits
bytes_injective : (ds es : List ℕ) → digit_bytes ds ≡ digit_bytes es → ds ≡ es
unfolding digit_bytes
bytes_injective [] [] e = refl
bytes_injective [] (x ∷ es) e = absurd (empty-not e)
  where
    empty-not : [] ≡ (0x30 + x) ∷ digit_bytes es → ⊥
    empty-not q = let z : ◌≡◌ {A = ℕ} 0 1 = cc in omega arith
bytes_injective (d ∷ ds) [] e = let z : ◌≡◌ {A = ℕ} 0 1 = cc in absurd (omega arith)
bytes_injective (d ∷ ds) (x ∷ es) e =
    let heads : 0x30 + d ≡ 0x30 + x = cc in
    let tails : digit_bytes ds ≡ digit_bytes es = cc in
    let same : d ≡ x = omega (arith, heads) in
    ap₂ (λ (y : ℕ) (ys : List ℕ). y ∷ ys) same (bytes_injective ds es tails)

pub text_of_one : (m n : ℕ) (bs : List ℕ) → DecimalText m bs → DecimalText n bs → m ≡ n
text_of_one m n bs t u =
    let same : t.digits ≡ u.digits = bytes_injective _ _ (sym t.as_bytes ∙ u.as_bytes) in
    sym t.is_form.gives_back ∙ ap (value_from 0) same ∙ u.is_form.gives_back

-- ---- one line

-- each number's text is determined, and so is what stands behind it
numbers_unique : {ns bs cs : List ℕ} → NumbersText ns bs → NumbersText ns cs → bs ≡ cs
numbers_unique no_number no_number = refl
numbers_unique (number_then {n = n} t later) (number_then u later2) =
    ap₂ (λ (text more : List ℕ). 0x20 ∷ (text ++ more)) (text_unique n _ _ t u) (numbers_unique later later2)

pub line_unique : (word ns bs cs : List ℕ) → Line word ns bs → Line word ns cs → bs ≡ cs
line_unique word ns bs cs l k =
    l.as_bytes ∙ ap (λ (text : List ℕ). word ++ (text ++ 0x0A ∷ [])) (numbers_unique l.in_decimal k.in_decimal) ∙ sym k.as_bytes

pub answer_line_unique : (word ns : List ℕ) (a : Answer) (bs cs : List ℕ) → AnswerLine word ns a bs → AnswerLine word ns a cs → bs ≡ cs
answer_line_unique word ns a bs cs (acceptance is l) (acceptance is2 k) = line_unique word ns bs cs l k
answer_line_unique word ns a bs cs (acceptance is l) (refusing not k) = absurd (not is)
answer_line_unique word ns a bs cs (refusing not l) (acceptance is k) = absurd (not is)
answer_line_unique word ns a bs cs (refusing not l) (refusing not2 k) = line_unique _ _ bs cs l k

-- ---- a digit more

value_behind : (v : ℕ) (ds : List ℕ) (d : ℕ) → value_from v (ds ++ d ∷ []) ≡ 10 * value_from v ds + d
unfolding value_from
value_behind v [] d = refl
value_behind v (x ∷ ds) d = value_behind (10 * v + x) ds d

-- the digit behind all others is added to ten times what they give
pub last_digit : (ds : List ℕ) (d : ℕ) → value_from 0 (ds ++ d ∷ []) ≡ 10 * value_from 0 ds + d
last_digit = value_behind 0

pub digits_behind : {ds : List ℕ} {d : ℕ} → Digits ds → d < 10 → Digits (ds ++ d ∷ [])
digits_behind no_digit small = one_more small no_digit
digits_behind (one_more first h) small = one_more first (digits_behind h small)

pub bytes_behind : (ds : List ℕ) (d : ℕ) → digit_bytes (ds ++ d ∷ []) ≡ digit_bytes ds ++ (0x30 + d) ∷ []
unfolding digit_bytes
bytes_behind [] d = refl
bytes_behind (x ∷ ds) d = ap (λ (bs : List ℕ). (0x30 + x) ∷ bs) (bytes_behind ds d)

-- ---- each number has a form

-- a form of a number that isn't 0 does not begin with 0, and no more so with a digit behind it
leads_behind : (d : ℕ) {n : ℕ} {ds : List ℕ} → 0 < n → value_from 0 ds ≡ n → NoLeadingZero ds → NoLeadingZero (ds ++ d ∷ [])
unfolding value_from
leads_behind d {n} some e (only_digit {d = x}) = let more : 0 < x = omega (arith, e) in first_not_zero more
leads_behind d some e (first_not_zero more) = first_not_zero more

-- a digit behind the form of a number that isn't 0 gives the form of ten times that number and the digit
form_behind : {n d : ℕ} {ds : List ℕ} → 0 < n → d < 10 → DecimalForm n ds → DecimalForm (10 * n + d) (ds ++ d ∷ [])
form_behind {n} {d} {ds} some small f =
    record {
      below_ten = digits_behind f.below_ten small;
      gives_back = last_digit ds d ∙ ap (λ (v : ℕ). 10 * v + d) f.gives_back;
      no_leading_zero = leads_behind d some f.gives_back f.no_leading_zero;
    }

-- a number below ten has one digit; any other has a digit behind those of its tenth part
form_within : (most n : ℕ) → n < most → (ds : List ℕ) × DecimalForm n ds
unfolding value_from
form_within zero n h = absurd (omega arith)
form_within (suc most) n h = go (dec_le 10 n) (λ large. form_within most (n / 10) (omega arith))
  where
    go : Dec (10 ≤ n) → (10 ≤ n → (ds : List ℕ) × DecimalForm (n / 10) ds) → (ds : List ℕ) × DecimalForm n ds
    go (no small) later = (n ∷ [], record { below_ten = one_more (lt_of_not-le small) no_digit; gives_back = omega arith; no_leading_zero = only_digit })
    go (yes large) later =
        let before = later large in
        let whole : 10 * (n / 10) + n % 10 ≡ n = omega arith in
        (before.0 ++ (n % 10) ∷ [], subst (λ (m : ℕ). DecimalForm m (before.0 ++ (n % 10) ∷ [])) whole (form_behind (omega arith) (omega arith) before.1))

pub has_form : (n : ℕ) → (ds : List ℕ) × DecimalForm n ds
has_form n = form_within (suc n) n (omega arith)

-- ---- digits that were found one by one

-- digits behind v give less than the next number would
below_power : (v : ℕ) (ds : List ℕ) → Digits ds → value_from v ds < suc v * 10 ^ length ds
unfolding value_from
below_power v [] h = omega (arith, mul-one (suc v))
below_power v (d ∷ ds) (one_more small h) =
    let rest = below_power (10 * v + d) ds h in
    let counted = mul-le-mul_right {m = suc (10 * v + d)} {n = 10 * suc v} (10 ^ length ds) (omega arith) in
    let moved : suc v * 10 ^ suc (length ds) ≡ 10 * suc v * 10 ^ length ds =
    ap (λ (q : ℕ). suc v * q) (pow-succ' 10 (length ds)) ∙ sym (mul_assoc (suc v) 10 (10 ^ length ds)) ∙ ap (λ (q : ℕ). q * 10 ^ length ds) (mul_comm (suc v) 10) in
    omega (arith, rest, counted, moved)

-- Digits that give back a number are its form, where it reaches each power of ten that they count, 1 aside.
pub form_of : (n : ℕ) (ds : List ℕ) → Digits ds → value_from 0 ds ≡ n → 0 < length ds → ((k : ℕ) → 0 < k → k < length ds → 10 ^ k ≤ n) → DecimalForm n ds
unfolding value_from
form_of n [] h e some reached = absurd (omega arith)
form_of n (d ∷ []) h e some reached = record { below_ten = h; gives_back = e; no_leading_zero = only_digit }
form_of n (zero ∷ x ∷ ds) (one_more small h) e some reached =
    let less : n < 10 ^ suc (length ds) = omega (arith, below_power 0 (x ∷ ds) h, e, one-mul (10 ^ suc (length ds))) in
    let not-less : 10 ^ suc (length ds) ≤ n = reached (suc (length ds)) (omega arith) (omega arith) in
    absurd (omega (arith, less, not-less))
form_of n (suc d ∷ x ∷ ds) h e some reached = record { below_ten = h; gives_back = e; no_leading_zero = first_not_zero {d = suc d} (omega arith) }
