-- Numbers in decimal (02, N2): what is a form and what is none, and the line of carry for the patch.
use Rattle.std.specs.Prelude.{◌≡◌, refl, true, List, [], ◌∷◌, ℕ, suc, ltb}
use Rattle.std.proofs.Common.{sym, subst, arith, leb-true}
use Rattle.model.specs.Definitions.Decimal.{Digits, no_digit, one_more, value_from, NoLeadingZero, only_digit, first_not_zero, DecimalForm, digit_bytes, DecimalText}
use Rattle.model.specs.Definitions.Entries.{Answer, answer_of, carry}
use Rattle.model.specs.Definitions.Lines.{no_number, number_then, acceptance, CarryLine}
use Rattle.starred_cases.specs.Starred.{source_table_bytes, target_table_bytes, embedding, tree, junk, answer, starred_cases_lem}

-- `carried 21 1`
abbrev pub patch_line : List ℕ
patch_line = 0x63 ∷ 0x61 ∷ 0x72 ∷ 0x72 ∷ 0x69 ∷ 0x65 ∷ 0x64 ∷ 0x20 ∷ 0x32 ∷ 0x31 ∷ 0x20 ∷ 0x31 ∷ 0x0A ∷ []

pub record DecimalCases : Type 0 where
  -- 0 is one digit, and not none
  pub zero_is_one : DecimalForm 0 (0 ∷ [])
  pub zero_not_none : DecimalForm 0 [] → ⊥
  -- zeros stand behind a digit, and not before
  pub zeros_behind : DecimalForm 60000 (6 ∷ 0 ∷ 0 ∷ 0 ∷ 0 ∷ [])
  pub no_zero_before : DecimalForm 7 (0 ∷ 7 ∷ []) → ⊥
  -- ten is no digit
  pub ten_no_digit : DecimalForm 10 (10 ∷ []) → ⊥
  -- the highest digit is the first
  pub not_backwards : DecimalForm 21 (1 ∷ 2 ∷ []) → ⊥
  -- the patch's line
  pub patch_line_lem : CarryLine (answer_of (carry source_table_bytes target_table_bytes embedding tree (junk 60000)).result)
      patch_line

-- a digit before others, and one by itself
before : (d : ℕ) {ds : List ℕ} → ltb d 10 ≡ true → Digits ds → Digits (d ∷ ds)
before d small = one_more (leb-true (suc d) 10 small)

alone : (d : ℕ) → ltb d 10 ≡ true → DecimalForm d (d ∷ [])
unfolding value_from
alone d small = record { below_ten = before d small no_digit; gives_back = omega arith; no_leading_zero = only_digit }

-- what is no form: no digit, a leading zero, ten as a digit, the digits of 12 for 21
none_leads : NoLeadingZero [] → ⊥
none_leads = elim [ ]

zero_leads : NoLeadingZero (0 ∷ 7 ∷ []) → ⊥
zero_leads (first_not_zero h) = omega arith

ten_below_ten : Digits (10 ∷ []) → ⊥
ten_below_ten (one_more h more) = omega arith

twelve : value_from 0 (1 ∷ 2 ∷ []) ≡ 21 → ⊥
unfolding value_from
twelve e = omega (arith, e)

-- the texts of 21 and 1
twenty_one : DecimalText 21 (0x32 ∷ 0x31 ∷ [])
unfolding value_from digit_bytes
twenty_one =
    record {
      digits = 2 ∷ 1 ∷ [];
      is_form = record { below_ten = before 2 refl (before 1 refl no_digit); gives_back = refl; no_leading_zero = first_not_zero {d = 2} (omega arith) };
      as_bytes = refl;
    }

one : DecimalText 1 (0x31 ∷ [])
unfolding digit_bytes
one = record { digits = 1 ∷ []; is_form = alone 1 refl; as_bytes = refl }

patch_carried : CarryLine (answer 21 1) patch_line
unfolding answer
patch_carried = acceptance refl (record { numbers = _; in_decimal = number_then twenty_one (number_then one no_number); as_bytes = refl })

pub decimal_cases : DecimalCases
unfolding value_from
decimal_cases =
    record {
      zero_is_one = alone 0 refl;
      zero_not_none = λ f. none_leads f.no_leading_zero;
      zeros_behind = record {
        below_ten = before 6 refl (before 0 refl (before 0 refl (before 0 refl (before 0 refl no_digit))));
        gives_back = refl;
        no_leading_zero = first_not_zero {d = 6} (omega arith);
      };
      no_zero_before = λ f. zero_leads f.no_leading_zero;
      ten_no_digit = λ f. ten_below_ten f.below_ten;
      not_backwards = λ f. twelve f.gives_back;
      patch_line_lem = subst (λ (a : Answer). CarryLine a patch_line) (sym starred_cases_lem.carried) patch_carried;
    }
