-- Numbers written one after the other, and the line around them.
use mathlib.Core.Path.{◌≡◌, refl, sym, ap, ◌∙◌, subst}
use mathlib.Core.List.{List, [], ◌∷◌, ◌++◌, append_assoc, append-nil}
use Prim.Native.Nat.{ℕ, ◌+◌, ◌*◌, ◌-◌, ◌≤◌, ◌<◌}
use native.Mathlib.Numerals.{add-one}
use native.Mathlib.Omega.{arith}
use lib.ListN.{length, take, drop, get_or, set, length-append, length-take}
use lib.Seq.{take-suc}
use Rattle.model.specs.Definitions.Decimal.{DecimalText}
use Rattle.model.specs.Definitions.Lines.{NumbersText, no_number, number_then, Line}
use Rattle.writing.specs.Writing.{Writes}
use Rattle.writing.specs.Laws.{writes_then, stored, written_from_start}
use Rattle.decimal.specs.Digits.{WritesDecimal}
use Rattle.decimal.proofs.Written.{whole}
use Rattle.lines.specs.Lines.{number_bytes, WritesNumbers}

-- a number behind others
numbers_behind : {ns bs : List ℕ} (n : ℕ) (text : List ℕ) → NumbersText ns bs → DecimalText n text → NumbersText (ns ++ n ∷ []) (bs ++ 0x20 ∷ text)
numbers_behind n text no_number d = subst (λ (t : List ℕ). NumbersText (n ∷ []) (0x20 ∷ t)) (append-nil text) (number_then d no_number)
numbers_behind n text (number_then {n = m} {ns = ns} {text = first} {more = more} e later) d =
    subst (λ (t : List ℕ). NumbersText (m ∷ (ns ++ n ∷ [])) (0x20 ∷ t)) (sym (append_assoc first more (0x20 ∷ text))) (number_then e (numbers_behind n text later d))

-- the first i numbers are written
abbrev pub Numbered : (ns old : List ℕ) (at : ℕ) (out : List ℕ) (next i : ℕ) → Type 0
Numbered ns old at out next i = WritesNumbers (take i ns) old out at next

pub none_written : (old : List ℕ) (at : ℕ) → WritesNumbers [] old old at at
none_written old at = record { text = []; in_decimal = no_number; writes = record { written = refl; after = omega arith }; short = omega arith }

-- one more number is written
pub one_more_written : (ns old : List ℕ) (at : ℕ) (out : List ℕ) (next i : ℕ) (new : List ℕ) (after : ℕ) → Numbered ns old at out next i → i < length ns
    → WritesDecimal (get_or ns i 0) (set out next 0x20) new (next + 1) after → Numbered ns old at new after (i + 1)
one_more_written ns old at out next i new after w less d =
    let numbers : take (i + 1) ns ≡ take i ns ++ get_or ns i 0 ∷ [] = ap (λ (k : ℕ). take k ns) (add-one i) ∙ take-suc ns i 0 less in
    let both = writes_then (writes_then w.writes (stored out next 0x20)) d.writes in
    let joined : (w.text ++ 0x20 ∷ []) ++ d.text ≡ w.text ++ 0x20 ∷ d.text = append_assoc w.text (0x20 ∷ []) d.text in
    record {
      text = w.text ++ 0x20 ∷ d.text;
      in_decimal = rw numbers (numbers_behind (get_or ns i 0) d.text w.in_decimal d.is_decimal);
      writes = subst (λ (bs : List ℕ). Writes old new at bs after) joined both;
      short = omega (arith, w.short, d.short, length-append w.text (0x20 ∷ d.text), length-take i ns, length-take (i + 1) ns);
    }

-- a word, numbers behind it, and the end make a line
pub line_made : (word ns old out : List ℕ) (behind : ℕ) (new : List ℕ) (next : ℕ) → length word + number_bytes * length ns + 1 ≤ length old
    → Writes old out 0 (take (length word - 0) (drop 0 word)) behind → WritesNumbers ns out new behind next → Line word ns (take (next + 1) (set new next 0x0A))
line_made word ns old out behind new next room w numbers =
    let written = writes_then (whole w) (writes_then numbers.writes (stored new next 0x0A)) in
    let fits : length (word ++ (numbers.text ++ 0x0A ∷ [])) ≤ length old =
    omega (arith, length-append word (numbers.text ++ 0x0A ∷ []), length-append numbers.text (0x0A ∷ []), numbers.short) in
    record { numbers = numbers.text; in_decimal = numbers.in_decimal; as_bytes = written_from_start written fits }
