-- How far it is, from each offset of a document, to the 32 that closes the element around it.
use Rattle.std.specs.Prelude.{◌≡◌, List, ℕ, ◌+◌, ◌≤◌, ◌<◌, length, take, drop, get_or}
use Rattle.std.proofs.Common.{sym, ap, ◌∙◌, arith, length-drop, drop-drop, get_or-drop}
use Rattle.model.specs.Definitions.Refusals.{max_length}
use Rattle.model.specs.Definitions.Content.{Content, bytes}
use Rattle.scanning.specs.Scanning.{ContentAt}

-- for content that begins at an offset, its length
pub record Spans (tr spans : List ℕ) : Type 0 where
  pub short : length tr ≤ 60000
  pub whole : length tr ≤ length spans
  pub span_is : (o : ℕ) (k : Content) → ContentAt tr o k → get_or spans o 0 ≡ length (bytes k)

-- from the offsets behind o it is never further than to the end, and one more where a character is cut off
pub record SpansWithin (spans : List ℕ) (o : ℕ) : Type 0 where
  pub within : (j : ℕ) → o < j → j < length spans → j + get_or spans j 0 ≤ length spans + 1

-- how far it is from offset o, where the byte b stands: past a character, past an element, or no way
pub record SpanAt (spans : List ℕ) (b o r : ℕ) : Type 0 where
  pub short : o + r ≤ length spans + 1
  pub character : b ≡ 0x31 → r ≡ 2 + get_or spans (o + 2) 0
  pub element : b ≡ 0x30 → o + 2 + get_or spans (o + 2) 0 + 1 < length spans
      → r ≡ 2 + get_or spans (o + 2) 0 + 1 + get_or spans (o + 2 + get_or spans (o + 2) 0 + 1) 0
  pub closing : (b ≡ 0x30 → ⊥) → (b ≡ 0x31 → ⊥) → r ≡ 0

-- the document is no longer than documents may be, and there is a span for each of its offsets
abbrev pub SpansRoom : List ℕ → List ℕ → Type 0
SpansRoom tr spans = (length tr ≤ max_length) × (length tr ≤ length spans)

-- the span of an offset of the document; 0 behind its end
abbrev pub span_in : List ℕ → List ℕ → ℕ → ℕ
span_in tr spans o = get_or (take (length tr) spans) o 0

-- from offset o on, the spans are filled
pub record FilledFrom (tr : List ℕ) (o : ℕ) (spans : List ℕ) : Type 0 where
  pub bounded : (j : ℕ) → o ≤ j → j < length tr → j + get_or spans j 0 ≤ length tr + 1
  pub filled : (j : ℕ) (k : Content) → o ≤ j → ContentAt tr j k → get_or spans j 0 ≡ length (bytes k)

-- a part of the document and the same part of the distances
pub spans_part : {tr spans part rest : List ℕ} (o : ℕ) → Spans tr spans → part ≡ drop o tr → rest ≡ drop o spans → Spans part rest
spans_part {tr} {spans} {part} {rest} o s is-part is-rest =
    record {
      short = omega (arith, s.short, ap length is-part, length-drop o tr);
      whole = omega (arith, s.whole, ap length is-part, ap length is-rest, length-drop o tr, length-drop o spans);
      span_is = λ i k a.
          let there : ContentAt tr (o + i) k = record { rest = a.rest; stands = sym (drop-drop i o tr) ∙ ap (drop i) (sym is-part) ∙ a.stands } in
          ap (λ (xs : List ℕ). get_or xs i 0) is-rest ∙ get_or-drop o spans i 0 ∙ s.span_is (o + i) k there;
    }
