-- Bytes in hexadecimal, and the line with a document, as the program `cases` prints them.
use Rattle.std.specs.Prelude.{◌≡◌, List, [], ◌∷◌, ◌++◌, ℕ, ◌+◌, ◌-◌, ◌/◌, ◌%◌, ltb}
use Rattle.model.specs.Definitions.Basics.{pick}
use Rattle.model.specs.Definitions.Lines.{NumbersText}

-- 0 to 9 and a to f
unfoldable pub hex_digit : ℕ → ℕ
hex_digit n = pick (ltb n 10) (n + 0x30) (n - 10 + 0x61)

-- two digits a byte, the higher first
unfoldable pub hex_text : List ℕ → List ℕ
hex_text [] = []
hex_text (b ∷ bs) = hex_digit (b / 16) ∷ hex_digit (b % 16) ∷ hex_text bs

-- the most bytes of a line with two numbers and a document, beside the document's own digits; in the code `DOCUMENT_LINE_BYTES` has
-- them for a document of the greatest length
abbrev pub beside_document : ℕ
beside_document = 46

-- `ok`, numbers, a blank, a document in hexadecimal, and the end
pub record DocumentLine (ns document bs : List ℕ) : Type 0 where
  pub numbers : List ℕ
  pub in_decimal : NumbersText ns numbers
  pub as_bytes : bs ≡ 0x6F ∷ 0x6B ∷ (numbers ++ 0x20 ∷ (hex_text document ++ 0x0A ∷ []))
