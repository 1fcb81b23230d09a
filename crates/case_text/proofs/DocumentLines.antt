-- Bytes written in hexadecimal, one after the other, and the line around them.
use mathlib.Core.Path.{◌≡◌, refl, ap, ◌∙◌}
use mathlib.Core.List.{List, [], ◌∷◌, ◌++◌}
use Prim.Native.Nat.{ℕ, ◌+◌, ◌*◌, ◌/◌, ◌%◌, ◌≤◌, ◌<◌}
use native.Mathlib.Numerals.{add-one}
use native.Mathlib.Omega.{arith}
use lib.ListN.{length, take, get_or, set, length-set, length-append}
use lib.Seq.{take-suc}
use Rattle.writing.specs.Writing.{Writes}
use Rattle.writing.specs.Laws.{writes_then, writes-length, stored, written_from_start}
use Rattle.lines.specs.Lines.{number_bytes, WritesNumbers}
use Rattle.case_text.specs.Hexadecimal.{hex_digit, hex_text, DocumentLine}

-- two digits a byte
pub hex_length : (bs : List ℕ) → length (hex_text bs) ≡ 2 * length bs
unfolding hex_text
hex_length [] = refl
hex_length (b ∷ bs) = omega (arith, hex_length bs)

-- a byte behind others
hex_behind : (bs : List ℕ) (b : ℕ) → hex_text (bs ++ b ∷ []) ≡ hex_text bs ++ hex_digit (b / 16) ∷ hex_digit (b % 16) ∷ []
unfolding hex_text
hex_behind [] b = refl
hex_behind (x ∷ bs) b = ap (λ (t : List ℕ). hex_digit (x / 16) ∷ hex_digit (x % 16) ∷ t) (hex_behind bs b)

-- the two digits of a byte behind those of the bytes before it
pub one_more_hexed : (bytes old : List ℕ) (at : ℕ) (line : List ℕ) (to i high low next : ℕ) → Writes old line at (hex_text (take i bytes)) to → i < length bytes
    → high ≡ hex_digit (get_or bytes i 0 / 16) → low ≡ hex_digit (get_or bytes i 0 % 16) → next ≡ to + 2
    → Writes old (set (set line to high) (to + 1) low) at (hex_text (take (i + 1) bytes)) next
one_more_hexed bytes old at line to i high low next w less is-high is_low behind =
    let b = get_or bytes i 0 in
    let more : take (i + 1) bytes ≡ take i bytes ++ b ∷ [] = ap (λ (k : ℕ). take k bytes) (add-one i) ∙ take-suc bytes i 0 less in
    let digits : Writes line (set (set line to (hex_digit (b / 16))) (to + 1) (hex_digit (b % 16))) to (hex_digit (b / 16) ∷ hex_digit (b % 16) ∷ []) (to + 2) =
    record { written = rw (add-one to) refl; after = refl } in
    rw (is-high, is_low, more, behind, hex_behind (take i bytes) b) (writes_then w digits)

-- ---- the line with a document

module _ (ns document old word_line : List ℕ) (word : ℕ) (w : Writes old word_line 0 (0x6F ∷ 0x6B ∷ []) word)
    (numbers-line : List ℕ) (behind : ℕ) (n : WritesNumbers ns word_line numbers-line word behind)
    (room : 2 * length document + number_bytes * length ns + 4 ≤ length old) where
  -- behind the numbers is room for a blank, the document and the end
  pub room_for_document : behind + 2 + 2 * length document ≤ length numbers-line
  room_for_document = omega (arith, w.after, writes-length w, n.writes.after, n.short, writes-length n.writes)

  pub document_line : (hex-line : List ℕ) (end : ℕ) → Writes (set numbers-line behind 0x20) hex-line (behind + 1) (hex_text document) end
      → (end < length hex-line) × (length hex-line ≡ length old) × DocumentLine ns document (take (end + 1) (set hex-line end 0x0A))
  document_line hex-line end h =
      let text = n.text in
      let tail = hex_text document ++ 0x0A ∷ [] in
      let whole = writes_then w (writes_then n.writes (writes_then (stored numbers-line behind 0x20) (writes_then h (stored hex-line end 0x0A)))) in
      let fits : length (0x6F ∷ 0x6B ∷ (text ++ 0x20 ∷ tail)) ≤ length old =
      omega (arith, length-append text (0x20 ∷ tail), length-append (hex_text document) (0x0A ∷ []), hex_length document, n.short) in
      let long : length hex-line ≡ length numbers-line = writes-length h ∙ length-set numbers-line behind 0x20 in (
        omega (arith, h.after, hex_length document, long, room_for_document),
        long ∙ writes-length n.writes ∙ writes-length w,
        record { numbers = text; in_decimal = n.in_decimal; as_bytes = written_from_start whole fits },
      )
