-- The numbers of a line in lent bytes.
use Rattle.std.specs.Prelude.{List, ℕ, ◌*◌, ◌≤◌, length}
use Rattle.model.specs.Definitions.Lines.{NumbersText}
use Rattle.writing.specs.Writing.{Writes}

-- the most bytes of a number with the blank before it
abbrev pub number_bytes : ℕ
number_bytes = 21

-- the most letters and numbers of an answer's line, and the room for them and the end; in the code `LINE_BYTES`
abbrev pub most_word : ℕ
most_word = 16

abbrev pub most_numbers : ℕ
most_numbers = 3

abbrev pub line_bytes : ℕ
line_bytes = 80

-- numbers, each behind a blank, are written at offset `at`, and `next` is the offset after them
pub record WritesNumbers (ns old new : List ℕ) (at next : ℕ) : Type 0 where
  pub text : List ℕ
  pub in_decimal : NumbersText ns text
  pub writes : Writes old new at text next
  pub short : length text ≤ number_bytes * length ns
