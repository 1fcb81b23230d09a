-- Digits copied to an offset of lent bytes, and to their start.
use mathlib.Core.Path.{◌≡◌, ◌∙◌}
use mathlib.Core.List.{List}
use Prim.Native.Nat.{ℕ, ◌-◌, ◌≤◌}
use native.Mathlib.Omega.{arith}
use lib.ListN.{length, take, drop}
use lib.Seq.{take-length}
use Rattle.model.specs.Definitions.Decimal.{DecimalText, DecimalWritten, with_room}
use Rattle.model.proofs.Theorems.EntryLaws.{written_start}
use Rattle.writing.specs.Writing.{Writes}

-- From the first to the last, all of them are.
pub whole : {text old new : List ℕ} {at next : ℕ} → Writes old new at (take (length text - 0) (drop 0 text)) next → Writes old new at text next
whole {text} w = let all : length text - 0 ≡ length text = omega arith in rw (all, take-length text) at w

-- At the start, where there is room for all of them, later bytes stay as they were.
pub at_start : {n : ℕ} {text old new : List ℕ} {next : ℕ} → DecimalText n text → length text ≤ length old → Writes old new 0 text next → DecimalWritten n old new next
at_start {text = text} {old} form room w = with_room form room (w.written ∙ written_start old text room) (omega (arith, w.after))
