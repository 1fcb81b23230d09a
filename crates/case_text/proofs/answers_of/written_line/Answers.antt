-- `written_line` meets its contract: the word, the numbers, a blank, the document and the end are written.
use mathlib.Core.Path.{◌≡◌, sym}
use mathlib.Core.List.{[], ◌∷◌}
use Prim.Native.Nat.{◌+◌, ◌<◌}
use native.Mathlib.Omega.{arith}
use lib.ListN.{length, take, set, length-set}
use lib.Seq.{length-take-le}
use borrow.Author.Rules.{rules}
use Rattle.case_text.specs.Hexadecimal.{DocumentLine}
use Rattle.case_text.proofs.DocumentLines.{document_line}
use Rattle.case_text.proofs.answers_of.written_line.Goals as goal
use Rattle.case_text.proofs.answers_of.written_line.Goals.{After-put_hex-end}

-- where the document has been written
made : (c : After-put_hex-end) →
    (c.put_hex-end.result < length c.put_hex-end.new.line) × (length c.put_hex-end.new.line ≡ length c.args.line.now)
    × DocumentLine (c.args.a.value ∷ c.args.a.filler ∷ []) c.args.document.now (take (c.put_hex-end.result + 1) (set c.put_hex-end.new.line c.put_hex-end.result 0x0A))
made c =
    document_line (c.args.a.value ∷ c.args.a.filler ∷ []) c.args.document.now _ _ _ c.copy-word.ensures _ _ c.put_numbers-behind.ensures (omega (arith, c.requires)) _ _ c.put_hex-end.ensures

pub bounds-line-end : goal.bounds-line-end
bounds-line-end c = (made (goal.at.bounds-line-end c).After-put_hex-end).0

pub overflow_add-n : goal.overflow_add-n
overflow_add-n c =
    let m = made (goal.at.overflow_add-n c).After-put_hex-end in
    search (rules, m.0, m.1)

pub slice_bounds-result-end : goal.slice_bounds-result-end
slice_bounds-result-end c =
    let m = made (goal.at.slice_bounds-result-end c).After-put_hex-end in
    sym (length-take-le _ _ (omega (arith, m.0, length-set c.put_hex-end.new.line c.put_hex-end.result 0x0A)))

pub returns : goal.returns
returns c = (made (goal.at.returns c).After-put_hex-end).2
