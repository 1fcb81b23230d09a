-- From what was read to the model's answer.
use mathlib.Core.Path.{◌≡◌, refl, sym, ap, ap₂, ◌∙◌}
use mathlib.Core.List.{List}
use mathlib.Core.Option.{some}
use Prim.Native.Nat.{ℕ, ◌+◌, ◌-◌, ◌≤◌, ◌<◌, min}
use native.Mathlib.Nat.{zero-add}
use native.Mathlib.Omega.{arith}
use lib.ListN.{length, take}
use lib.Seq.{take_all}
use borrow.Author.Tests.{le-leb, lt-leb}
use Rattle.model.specs.Definitions.Content.{Content, end, char, elem, bytes, content_of, document, elements}
use Rattle.model.specs.Definitions.Image.{Setting, image_by}
use Rattle.model.specs.Definitions.Inverse.{located, yields, missing, read_to, reading, read_back}
use Rattle.model.specs.Definitions.LeftOut.{left_out_of}
use Rattle.model.specs.Definitions.Entries.{accepted, Outcome, untouched, written, read_within, read_content}
use Rattle.model.proofs.Theorems.Facts.{Valid}
use Rattle.model.proofs.Theorems.Measures.{size, size_elem, document-length}
use Rattle.model.proofs.Theorems.ReadsPlain.{read_content_lem}
use Rattle.model.proofs.Theorems.WithoutFiller.{built_of}
use Rattle.model.proofs.Theorems.ReadingAlong.{read_counts, read_no_longer}
use Rattle.writing.specs.Writing.{Writes}
use Rattle.loaded_setting.specs.Trees.{SoundTree}
use Rattle.std.specs.Prelude.{Some, None, Result, Ok, Err}
use Rattle.answers.specs.declared.Refusal.{Refusal}
use Rattle.answers.specs.declared.Refusal.TheVariants.{Unreadable, OutputTooShort}
use Rattle.answers.specs.declared.Written.{Written}
use Rattle.answers.specs.Answers.{written_result}
use Rattle.unreadable.specs.Losing.{Loses}
use Rattle.inverse.specs.Sources.{ReadFrom, content_is}
use Rattle.reading_along.specs.Along.{Reads}

-- ---- the number of elements

size_char : (c : ℕ) (r : Content) → size (char c r) ≡ 2 + size r
unfolding bytes
size_char c r = omega arith

-- each element has bytes of its own
elements-size : (k : Content) → elements k ≤ size k
unfolding elements
elements-size end = omega arith
elements-size (char c r) = omega (arith, size_char c r, elements-size r)
elements-size (elem t k r) = omega (arith, size_elem t k r, elements-size k, elements-size r)

-- ---- the model's answer

module _ (X : Setting) (tr old : List ℕ) where
  -- an outcome that is the model's gives answer and output
  outcome : (new : List ℕ) (r : Result Written Refusal) {o : Outcome} → read_content old X (content_of tr) (reading X (content_of tr)) ≡ o → written_result r ≡ o.result → new ≡ o.output → Reads X tr old new r
  outcome new r is answer output =
      record { same_answer = answer ∙ sym (ap (λ (o : Outcome). o.result) is); same_output = output ∙ sym (ap (λ (o : Outcome). o.output) is) }

  -- reading fails
  pub not_read : (at : ℕ) → reading X (content_of tr) ≡ missing at → Reads X tr old old (Err (Unreadable at))
  unfolding read_content untouched
  not_read at e = outcome old (Err (Unreadable at)) (ap (read_content old X (content_of tr)) e) refl refl

-- ---- from what was read

module _ (X : Setting) (valid : Valid X) {tr : List ℕ} (t : SoundTree X.target tr) where
  -- the model's reading is the one with as many levels as the document has bytes
  whole_reading : read_to X (length tr) 0 (located 2 (content_of tr)) ≡ reading X (content_of tr)
  unfolding reading
  whole_reading = ap (λ (n : ℕ). read_to X n 0 (located 2 (content_of tr))) (ap length t.form)

  -- a search that finds where it fails, where it does
  pub found_missing : {at : ℕ} → Loses (Some at) (read_to X (length tr) 0 (located 2 (content_of tr))) → reading X (content_of tr) ≡ missing at
  found_missing lost-there = sym whole_reading ∙ lost-there

  pub found_nowhere : {P : Type 0} → ((j : Content) → reading X (content_of tr) ≡ yields j → ⊥) → Loses None (read_to X (length tr) 0 (located 2 (content_of tr))) → P
  found_nowhere fails read = absurd (fails read.0 (sym whole_reading ∙ read.1))

  -- Where nothing is read, or nothing that fits a buffer of the given document's length, reading fails: what it yields is not longer than
  -- the given document.
  pub nothing_read : {most : ℕ} → length tr ≤ most → ((j : Content) → read_back X (content_of tr) ≡ some j → most < length (document 0 j)) → (j : Content) → reading X (content_of tr) ≡ yields j → ⊥
  unfolding read_back
  nothing_read enough far j e =
      omega (arith, far j ((read_content_lem (reading X (content_of tr)) j).0 e), read_no_longer X valid (content_of tr) j t.holds e, ap length t.form, enough)

  module _ {source : List ℕ} (r : ReadFrom X tr source) where
    yielded : reading X (content_of tr) ≡ yields r.content
    unfolding read_back
    yielded = (read_content_lem (reading X (content_of tr)) r.content).1 r.is

    -- it doesn't fit
    pub source-no-room : (old : List ℕ) → length old < length source → Reads X tr old old (Err OutputTooShort)
    unfolding read_content read_within untouched
    source-no-room old less =
        let long : length old < length (document 0 r.content) = rw (← r.bytes_are) less in
        outcome X tr old old (Err OutputTooShort) (rw (yielded, lt-leb _ _ long) refl) refl refl

    -- the elements that paths build are counted, and the others are left out
    module _ {count built : ℕ} (counted : count ≡ 1 + elements (content_of tr)) (is : built ≡ min 60001 (image_by built_of X (content_of source))) where
      exact : built ≡ image_by built_of X r.content
      exact =
          let all = read_counts X valid (content_of tr) r.content t.holds yielded in
          let few : image_by built_of X r.content ≤ 60000 =
          omega (arith, all.built_within, elements-size (content_of tr), document-length 0 (content_of tr), ap length t.form, t.short) in
          is ∙ ap (λ (k : Content). min 60001 (image_by built_of X k)) (content_is X valid t r) ∙ omega (arith, few)

      pub built-less : built < count
      built-less = omega (arith, counted, exact, (read_counts X valid (content_of tr) r.content t.holds yielded).built_within)

      rest-is : {rest : ℕ} → 1 + built + rest ≡ count → rest ≡ left_out_of X r.content (content_of tr)
      rest-is whole = omega (arith, whole, counted, exact, (read_counts X valid (content_of tr) r.content t.holds yielded).built_and_left_out)

      -- it is copied
      pub source-copied : {old new : List ℕ} {n rest : ℕ} → 1 + built + rest ≡ count → length source ≤ length old → Writes old new 0 (take (length source - 0) source) n → Reads X tr old new (Ok (record { length = n; filler = rest }))
      unfolding read_content read_within written
      source-copied {old} {new} {n} {rest} whole_count room done =
          let whole : take (length source - 0) source ≡ document 0 r.content = take_all (length source - 0) source (omega arith) ∙ r.bytes_are in
          let copied : Writes old new 0 (document 0 r.content) n = rw whole at done in
          let fits : length (document 0 r.content) ≤ length old = rw (← r.bytes_are) room in
          outcome X tr old new (Ok (record { length = n; filler = rest })) {o = written old (document 0 r.content) (left_out_of X r.content (content_of tr))}
          (rw (yielded, le-leb _ _ fits) refl) (ap₂ accepted (copied.after ∙ zero-add _) (rest-is whole_count)) copied.written
