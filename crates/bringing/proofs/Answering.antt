-- From what was read back to the model's answer.
use mathlib.Core.Path.{◌≡◌, refl, sym, ap, ◌∙◌}
use mathlib.Core.List.{List}
use mathlib.Core.Option.{Option, none, some}
use Prim.Native.Nat.{ℕ, ◌-◌, ◌≤◌, ◌<◌}
use native.Mathlib.Nat.{zero-add}
use native.Mathlib.Omega.{arith}
use lib.ListN.{length, take, length-take}
use lib.Seq.{take_all}
use borrow.Author.Tests.{le-leb, lt-leb}
use Rattle.model.specs.Definitions.Content.{Content, content_of, document}
use Rattle.model.specs.Definitions.Image.{Setting, image}
use Rattle.model.specs.Definitions.Inverse.{read_back, bring_back_content}
use Rattle.model.specs.Definitions.Entries.{accepted, Outcome, untouched, written, read_within, bring_content}
use Rattle.model.proofs.Theorems.Facts.{Valid}
use Rattle.model.proofs.Theorems.Documents.{document_injective}
use Rattle.model.proofs.Theorems.NeverLonger.{document_never_longer}
use Rattle.model.proofs.Theorems.BringingBack as model
use Rattle.model.proofs.Theorems.BringingBack.{read_image, brought_exactly, nothing_exactly}
use Rattle.writing.specs.Writing.{Writes}
use Rattle.inverse.specs.Reading.{BringsTo}
use Rattle.inverse.specs.Sources.{ReadFrom, conforms, content_is}
use Rattle.loaded_setting.specs.Trees.{SoundTree}
use Rattle.std.specs.Prelude.{Result, Ok, Err}
use Rattle.answers.specs.declared.Refusal.{Refusal}
use Rattle.answers.specs.declared.Refusal.TheVariants.{NoImage, OutputTooShort}
use Rattle.answers.specs.Answers.{counted_result}
use Rattle.bringing.specs.Bringing.{Brings}

-- the spans of what was read fit where those of the buffer do
pub spans_room : {old new : List ℕ} {n room room' : ℕ} {sought : Option Content} → BringsTo old new n sought → length old ≤ room → room' ≡ room → length (take n new) ≤ room'
spans_room {new = new} {n = n} b enough same = omega (arith, b.fits, length-take n new)

-- ---- the model's answer for what bringing back finds

module _ (X : Setting) (tr old : List ℕ) where
  -- an outcome that is the model's gives answer and output
  outcome : (new : List ℕ) (b : Result ℕ Refusal) {o : Outcome} → bring_content old (bring_back_content X (content_of tr)) ≡ o → counted_result b ≡ o.result → new ≡ o.output → Brings X tr old new b
  outcome new b is answer output =
      record { same_answer = answer ∙ sym (ap (λ (o : Outcome). o.result) is); same_output = output ∙ sym (ap (λ (o : Outcome). o.output) is) }

  -- there is no source
  no_image : bring_back_content X (content_of tr) ≡ none → Brings X tr old old (Err NoImage)
  unfolding bring_content untouched
  no_image e = outcome old (Err NoImage) (ap (bring_content old) e) refl refl

  module _ (k : Content) (found : bring_back_content X (content_of tr) ≡ some k) where
    -- there is no room for it
    no_room : length old < length (document 0 k) → Brings X tr old old (Err OutputTooShort)
    unfolding bring_content read_within untouched
    no_room less = outcome old (Err OutputTooShort) (rw (found, lt-leb _ _ less) refl) refl refl

    -- it is written
    brings : (new : List ℕ) (n : ℕ) → length (document 0 k) ≤ length old → Writes old new 0 (document 0 k) n → Brings X tr old new (Ok n)
    unfolding bring_content read_within written
    brings new n room done = outcome new (Ok n) {o = written old (document 0 k) 0} (rw (found, le-leb _ _ room) refl) (ap (λ (m : ℕ). accepted m 0) (done.after ∙ zero-add _)) done.written

-- ---- from what was read

module _ (X : Setting) (valid : Valid X) {tr : List ℕ} (t : SoundTree X.target tr) where
  abbrev given : Content
  given = content_of tr

  -- a document with this image is found by reading
  read_it : (k : Content) → model.Source X valid k → image X k ≡ given → read_back X given ≡ some k
  read_it k h e = rw (← e) (read_image X valid k h)

  -- Where nothing is read, or nothing that fits a buffer of the given document's length, there is no source: it would be read,
  -- and would not be longer than the given document.
  pub nothing_read : (old : List ℕ) {most : ℕ} → length tr ≤ most → ((k : Content) → read_back X given ≡ some k → most < length (document 0 k)) → Brings X tr old old (Err NoImage)
  nothing_read old enough far =
      no_image X tr old
      ((nothing_exactly X valid given).1
      λ k h e. omega (arith, far k (read_it k h e), document_never_longer X valid k h, ap (λ (l : Content). length (document 0 l)) e, ap length t.form, enough))

  -- the source document that was read
  module _ {source : List ℕ} (r : ReadFrom X tr source) where
    -- so its image is the image of what was read
    image-is : document 0 (image X (content_of source)) ≡ document 0 (image X r.content)
    image-is = rw (content_is X valid t r) refl

    -- the given document is not its image: a source would have been read, so there is none
    pub other-image : (old : List ℕ) → (document 0 (image X (content_of source)) ≡ tr → ⊥) → Brings X tr old old (Err NoImage)
    other-image old apart =
        no_image X tr old
        ((nothing_exactly X valid given).1
        λ k h e. apart (image-is ∙ ap (document 0) (ap (image X) (same r.is (read_it k h e)) ∙ e) ∙ sym t.form))
      where
        same : {o : Option Content} {j k : Content} → o ≡ some j → o ≡ some k → j ≡ k
        same p q = cc

    module _ (old : List ℕ) (is-image : document 0 (image X (content_of source)) ≡ tr) where
      -- the given document is its image: bringing back finds it
      found : bring_back_content X given ≡ some r.content
      found =
          (brought_exactly X valid given r.content).1
          (conforms X valid t r, (document_injective 0 0 (image X r.content) given (sym image-is ∙ is-image ∙ t.form)).1)

      -- it doesn't fit
      pub source-no-room : length old < length source → Brings X tr old old (Err OutputTooShort)
      source-no-room less = no_room X tr old r.content found (rw (← r.bytes_are) less)

      -- it is copied
      pub source-copied : {new : List ℕ} {n : ℕ} → length source ≤ length old → Writes old new 0 (take (length source - 0) source) n → Brings X tr old new (Ok n)
      source-copied {new} {n} room done =
          let whole : take (length source - 0) source ≡ document 0 r.content = take_all (length source - 0) source (omega arith) ∙ r.bytes_are in
          brings X tr old r.content found new n (rw (← r.bytes_are) room) (rw whole at done)
