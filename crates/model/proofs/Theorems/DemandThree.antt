-- Demand 3 of the entries' definitions, for one source document by what its root holds. `Statements` says it for bytes.
use Rattle.std.specs.Prelude.{◌≡◌, List, [], ◌++◌, ℕ, suc, ◌≤◌, ◌<◌, length, drop}
use Rattle.std.proofs.Math.Path.{refl}
use Rattle.std.proofs.Common.{◌∙◌, arith}
use borrow.Author.Tests.{le-leb, lt-leb}
use Rattle.model.specs.Definitions.Basics.{Verdict, passes, fails}
use Rattle.model.specs.Definitions.Table.{table_of, kind_of}
use Rattle.model.specs.Definitions.Content.{Content, document, levels}
use Rattle.model.specs.Definitions.Conformance.{Holds}
use Rattle.model.specs.Definitions.TreeChecks.{tree_levels, max_levels}
use Rattle.model.specs.Definitions.Image.{Setting, image, image_filler}
use Rattle.model.specs.Definitions.Refusals.{sound, has, Fault, too_long, over_limit, faulty, tree, output_too_short, image_too_deep, image_too_long, fault_at, fault_unless, fits, max_length}
use Rattle.model.specs.Definitions.Entries.{judged_tree, refused, accepted, unless_faulty, untouched, written, setting_of, carry, read_within, bring_content, bring_back}
use Rattle.model.proofs.Theorems.Facts.{Valid}
use Rattle.model.proofs.Theorems.Documents.{form_accepts}
use Rattle.model.proofs.Theorems.NeverLonger.{levels_never_more, document_never_longer}
use Rattle.model.proofs.Theorems.BringingBack.{image_conforms, brought_image}
use Rattle.model.proofs.Theorems.EntryLaws.{Judges, judges_valid, levels_only, document_accepted, carry-content, bring_content_lem, written_start, content_carried, content_no_room, content_too_deep, content_too_long}

module _ (s t e : List ℕ) (j : Judges s t e) (k : Content) (h : Holds (table_of s) (kind_of (table_of s) 0) k) where
  abbrev X : Setting
  X = setting_of s t e

  abbrev carried_bytes_lem : List ℕ
  carried_bytes_lem = document 0 (image X k)

  valid : Valid X
  valid = judges_valid s t e j

  -- within the limits, image and source are both accepted: the source is never longer nor deeper
  module _ (low : suc (levels (image X k)) ≤ max_levels) (short : length carried_bytes_lem ≤ max_length) where
    source-accepted : judged_tree (table_of s) (document 0 k) ≡ sound
    source-accepted =
        let less : levels k ≤ levels (image X k) = levels_never_more X valid k h in
        let shorter : length (document 0 k) ≤ length carried_bytes_lem = document_never_longer X valid k h in
        document_accepted (table_of s) valid.source_sound.well_formed k h (omega arith) (omega arith)

    image-accepted : judged_tree (table_of t) carried_bytes_lem ≡ sound
    image-accepted = document_accepted (table_of t) valid.target_sound.well_formed (image X k) (image_conforms X valid k h) short low

    pub carries : (out : List ℕ) → length carried_bytes_lem ≤ length out
        → carry s t e (document 0 k) out ≡ record { result = accepted (length carried_bytes_lem) (image_filler X k); output = carried_bytes_lem ++ drop (length carried_bytes_lem) out }
    carries out room = carry-content s t e out k j source-accepted ∙ content_carried X out k low short room

    pub carries-not : (out : List ℕ) → length out < length carried_bytes_lem → carry s t e (document 0 k) out ≡ record { result = refused output_too_short; output = out }
    carries-not out less = carry-content s t e out k j source-accepted ∙ content_no_room X out k low short less

    pub brings : (out : List ℕ) → length (document 0 k) ≤ length out
        → bring_back s t e carried_bytes_lem out ≡ record { result = accepted (length (document 0 k)) 0; output = document 0 k ++ drop (length (document 0 k)) out }
    unfolding bring_content read_within written
    brings out room =
        bring_content_lem s t e out (image X k) j image-accepted
        ∙ rw (brought_image X valid k h, le-leb _ _ room, written_start out (document 0 k) room)

    pub brings-not : (out : List ℕ) → length out < length (document 0 k) → bring_back s t e carried_bytes_lem out ≡ record { result = refused output_too_short; output = out }
    unfolding bring_content read_within untouched
    brings-not out less = bring_content_lem s t e out (image X k) j image-accepted ∙ rw (brought_image X valid k h, lt-leb _ _ less)

  -- ---- beyond the limits

  -- a tree that is not accepted is refused for its fault
  carry_faulty : (out : List ℕ) (f : Fault) → judged_tree (table_of s) (document 0 k) ≡ has f → carry s t e (document 0 k) out ≡ untouched out (faulty tree f)
  unfolding carry unless_faulty
  carry_faulty out f g = rw (j.source_sound, j.target_sound, j.embedding_sound, g)

  -- the source is too long
  pub source_too_long : (out : List ℕ) → max_length < length (document 0 k) → carry s t e (document 0 k) out ≡ untouched out (faulty tree too_long)
  unfolding judged_tree fault_unless fits
  source_too_long out long = carry_faulty out too_long (rw (lt-leb _ _ long))

  module _ (short : length (document 0 k) ≤ max_length) where
    -- it has too many levels: the check of levels says where
    pub source-too-deep : (out : List ℕ) → max_levels < suc (levels k)
        → (at : ℕ) × (tree_levels (document 0 k) ≡ fails at) × (carry s t e (document 0 k) out ≡ untouched out (faulty tree (over_limit at)))
    unfolding judged_tree fault_unless fault_at fits
    source-too-deep out high = go (tree_levels (document 0 k)) refl
      where
        go : (v : Verdict) → tree_levels (document 0 k) ≡ v
            → (at : ℕ) × (tree_levels (document 0 k) ≡ fails at) × (carry s t e (document 0 k) out ≡ untouched out (faulty tree (over_limit at)))
        go passes g = absurd (omega (arith, levels_only 0 k g))
        go (fails at) g = (at, g, carry_faulty out (over_limit at) (rw (le-leb _ _ short, form_accepts 0 k, g)))

    -- neither, and the image has a level too many
    pub image-too-many-levels : (out : List ℕ) → suc (levels k) ≤ max_levels → max_levels < suc (levels (image X k)) → carry s t e (document 0 k) out ≡ untouched out image_too_deep
    unfolding untouched
    image-too-many-levels out low high =
        carry-content s t e out k j (document_accepted (table_of s) valid.source_sound.well_formed k h short low) ∙ content_too_deep X out k high

    -- the image has no level too many, but a byte
    pub image-too-many-bytes : (out : List ℕ) → suc (levels (image X k)) ≤ max_levels → max_length < length carried_bytes_lem → carry s t e (document 0 k) out ≡ untouched out image_too_long
    unfolding untouched
    image-too-many-bytes out low long =
        let less : levels k ≤ levels (image X k) = levels_never_more X valid k h in
        carry-content s t e out k j (document_accepted (table_of s) valid.source_sound.well_formed k h short (omega arith)) ∙ content_too_long X out k low long
