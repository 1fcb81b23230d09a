-- What is proved of contents, said of documents as bytes, for `Statements`.
use Rattle.std.specs.Prelude.{◌≡◌, refl, ◌↔◌, Bool, true, false, ℕ, suc, ◌≤◌, ◌<◌, length, drop, leb}
use Rattle.std.proofs.Common.{sym, ap, ◌∙◌, arith}
use Rattle.std.proofs.Math.Path.{subst}
use mathlib.Core.List.{List, [], ◌++◌}
use Rattle.std.proofs.Math.Option.{Option, none, some}
use Rattle.model.specs.Definitions.Basics.{fails}
use Rattle.model.specs.Definitions.Table.{Table, kind_of, table_of}
use Rattle.model.specs.Definitions.Content.{Content, document, content_of, levels}
use Rattle.model.specs.Definitions.Conformance.{Holds, Conforming}
use Rattle.model.specs.Definitions.TreeChecks.{tree_levels, max_levels}
use Rattle.model.specs.Definitions.Image.{Setting, image}
use Rattle.model.specs.Definitions.Inverse.{read_back, bring_back_content}
use Rattle.model.specs.Definitions.SingleItems.{single_items}
use Rattle.model.specs.Definitions.Refusals.{Judged, sound, has, Fault, Document, Refusal, source_table, target_table, embedding, tree, too_long, over_limit, faulty, no_image, image_too_deep, image_too_long, output_too_short, max_length}
use Rattle.model.specs.Definitions.Entries.{judged_table, judged_embedding, judged_tree, Outcome, accepted, refused, untouched, written, unless_faulty, setting_of, carry, bring_within, read_within, bring_content, bring_back}
use Rattle.model.proofs.Theorems.Facts.{Valid}
use Rattle.model.proofs.Theorems.Tools.{some_none}
use Rattle.model.proofs.Theorems.Terms.{AcceptedEmbedding, AcceptedTree, image_of, filler_of, levels_in, NoSource}
use Rattle.model.proofs.Theorems.JudgedTables.{tree_checks, table_sound}
use Rattle.model.proofs.Theorems.Documents.{document_injective, content_of_document, accepted_content}
use Rattle.model.proofs.Theorems.SingleItems.{image_single}
use Rattle.model.proofs.Theorems.NeverLonger.{levels_never_more, document_never_longer}
use Rattle.model.proofs.Theorems.BringingBack.{image_conforms, read_image, image_injective, brought_image, brought_source, nothing_exactly}
use Rattle.model.proofs.Theorems.EntryLaws.{Judges, judges_accept, judges_valid, judges_are_all, tree_judged, tree_is_accepted, accepted_refused}
use Rattle.model.proofs.Theorems.DemandThree.{carries, carries-not, brings, brings-not, source_too_long, source-too-deep, image-too-many-levels, image-too-many-bytes}

-- a conforming document and what its root holds
pub conforming_content : {S : Table} {d : List ℕ} → Conforming S d → (d ≡ document 0 (content_of d)) × Holds S (kind_of S 0) (content_of d)
unfolding Conforming
conforming_content {S} {d} c =
    let k : Content = c.0 in
    let is : content_of d ≡ k = ap content_of c.1 ∙ content_of_document 0 k in
    (c.1 ∙ ap (document 0) (sym is), subst (λ (j : Content). Holds S (kind_of S 0) j) (sym is) c.2)

pub content_conforming : {S : Table} (k : Content) → Holds S (kind_of S 0) k → Conforming S (document 0 k)
unfolding Conforming
content_conforming k h = (k, refl, h)

-- an accepted tree and what its root holds
pub accepted_tree : (t d : List ℕ) → AcceptedTree t d → (d ≡ document 0 (content_of d)) × Holds (table_of t) (kind_of (table_of t) 0) (content_of d)
accepted_tree t d a =
    let checks = tree_checks (table_of t) d (tree_judged t d a.1).1 in
    accepted_content (table_of t) (table_sound t (tree_judged t d a.1).0).well_formed d checks.form checks.operands checks.expected

-- what bring back answers about a content
none_answer : (out : List ℕ) (o : Option Content) → ((bring_content out o).result ≡ refused no_image) ↔ (o ≡ none)
unfolding bring_content read_within untouched written
none_answer out none = (λ e. refl, λ e. refl)
none_answer out (some k) = (λ e. absurd (go (leb (length (document 0 k)) (length out)) e), λ e. some_none refl e)
  where
    go : (b : Bool) → (bring_within out (document 0 k) b).result ≡ refused no_image → ⊥
    go true e = let z : ◌≡◌ {A = ℕ} 0 1 = cc in omega arith
    go false e = let z : ◌≡◌ {A = ℕ} 0 1 = cc in omega arith

module _ (s t e : List ℕ) (a : AcceptedEmbedding s t e) where
  abbrev X : Setting
  X = setting_of s t e

  pub judges : Judges s t e
  judges = judges_accept s t e a.1

  pub valid : Valid X
  valid = judges_valid s t e judges

  image_of_content : (k : Content) → image_of s t e (document 0 k) ≡ document 0 (image X k)
  image_of_content k = ap (λ (j : Content). document 0 (image X j)) (content_of_document 0 k)

  pub conform : (d : List ℕ) → Conforming (table_of s) d → Conforming (table_of t) (image_of s t e d)
  conform d c = content_conforming (image X (content_of d)) (image_conforms X valid (content_of d) (conforming_content c).1)

  pub equal_exactly : (d f : List ℕ) → Conforming (table_of s) d → Conforming (table_of s) f → (image_of s t e d ≡ image_of s t e f) ↔ (d ≡ f)
  equal_exactly d f c b = (
    λ same.
        (conforming_content c).0
        ∙ ap (document 0) (image_injective X valid (content_of d) (content_of f) (conforming_content c).1 (conforming_content b).1 (document_injective 0 0 _ _ same).1)
        ∙ sym (conforming_content b).0,
    λ same. ap (image_of s t e) same,
  )

  pub read_gives_back : (d : List ℕ) → Conforming (table_of s) d → read_back X (content_of (image_of s t e d)) ≡ some (content_of d)
  read_gives_back d c = rw (content_of_document 0 (image X (content_of d))) (read_image X valid (content_of d) (conforming_content c).1)

  pub single_on_paths : (d : List ℕ) → Conforming (table_of s) d → single_items X (content_of d) (content_of (image_of s t e d)) ≡ true
  single_on_paths d c = rw (content_of_document 0 (image X (content_of d))) (image_single X valid (content_of d) (conforming_content c).1)

  pub shorter : (d : List ℕ) → Conforming (table_of s) d → (length d ≤ length (image_of s t e d)) × (levels_in d ≤ levels_in (image_of s t e d))
  shorter d c =
      let held = (conforming_content c).1 in
      let bytes-fewer : length (document 0 (content_of d)) ≤ length (image_of s t e d) = document_never_longer X valid (content_of d) held in
      let levels-fewer : levels (content_of d) ≤ levels (image X (content_of d)) = levels_never_more X valid (content_of d) held in (
        subst (λ (b : List ℕ). length b ≤ length (image_of s t e d)) (sym (conforming_content c).0) bytes-fewer,
        rw (content_of_document 0 (image X (content_of d))) (omega arith),
      )

  -- ---- bring back

  module _ (tr : List ℕ) (b : AcceptedTree t tr) where
    bring-tree : (out : List ℕ) → bring_back s t e tr out ≡ bring_content out (bring_back_content X (content_of tr))
    unfolding bring_back unless_faulty
    bring-tree out = rw (judges.source_sound, judges.target_sound, judges.embedding_sound, (tree_judged t tr b.1).1)

    -- a document with this image has it as its content's image
    pub same-content : (d : List ℕ) → image_of s t e d ≡ tr → image X (content_of d) ≡ content_of tr
    same-content d is = (document_injective 0 0 (image X (content_of d)) (content_of tr) (is ∙ (accepted_tree t tr b).0)).1

    no_source : (out : List ℕ) → ((bring_back s t e tr out).result ≡ refused no_image) ↔ NoSource s t e tr
    no_source out = (
      λ h d c is.
          (nothing_exactly X valid (content_of tr)).0 ((none_answer out (bring_back_content X (content_of tr))).0 (sym (ap (λ (o : Outcome). o.result) (bring-tree out)) ∙ h))
          (content_of d) (conforming_content c).1 (same-content d is),
      λ none_has.
          ap (λ (o : Outcome). o.result) (bring-tree out)
          ∙ (none_answer out (bring_back_content X (content_of tr))).1
          ((nothing_exactly X valid (content_of tr)).1 (λ k h is. none_has (document 0 k) (content_conforming k h) (image_of_content k ∙ ap (document 0) is ∙ sym (accepted_tree t tr b).0))),
    )

    pub brought : (out d : List ℕ) → Conforming (table_of s) d → image_of s t e d ≡ tr → bring_back s t e tr out ≡ bring_within out d (leb (length d) (length out))
    unfolding bring_content
    brought out d c is =
        let found : bring_back_content X (content_of tr) ≡ some (content_of d) = subst (λ (j : Content). bring_back_content X j ≡ some (content_of d)) (same-content d is) (brought_image X valid (content_of d) (conforming_content c).1) in
        bring-tree out ∙ rw found (subst (λ (f : List ℕ). bring_within out f (leb (length f) (length out)) ≡ bring_within out d (leb (length d) (length out))) (conforming_content c).0 refl)

    -- whatever bring back writes is a conforming document with this image
    pub brought-only : (out : List ℕ) (n f : ℕ) → (bring_back s t e tr out).result ≡ accepted n f
        → (d : List ℕ) × Conforming (table_of s) d × (image_of s t e d ≡ tr) × (bring_back s t e tr out ≡ bring_within out d (leb (length d) (length out)))
    brought-only out n f h = go (bring_back_content X (content_of tr)) refl (sym (ap (λ (o : Outcome). o.result) (bring-tree out)) ∙ h)
      where
        go : (o : Option Content) → bring_back_content X (content_of tr) ≡ o → (bring_content out (bring_back_content X (content_of tr))).result ≡ accepted n f
            → (d : List ℕ) × Conforming (table_of s) d × (image_of s t e d ≡ tr) × (bring_back s t e tr out ≡ bring_within out d (leb (length d) (length out)))
        go none g r = accepted_refused r ((none_answer out (bring_back_content X (content_of tr))).1 g)
        go (some k) g r =
            let found = brought_source X valid (content_of tr) k g in
            let c : Conforming (table_of s) (document 0 k) = content_conforming k found.0 in
            let is : image_of s t e (document 0 k) ≡ tr = image_of_content k ∙ ap (document 0) found.1 ∙ sym (accepted_tree t tr b).0 in
            (document 0 k, c, is, brought out (document 0 k) c is)

  -- ---- carry

  module _ (d : List ℕ) (c : Conforming (table_of s) d) where
    is_document : document 0 (content_of d) ≡ d
    is_document = sym (conforming_content c).0

    image-levels-in : levels_in (image_of s t e d) ≡ suc (levels (image X (content_of d)))
    image-levels-in = ap (λ (k : Content). suc (levels k)) (content_of_document 0 (image X (content_of d)))

    module _ (low : levels_in (image_of s t e d) ≤ max_levels) (short : length (image_of s t e d) ≤ max_length) where
      low-image : suc (levels (image X (content_of d))) ≤ max_levels
      low-image = subst (λ (n : ℕ). n ≤ max_levels) image-levels-in low

      pub carried : (out : List ℕ) → length (image_of s t e d) ≤ length out
          → carry s t e d out ≡ record { result = accepted (length (image_of s t e d)) (filler_of s t e d); output = image_of s t e d ++ drop (length (image_of s t e d)) out }
      carried out room =
          subst (λ (b : List ℕ). carry s t e b out ≡ record { result = accepted (length (image_of s t e d)) (filler_of s t e d); output = image_of s t e d ++ drop (length (image_of s t e d)) out }) is_document
          (carries s t e judges (content_of d) (conforming_content c).1 low-image short out room)

      pub not_carried : (out : List ℕ) → length out < length (image_of s t e d) → carry s t e d out ≡ record { result = refused output_too_short; output = out }
      not_carried out less =
          subst (λ (b : List ℕ). carry s t e b out ≡ record { result = refused output_too_short; output = out }) is_document
          (carries-not s t e judges (content_of d) (conforming_content c).1 low-image short out less)

      pub brought_back : (out : List ℕ) → length d ≤ length out → bring_back s t e (image_of s t e d) out ≡ record { result = accepted (length d) 0; output = d ++ drop (length d) out }
      brought_back out room =
          subst (λ (b : List ℕ). bring_back s t e (image_of s t e d) out ≡ record { result = accepted (length b) 0; output = b ++ drop (length b) out }) is_document
          (brings s t e judges (content_of d) (conforming_content c).1 low-image short out (subst (λ (b : List ℕ). length b ≤ length out) (sym is_document) room))

      pub not-brought-back : (out : List ℕ) → length out < length d → bring_back s t e (image_of s t e d) out ≡ record { result = refused output_too_short; output = out }
      not-brought-back out less =
          brings-not s t e judges (content_of d) (conforming_content c).1 low-image short out (subst (λ (b : List ℕ). length out < length b) (sym is_document) less)

    -- beyond the limits, of the source or only of its image
    pub beyond-source-bytes : (out : List ℕ) → max_length < length d → carry s t e d out ≡ untouched out (faulty tree too_long)
    beyond-source-bytes out long =
        subst (λ (b : List ℕ). max_length < length b → carry s t e b out ≡ untouched out (faulty tree too_long)) is_document
        (source_too_long s t e judges (content_of d) (conforming_content c).1 out) long

    pub beyond-source-levels : (out : List ℕ) → length d ≤ max_length → max_levels < levels_in d
        → (at : ℕ) × (tree_levels d ≡ fails at) × (carry s t e d out ≡ untouched out (faulty tree (over_limit at)))
    beyond-source-levels out short high =
        subst (λ (b : List ℕ). length b ≤ max_length → (at : ℕ) × (tree_levels b ≡ fails at) × (carry s t e b out ≡ untouched out (faulty tree (over_limit at)))) is_document
        (λ few. source-too-deep s t e judges (content_of d) (conforming_content c).1 few out high) short

    pub beyond-image-levels : (out : List ℕ) → length d ≤ max_length → levels_in d ≤ max_levels → max_levels < levels_in (image_of s t e d)
        → carry s t e d out ≡ untouched out image_too_deep
    beyond-image-levels out short low high =
        subst (λ (b : List ℕ). length b ≤ max_length → carry s t e b out ≡ untouched out image_too_deep) is_document
        (λ few. image-too-many-levels s t e judges (content_of d) (conforming_content c).1 few out low (subst (λ (n : ℕ). max_levels < n) image-levels-in high)) short

    pub beyond-image-bytes : (out : List ℕ) → length d ≤ max_length → levels_in (image_of s t e d) ≤ max_levels → max_length < length (image_of s t e d)
        → carry s t e d out ≡ untouched out image_too_long
    beyond-image-bytes out short low long =
        subst (λ (b : List ℕ). length b ≤ max_length → carry s t e b out ≡ untouched out image_too_long) is_document
        (λ few. image-too-many-bytes s t e judges (content_of d) (conforming_content c).1 few out (subst (λ (n : ℕ). n ≤ max_levels) image-levels-in low) long) short

-- ---- 15, for any bytes

-- a refusal that is no document's fault
abbrev pub NoFault : Refusal → Type 0
NoFault why = (d : Document) (f : Fault) → faulty d f ≡ why → ⊥

-- such a refusal went past a document's judgement
past_fault : (out : List ℕ) (d : Document) (j : Judged) (later : Outcome) (why : Refusal) → NoFault why → (unless_faulty (untouched out) d j (λ u. later)).result ≡ refused why
    → (j ≡ sound) × (later.result ≡ refused why)
unfolding unless_faulty untouched
past_fault out d sound later why other e = (refl, e)
past_fault out d (has f) later why other e = absurd (other d f cc)

-- and past those of both tables, the embedding and a tree of the target table
pub past_judges : (s t e tr out : List ℕ) (last : Outcome) (why : Refusal) → NoFault why
    → (unless_faulty (untouched out) source_table (judged_table s) (λ u.
    unless_faulty (untouched out) target_table (judged_table t) λ u.
    unless_faulty (untouched out) embedding (judged_embedding (table_of s) (table_of t) e) λ u.
    unless_faulty (untouched out) tree (judged_tree (table_of t) tr) λ u. last)).result ≡ refused why
    → AcceptedEmbedding s t e × AcceptedTree t tr
past_judges s t e tr out last why other h =
    let source = past_fault out source_table (judged_table s) _ why other h in
    let target = past_fault out target_table (judged_table t) _ why other source.1 in
    let map = past_fault out embedding (judged_embedding (table_of s) (table_of t) e) _ why other target.1 in
    let read = past_fault out tree (judged_tree (table_of t) tr) _ why other map.1 in (
      judges_are_all s t e (record { source_sound = source.0; target_sound = target.0; embedding_sound = map.0 }),
      tree_is_accepted t tr target.0 read.0,
    )

pub refused_15 : (s t e tr out : List ℕ) → ((bring_back s t e tr out).result ≡ refused no_image) ↔ (AcceptedEmbedding s t e × AcceptedTree t tr × NoSource s t e tr)
unfolding bring_back
refused_15 s t e tr out = (
  λ h.
      let all = past_judges s t e tr out _ no_image (λ d f same. let z : ◌≡◌ {A = ℕ} 0 1 = cc in omega arith) h in
      (all.0, all.1, (no_source s t e all.0 tr all.1 out).0 h),
  λ all. (no_source s t e all.0 tr all.1 out).1 all.2,
)
