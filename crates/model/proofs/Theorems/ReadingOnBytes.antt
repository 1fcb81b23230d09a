-- What is proved of reading along the paths (02, N4), said of documents as bytes, for `Statements`.
use Rattle.std.specs.Prelude.{◌≡◌, Bool, true, false, List, ◌↔◌, ℕ, ◌+◌, ◌≤◌, length, leb}
use Rattle.std.proofs.Math.Path.{refl, sym}
use Rattle.std.proofs.Common.{ap, ◌∙◌, subst, arith}
use Rattle.model.specs.Definitions.Table.{table_of}
use Rattle.model.specs.Definitions.Content.{Content, document, content_of, levels, elements}
use Rattle.model.specs.Definitions.Conformance.{Conforming}
use Rattle.model.specs.Definitions.Image.{Setting, image}
use Rattle.model.specs.Definitions.Inverse.{located, Reading, yields, missing, reading}
use Rattle.model.specs.Definitions.LeftOut.{on_paths, left_out_of}
use Rattle.model.specs.Definitions.Unreadable.{FirstUnreadable}
use Rattle.model.specs.Definitions.Refusals.{unreadable}
use Rattle.model.specs.Definitions.Entries.{Outcome, accepted, refused, untouched, written, unless_faulty, setting_of, bring_within, bring_back, read_within, read_content, read_along}
use Rattle.model.proofs.Theorems.Terms.{AcceptedEmbedding, AcceptedTree, image_of, filler_of, levels_in}
use Rattle.model.proofs.Theorems.Documents.{content_of_document}
use Rattle.model.proofs.Theorems.WithoutFiller.{bare_image}
use Rattle.model.proofs.Theorems.EntryLaws.{accepted_refused, tree_judged}
use Rattle.model.proofs.Theorems.OnBytes.{conforming_content, content_conforming, accepted_tree, judges, valid, same-content, brought, past_judges}
use Rattle.model.proofs.Theorems.Unreadable.{missing_exactly}
use Rattle.model.proofs.Theorems.ReadingAlong.{kept_built, read_counts, image_read, image_left_out, yielded_conforms, read_no_longer, read_no_deeper, read_by_what_is_left}

-- ---- answers

-- 17 is answered exactly where reading fails
missing_answer : (out : List ℕ) (X : Setting) (k : Content) (r : Reading) (at : ℕ) → ((read_content out X k r).result ≡ refused (unreadable at)) ↔ (r ≡ missing at)
unfolding read_content read_within untouched written
missing_answer out X k (missing there) at = (λ e. let same : there ≡ at = cc in ap missing same, λ e. let same : there ≡ at = cc in rw same refl)
missing_answer out X k (yields j) at = (λ e. absurd (go (leb (length (document 0 j)) (length out)) e), λ e. let z : ◌≡◌ {A = ℕ} 0 1 = cc in absurd (omega arith))
  where
    go : (b : Bool) → (read_within out (document 0 j) (left_out_of X j k) b).result ≡ refused (unreadable at) → ⊥
    go true e = let z : ◌≡◌ {A = ℕ} 0 1 = cc in omega arith
    go false e = let z : ◌≡◌ {A = ℕ} 0 1 = cc in omega arith

-- what was read is written, or there is no room for it
written-answer : (out doc : List ℕ) (count n c : ℕ) (b : Bool) → (read_within out doc count b).result ≡ accepted n c
    → (read_within out doc count b ≡ read_within out doc count true) × (n ≡ length doc) × (c ≡ count)
unfolding read_within untouched written
written-answer out doc count n c true e = (refl, cc, cc)
written-answer out doc count n c false e = accepted_refused e refl

-- the output is that of bringing back
same_output : (out doc : List ℕ) (count : ℕ) (b : Bool) → (read_within out doc count b).output ≡ (bring_within out doc b).output
unfolding read_within untouched written
same_output out doc count true = refl
same_output out doc count false = refl

module _ (s t e : List ℕ) (a : AcceptedEmbedding s t e) where
  abbrev X : Setting
  X = setting_of s t e

  -- ---- conforming documents

  pub read_of_image : (d : List ℕ) → Conforming (table_of s) d
      → (reading X (content_of (image_of s t e d)) ≡ yields (content_of d)) × (left_out_of X (content_of d) (content_of (image_of s t e d)) ≡ filler_of s t e d)
  read_of_image d c =
      let held = (conforming_content c).1 in (
        rw (content_of_document 0 (image X (content_of d))) (image_read X (valid s t e a) (content_of d) held),
        rw (content_of_document 0 (image X (content_of d))) (image_left_out X (valid s t e a) (content_of d) held),
      )

  module _ (tr : List ℕ) (c : Conforming (table_of t) tr) (k : Content) (r : reading X (content_of tr) ≡ yields k) where
    pub read-conforming : Conforming (table_of s) (document 0 k) × (length (document 0 k) ≤ length tr) × (levels_in (document 0 k) ≤ levels_in tr)
    read-conforming =
        let held = (conforming_content c).1 in
        let shorter : length (document 0 k) ≤ length (document 0 (content_of tr)) = read_no_longer X (valid s t e a) (content_of tr) k held r in
        let lower : levels k ≤ levels (content_of tr) = read_no_deeper X (valid s t e a) (content_of tr) k held r in (
          content_conforming k (yielded_conforms X (valid s t e a) (content_of tr) k held r),
          subst (λ (bs : List ℕ). length (document 0 k) ≤ length bs) (sym (conforming_content c).0) shorter,
          rw (content_of_document 0 k) (omega arith),
        )

    pub left-is-bare-image : (on_paths X k (content_of tr) ≡ bare_image X k) × (elements (on_paths X k (content_of tr)) + left_out_of X k (content_of tr) ≡ elements (content_of tr))
    left-is-bare-image =
        let held = (conforming_content c).1 in
        let counts = read_counts X (valid s t e a) (content_of tr) k held r in
        (kept_built X (valid s t e a) (content_of tr) k held r, rw counts.built_left counts.built_and_left_out)

  pub told_by_what_is_left : (c d : List ℕ) → Conforming (table_of t) c → Conforming (table_of t) d → (i j : Content)
      → reading X (content_of c) ≡ yields i → reading X (content_of d) ≡ yields j → on_paths X i (content_of c) ≡ on_paths X j (content_of d) → i ≡ j
  told_by_what_is_left c d hc hd i j = read_by_what_is_left X (valid s t e a) (content_of c) (content_of d) i j (conforming_content hc).1 (conforming_content hd).1

  -- ---- accepted trees

  module _ (tr : List ℕ) (b : AcceptedTree t tr) where
    read-tree : (out : List ℕ) → read_along s t e tr out ≡ read_content out X (content_of tr) (reading X (content_of tr))
    unfolding read_along unless_faulty
    read-tree out = rw ((judges s t e a).source_sound, (judges s t e a).target_sound, (judges s t e a).embedding_sound, (tree_judged t tr b.1).1)

    read_answer : (out : List ℕ) → (read_along s t e tr out).result ≡ (read_content out X (content_of tr) (reading X (content_of tr))).result
    read_answer out = ap (λ (o : Outcome). o.result) (read-tree out)

    unreadable-exactly : (out : List ℕ) (at : ℕ) → ((read_along s t e tr out).result ≡ refused (unreadable at)) ↔ FirstUnreadable X 0 (located 2 (content_of tr)) at
    unreadable-exactly out at =
        let exactly = missing_exactly X (valid s t e a) (content_of tr) (accepted_tree t tr b).1 at in
        let answers = missing_answer out X (content_of tr) (reading X (content_of tr)) at in
        (λ h. exactly.0 (answers.0 (sym (read_answer out) ∙ h)), λ first. read_answer out ∙ answers.1 (exactly.1 first))

    -- an image is read as its source, with its filler counted
    read-as-source : (out d : List ℕ) → Conforming (table_of s) d → image_of s t e d ≡ tr
        → read_along s t e tr out ≡ read_within out d (filler_of s t e d) (leb (length d) (length out))
    unfolding read_content
    read-as-source out d c is =
        let held = (conforming_content c).1 in
        let content_is : content_of tr ≡ image X (content_of d) = sym (same-content s t e a tr b d is) in
        let doc-is : document 0 (content_of d) ≡ d = sym (conforming_content c).0 in
        read-tree out ∙ rw (content_is, image_read X (valid s t e a) (content_of d) held, image_left_out X (valid s t e a) (content_of d) held, doc-is) refl

    pub read-like-brought : (out d : List ℕ) → Conforming (table_of s) d → image_of s t e d ≡ tr
        → (read_along s t e tr out ≡ read_within out d (filler_of s t e d) (leb (length d) (length out))) × ((read_along s t e tr out).output ≡ (bring_back s t e tr out).output)
    read-like-brought out d c is =
        let reads = read-as-source out d c is in (
          reads,
          ap (λ (o : Outcome). o.output) reads ∙ same_output out d (filler_of s t e d) (leb (length d) (length out)) ∙ sym (ap (λ (o : Outcome). o.output) (brought s t e a tr b out d c is)),
        )

    -- whatever reading writes is what it yields
    pub read_only : (out : List ℕ) (n c : ℕ) → (read_along s t e tr out).result ≡ accepted n c
        → (k : Content) × (reading X (content_of tr) ≡ yields k) × (read_along s t e tr out ≡ read_within out (document 0 k) (left_out_of X k (content_of tr)) true)
        × (n ≡ length (document 0 k)) × (c ≡ left_out_of X k (content_of tr))
    read_only out n c h = go (reading X (content_of tr)) refl (sym (read_answer out) ∙ h)
      where
        go : (r : Reading) → reading X (content_of tr) ≡ r → (read_content out X (content_of tr) (reading X (content_of tr))).result ≡ accepted n c
            → (k : Content) × (reading X (content_of tr) ≡ yields k) × (read_along s t e tr out ≡ read_within out (document 0 k) (left_out_of X k (content_of tr)) true)
            × (n ≡ length (document 0 k)) × (c ≡ left_out_of X k (content_of tr))
        go (missing at) g answer = accepted_refused answer ((missing_answer out X (content_of tr) (reading X (content_of tr)) at).1 g)
        go (yields k) g answer =
            let is : read_content out X (content_of tr) (reading X (content_of tr)) ≡ read_within out (document 0 k) (left_out_of X k (content_of tr)) (leb (length (document 0 k)) (length out)) = unfold read_content in rw g refl in
            let found = written-answer out (document 0 k) (left_out_of X k (content_of tr)) n c (leb (length (document 0 k)) (length out)) (sym (ap (λ (o : Outcome). o.result) is) ∙ answer) in
            (k, g, read-tree out ∙ is ∙ found.0, found.1, found.2)

-- ---- 17, for any bytes

pub refused_17 : (s t e tr out : List ℕ) (at : ℕ)
    → ((read_along s t e tr out).result ≡ refused (unreadable at)) ↔ (AcceptedEmbedding s t e × AcceptedTree t tr × FirstUnreadable (setting_of s t e) 0 (located 2 (content_of tr)) at)
unfolding read_along
refused_17 s t e tr out at = (
  λ h.
      let all = past_judges s t e tr out _ (unreadable at) (λ d f same. let z : ◌≡◌ {A = ℕ} 0 1 = cc in omega arith) h in
      (all.0, all.1, (unreadable-exactly s t e all.0 tr all.1 out at).0 h),
  λ all. (unreadable-exactly s t e all.0 tr all.1 out at).1 all.2,
)
