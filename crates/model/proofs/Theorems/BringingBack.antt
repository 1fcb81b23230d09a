-- Whole documents under a valid embedding: the image conforms, reading it gives back the source, and bringing back finds
-- exactly the conforming source document whose image is given.
use Rattle.std.specs.Prelude.{◌≡◌, Bool, ◌&&◌, ◌↔◌, ℕ, ◌+◌, ◌≤◌, ◌<◌, length, eqb}
use Rattle.std.proofs.Math.Path.{refl, sym, subst}
use Rattle.std.proofs.Common.{ap, ◌∙◌, eqb-true, eq-eqb}
use Rattle.std.proofs.Math.Bool.{true, false}
use Rattle.std.proofs.Math.Option.{Option, none, some}
use native.Mathlib.Omega.{arith}
use Rattle.model.specs.Definitions.Table.{kind_of}
use Rattle.model.specs.Definitions.Content.{Content, end, char, elem, bytes, document, levels, same}
use Rattle.model.specs.Definitions.Conformance.{Holds, conforms}
use Rattle.model.specs.Definitions.Filler.{content, fillers}
use Rattle.model.specs.Definitions.Image.{Setting, image, image_by}
use Rattle.model.specs.Definitions.Inverse.{read_back, if_image, bring_back_content}
use Rattle.model.proofs.Theorems.Facts.{Valid}
use Rattle.model.proofs.Theorems.Tools.{true_false, some_none, and_left, and_right, and_both, pick_true, pick_false}
use Rattle.model.proofs.Theorems.Conforms.{holds_conforms, conforms_holds}
use Rattle.model.proofs.Theorems.FillerLaws.{filler_conforms}
use Rattle.model.proofs.Theorems.ImageConforms.{image_holds}
use Rattle.model.proofs.Theorems.PlainReading.{plain_to}
use Rattle.model.proofs.Theorems.ReadsPlain.{back_plain}
use Rattle.model.proofs.Theorems.ReadBack.{read_back_lem}
use Rattle.model.proofs.Theorems.ReadConforms.{read_holds}
use Rattle.model.proofs.Theorems.Measures.{size, size_elem, document-length}
use Rattle.model.proofs.Theorems.NeverLonger.{levels_never_more}

-- ---- the test for the same content

pub same_itself : (k : Content) → same k k ≡ true
unfolding same
same_itself end = refl
same_itself (char c r) = and_both (eq-eqb c c refl) (same_itself r)
same_itself (elem t k r) = and_both (and_both (eq-eqb t t refl) (same_itself k)) (same_itself r)

pub same_equal : (k l : Content) → same k l ≡ true → k ≡ l
unfolding same
same_equal end end e = refl
same_equal end (char d s) e = true_false refl (sym e)
same_equal end (elem u l s) e = true_false refl (sym e)
same_equal (char c r) end e = true_false refl (sym e)
same_equal (char c r) (char d s) e =
    let letters : c ≡ d = eqb-true c d (and_left (eqb c d) (same r s) e) in
    let rests : r ≡ s = same_equal r s (and_right (eqb c d) (same r s) e) in
    cc
same_equal (char c r) (elem u l s) e = true_false refl (sym e)
same_equal (elem t k r) end e = true_false refl (sym e)
same_equal (elem t k r) (char d s) e = true_false refl (sym e)
same_equal (elem t k r) (elem u l s) e =
    let first : (eqb t u && same k l) ≡ true = and_left (eqb t u && same k l) (same r s) e in
    let types : t ≡ u = eqb-true t u (and_left (eqb t u) (same k l) first) in
    let insides : k ≡ l = same_equal k l (and_right (eqb t u) (same k l) first) in
    let rests : r ≡ s = same_equal r s (and_right (eqb t u && same k l) (same r s) e) in
    cc

-- ---- levels and bytes

pub size_char : (c : ℕ) (r : Content) → size (char c r) ≡ 2 + size r
unfolding bytes
size_char c r = omega arith

-- each level takes an element's bytes
levels-size : (k : Content) → levels k ≤ size k
unfolding levels
levels-size end = unfold bytes in omega arith
levels-size (char c r) = omega (arith, size_char c r, levels-size r)
levels-size (elem t k r) = omega (arith, size_elem t k r, levels-size k, levels-size r)

-- so a document has more bytes than levels
pub levels_below_length : (k : Content) → levels k < length (document 0 k)
levels_below_length k = omega (arith, document-length 0 k, levels-size k)

module _ (X : Setting) (v : Valid X) where
  -- a conforming source document, by what its root holds
  abbrev pub Source : Content → Type 0
  Source k = Holds X.source (kind_of X.source 0) k

  -- the image of a conforming document conforms
  pub image_conforms : (k : Content) → Source k → Holds X.target (kind_of X.target 0) (image X k)
  unfolding image image_by
  image_conforms k h =
      subst (λ (t : ℕ). Holds X.target (kind_of X.target t) (image X k)) v.root_to_root_lem
      (image_holds X v (fillers content X.target) (filler_conforms X.target v.target_sound) 0 k v.source_sound.well_formed.has_root h)

  -- reading it gives back the document
  pub read_image : (k : Content) → Source k → read_back X (image X k) ≡ some k
  read_image k h = back_plain X (image X k) ∙ go (levels_never_more X v k h)
    where
      go : levels k ≤ levels (image X k) → plain_to X (length (document 0 (image X k))) 0 (image X k) ≡ some k
      go less =
          unfold image image_by in
          read_back_lem X v (fillers content X.target) 0 k v.source_sound.well_formed.has_root h (length (document 0 (image X k))) (omega (arith, levels_below_length (image X k)))

  -- so equal images are images of equal documents
  pub image_injective : (k l : Content) → Source k → Source l → image X k ≡ image X l → k ≡ l
  image_injective k l hk hl e =
      let both : some k ≡ some l = sym (read_image k hk) ∙ ap (read_back X) e ∙ read_image l hl in
      cc

  -- bringing back the image of a document finds it
  pub brought_image : (k : Content) → Source k → bring_back_content X (image X k) ≡ some k
  unfolding bring_back_content if_image
  brought_image k h = rw (read_image k h) (pick_true _ (some k) none (and_both (holds_conforms h) (same_itself (image X k))))

  -- whatever bringing back finds is a conforming document with that image
  found_source : (j k : Content) (o : Option Content) → if_image X j o ≡ some k → Source k × (image X k ≡ j)
  unfolding if_image
  found_source j k none e = some_none e refl
  found_source j k (some i) e = go (conforms X.source (kind_of X.source 0) i && same (image X i) j) refl
    where
      go : (b : Bool) → (conforms X.source (kind_of X.source 0) i && same (image X i) j) ≡ b → Source k × (image X k ≡ j)
      go true f =
          let found : some i ≡ some k = sym (pick_true _ (some i) none f) ∙ e in
          let it : i ≡ k = cc in
          subst (λ (l : Content). Source l × (image X l ≡ j)) it
          (conforms_holds X.source (kind_of X.source 0) i (and_left _ _ f), same_equal (image X i) j (and_right (conforms X.source (kind_of X.source 0) i) _ f))
      go false f = some_none e (pick_false _ (some i) none f)

  pub brought_source : (j k : Content) → bring_back_content X j ≡ some k → Source k × (image X k ≡ j)
  unfolding bring_back_content
  brought_source j k e = found_source j k (read_back X j) e

  -- bringing back yields a document exactly where it is a conforming one with that image
  pub brought_exactly : (j k : Content) → (bring_back_content X j ≡ some k) ↔ (Source k × (image X k ≡ j))
  brought_exactly j k = (brought_source j k, λ h. rw (← h.1) (brought_image k h.0))

  -- and nothing exactly where there is none
  pub nothing_exactly : (j : Content) → (bring_back_content X j ≡ none) ↔ ((k : Content) → Source k → image X k ≡ j → ⊥)
  nothing_exactly j = (λ e k h f. some_none {a = k} (rw (← f) (brought_image k h)) e, λ none_has. go (bring_back_content X j) refl none_has)
    where
      go : (o : Option Content) → bring_back_content X j ≡ o → ((k : Content) → Source k → image X k ≡ j → ⊥) → bring_back_content X j ≡ none
      go none e none_has = e
      go (some k) e none_has = absurd (none_has k (brought_source j k e).0 (brought_source j k e).1)

  -- what is read from a conforming target document conforms to the source table
  pub read_conforms : (j k : Content) → Holds X.target (kind_of X.target 0) j → read_back X j ≡ some k → Source k
  read_conforms j k h e =
      read_holds X v (length (document 0 j)) 0 j k v.source_sound.well_formed.has_root
      (subst (λ (t : ℕ). Holds X.target (kind_of X.target t) j) (sym v.root_to_root_lem) h) (sym (back_plain X j) ∙ e)
