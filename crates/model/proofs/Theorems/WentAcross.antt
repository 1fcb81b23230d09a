-- 02, N14: what is proved of contents, said of documents as bytes, and of what carry writes.
use Rattle.std.specs.Prelude.{◌≡◌, refl, Bool, true, false, List, ℕ, suc, ◌+◌, ◌≤◌, length, take, drop, leb}
use Rattle.std.proofs.Common.{sym, ap, ◌∙◌, subst, arith, leb-true}
use Rattle.std.proofs.Math.Option.{some}
use Rattle.std.proofs.Math.Seq.{take-append_seam}
use Rattle.model.specs.Definitions.Table.{table_of}
use Rattle.model.specs.Definitions.Content.{Content, document, content_of, levels, elements}
use Rattle.model.specs.Definitions.Conformance.{Conforming}
use Rattle.model.specs.Definitions.Embedding.{embedding_of, target_of}
use Rattle.model.specs.Definitions.Image.{Setting, image, image_levels, image_length, image_filler}
use Rattle.model.specs.Definitions.TreeChecks.{max_levels}
use Rattle.model.specs.Definitions.Correspondence.{Element, element_with, element_at, stands_at, image_inside, OpensAs, correspondences}
use Rattle.model.specs.Definitions.Counting.{path_elements, occurrences}
use Rattle.model.specs.Definitions.Refusals.{Judged, sound, has, Document, source_table, target_table, embedding, tree, max_length}
use Rattle.model.specs.Definitions.Entries.{judged_table, judged_embedding, judged_tree, judge_tree, accepted, Outcome, unless_faulty, untouched, written, setting_of, carry_within, carry_content, carry}
use Rattle.model.proofs.Theorems.Terms.{AcceptedEmbedding, image_of, filler_of}
use Rattle.model.proofs.Theorems.Facts.{All}
use Rattle.model.proofs.Theorems.Documents.{content_of_document}
use Rattle.model.proofs.Theorems.Measures.{image-levels, image-length}
use Rattle.model.proofs.Theorems.EntryLaws.{accepted_refused, Judges, judges_valid, judges_are_all, document_accepted, tree_is_accepted, written_start}
use Rattle.model.proofs.Theorems.BringingBack.{image_conforms}
use Rattle.model.proofs.Theorems.OnBytes.{conforming_content, content_conforming, accepted_tree, valid}
use Rattle.model.proofs.Theorems.ReadingAlong.{image-elements}
use Rattle.model.proofs.Theorems.Correspondence.{each_stands}
use Rattle.model.proofs.Theorems.CorrespondenceOffsets.{correspondences_in_source}
use Rattle.model.proofs.Theorems.PathElements.{image_path_elements}
use Rattle.model.proofs.Theorems.Occurrences.{occurs_as_often}

-- ---- conforming documents

module _ (s t e : List ℕ) (a : AcceptedEmbedding s t e) (d : List ℕ) (c : Conforming (table_of s) d) where
  abbrev X : Setting
  X = setting_of s t e

  pub stands_in_image : (b : List ℕ) (x : Element) → element_at 0 (content_of d) b ≡ some x
      → element_at 0 (content_of (image_of s t e d)) (stands_at X 0 (content_of d) b) ≡ some (element_with (target_of (embedding_of e) x.type) (image_inside X x.type x.holds))
  stands_in_image b x h = rw (content_of_document 0 (image X (content_of d))) (each_stands X (valid s t e a) (content_of d) (conforming_content c).1 b h)

  pub opens_in_source : All (λ p. OpensAs d p.offset p.type) (correspondences X (content_of d))
  opens_in_source =
      subst (λ (doc : List ℕ). All (λ p. OpensAs doc p.offset p.type) (correspondences X (content_of d))) (sym (conforming_content c).0)
      (correspondences_in_source X (valid s t e a) (content_of d) (conforming_content c).1)

  pub occurs_in_image : (b : ℕ) → occurrences b (content_of (image_of s t e d)) ≡ occurrences b (content_of d)
  occurs_in_image b = rw (content_of_document 0 (image X (content_of d))) (occurs_as_often b X (valid s t e a) (content_of d) (conforming_content c).1)

  pub counted_in_image : 1 + elements (content_of (image_of s t e d)) ≡ filler_of s t e d + path_elements X (content_of d) + 1
  counted_in_image =
      rw (content_of_document 0 (image X (content_of d)))
      (omega (arith, image-elements X (content_of d), image_path_elements X (valid s t e a) (content_of d) (conforming_content c).1))

-- ---- a call of carry that is not refused

-- it went past a document's judgement
past : (out : List ℕ) (d : Document) (j : Judged) (later : Outcome) {n f : ℕ} → (unless_faulty (untouched out) d j (λ u. later)).result ≡ accepted n f
    → (j ≡ sound) × (later.result ≡ accepted n f) × (unless_faulty (untouched out) d j (λ u. later) ≡ later)
unfolding unless_faulty untouched
past out d sound later e = (refl, e, refl)
past out d (has g) later e = accepted_refused e refl

-- and past the limits: the image stands at the start of the output, and its filler elements are answered
record WroteImage (X : Setting) (k : Content) (n f : ℕ) (o : Outcome) : Type 0 where
  is_written : take n o.output ≡ document 0 (image X k)
  is_filler : f ≡ image_filler X k
  is_low : suc (levels (image X k)) ≤ max_levels
  is_short : length (document 0 (image X k)) ≤ max_length

wrote_within : (out : List ℕ) (X : Setting) (k : Content) (low short fitting : Bool) {n f : ℕ}
    → leb (image_levels X k) max_levels ≡ low → leb (image_length X k) max_length ≡ short → leb (image_length X k) (length out) ≡ fitting
    → (carry_within out X k low short fitting).result ≡ accepted n f → WroteImage X k n f (carry_within out X k low short fitting)
unfolding carry_within untouched written
wrote_within out X k false short fitting el es ef e = accepted_refused e refl
wrote_within out X k true false fitting el es ef e = accepted_refused e refl
wrote_within out X k true true false el es ef e = accepted_refused e refl
wrote_within out X k true true true {n} {f} el es ef e =
    let doc : List ℕ = document 0 (image X k) in
    let is_length : n ≡ length doc = cc in
    let counted : f ≡ image_filler X k = cc in
    let fits : length doc ≤ length out = omega (arith, image-length X k, leb-true (image_length X k) (length out) ef) in
    record {
      is_written = rw (is_length, written_start out doc fits) (take-append_seam doc (drop (length doc) out));
      is_filler = counted;
      is_low = omega (arith, image-levels X k, leb-true (image_levels X k) max_levels el);
      is_short = omega (arith, image-length X k, leb-true (image_length X k) max_length es);
    }

wrote_image : (out : List ℕ) (X : Setting) (k : Content) {n f : ℕ} → (carry_content out X k).result ≡ accepted n f → WroteImage X k n f (carry_content out X k)
unfolding carry_content
wrote_image out X k e = wrote_within out X k _ _ _ refl refl refl e

-- judging an accepted tree answers its elements
elements_judged : (t d : List ℕ) → judged_table t ≡ sound → judged_tree (table_of t) d ≡ sound → judge_tree t d ≡ accepted (1 + elements (content_of d)) 0
unfolding judge_tree unless_faulty
elements_judged t d table document-sound = rw (table, document-sound)

-- So the embedding was accepted, the document conforms, and its image was written, of which judging answers the elements.
pub record Carried (s t e d out : List ℕ) (n f : ℕ) : Type 0 where
  pub embedding_accepted : AcceptedEmbedding s t e
  pub source_conforms : Conforming (table_of s) d
  pub image_written : take n (carry s t e d out).output ≡ image_of s t e d
  pub filler_answered : f ≡ filler_of s t e d
  pub image_judged : judge_tree t (image_of s t e d) ≡ accepted (1 + elements (content_of (image_of s t e d))) 0

pub carried_image : (s t e d out : List ℕ) (n f : ℕ) → (carry s t e d out).result ≡ accepted n f → Carried s t e d out n f
unfolding carry
carried_image s t e d out n f h =
    let source = past out source_table (judged_table s) _ h in
    let target = past out target_table (judged_table t) _ source.1 in
    let mapping = past out embedding (judged_embedding (table_of s) (table_of t) e) _ target.1 in
    let document-judged = past out tree (judged_tree (table_of s) d) _ mapping.1 in
    let X = setting_of s t e in
    let judges : Judges s t e = record { source_sound = source.0; target_sound = target.0; embedding_sound = mapping.0 } in
    let embeds = judges_valid s t e judges in
    let wrote : WroteImage X (content_of d) n f (carry_content out X (content_of d)) = wrote_image out X (content_of d) document-judged.1 in
    let inside = accepted_tree s d (tree_is_accepted s d source.0 document-judged.0) in
    let judged : judged_tree (table_of t) (image_of s t e d) ≡ sound =
    document_accepted (table_of t) embeds.target_sound.well_formed (image X (content_of d)) (image_conforms X embeds (content_of d) inside.1) wrote.is_short wrote.is_low in
    record {
      embedding_accepted = judges_are_all s t e judges;
      source_conforms = subst (Conforming (table_of s)) (sym inside.0) (content_conforming (content_of d) inside.1);
      image_written = ap (λ (o : Outcome). take n o.output) (source.2 ∙ target.2 ∙ mapping.2 ∙ document-judged.2) ∙ wrote.is_written;
      filler_answered = wrote.is_filler;
      image_judged = elements_judged t (image_of s t e d) target.0 judged;
    }
