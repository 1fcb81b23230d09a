-- The entries on accepted tables and embeddings: what acceptance by an entry says of the judges, when a conforming
-- document is accepted as a tree, and what carry and bring back then do.
use Rattle.std.specs.Prelude.{◌≡◌, refl, true, List, [], ◌∷◌, ◌++◌, ℕ, suc, ◌+◌, ◌≤◌, ◌<◌, length, drop, ltb}
use Rattle.std.proofs.Common.{sym, ap, ◌∙◌, zero-add, arith}
use Rattle.std.proofs.lemmas.List.Edits.{sets, sets-eq}
use borrow.Author.Tests.{lt-ltb, ltb-true, le-leb, lt-leb}
use Rattle.model.specs.Definitions.Basics.{passes, goes, goes_if, followed, reach}
use Rattle.model.specs.Definitions.Commands.{TreeCommand, closes, tree_end, tree_commands, tree_width}
use Rattle.model.specs.Definitions.Table.{Table, table_of, kind_of}
use Rattle.model.specs.Definitions.Content.{Content, end, char, elem, document, content_of, levels, elements}
use Rattle.model.specs.Definitions.Conformance.{Holds, Conforming}
use Rattle.model.specs.Definitions.TreeChecks.{max_levels, level_step, tree_levels}
use Rattle.model.specs.Definitions.Image.{Setting, image, image_filler}
use Rattle.model.specs.Definitions.Inverse.{bring_back_content}
use Rattle.model.specs.Definitions.Refusals.{Judged, sound, has, Document, Refusal, source_table, target_table, embedding, tree, output_too_short, image_too_deep, image_too_long, fits, max_length}
use Rattle.model.specs.Definitions.Entries.{judged_table, judged_embedding, judged_tree, Result, refused, accepted, unless_faulty, edge_count, judge_table, judge_embedding, judge_tree, untouched, written, setting_of, carry_within, carry_content, carry, bring_content, bring_back}
use Rattle.model.proofs.Theorems.Terms.{AcceptedTable, AcceptedEmbedding, AcceptedTree}
use Rattle.model.proofs.Theorems.Facts.{WellFormed, Valid}
use Rattle.model.proofs.Theorems.Runs.{followed_if, run_passes, passes_run}
use Rattle.model.proofs.Theorems.Documents.{commands_then, document_commands, document-commands, content_of_document, conforming_checks}
use Rattle.model.proofs.Theorems.JudgedTables.{tree_accepted}
use Rattle.model.proofs.Theorems.JudgedEmbeddings.{embedding_valid}
use Rattle.model.proofs.Theorems.Measures.{image-levels, image-length}

-- ---- acceptance

-- an answer that accepts is no refusal
pub accepted_refused : {X : Type 0} {v f : ℕ} {why : Refusal} {r : Result} → r ≡ accepted v f → r ≡ refused why → X
accepted_refused {v = v} {f} {why} {r} p q = let z : ◌≡◌ {A = ℕ} 0 1 = cc in absurd (omega arith)

-- an accepted answer went past a document's judgement
pub past_judge : (d : Document) (j : Judged) (later : Unit {0} → Result) {v f : ℕ} → unless_faulty refused d j later ≡ accepted v f → (j ≡ sound) × (later tt ≡ accepted v f)
unfolding unless_faulty
past_judge d sound later e = (refl, e)
past_judge d (has g) later e = accepted_refused e refl

-- the judges that an accepted embedding went past
pub record Judges (s t e : List ℕ) : Type 0 where
  pub source_sound : judged_table s ≡ sound
  pub target_sound : judged_table t ≡ sound
  pub embedding_sound : judged_embedding (table_of s) (table_of t) e ≡ sound

pub judges_accept : (s t e : List ℕ) {n f : ℕ} → judge_embedding s t e ≡ accepted n f → Judges s t e
unfolding judge_embedding
judges_accept s t e h =
    let first = past_judge source_table (judged_table s) _ h in
    let second = past_judge target_table (judged_table t) _ first.1 in
    let third = past_judge embedding (judged_embedding (table_of s) (table_of t) e) _ second.1 in
    record { source_sound = first.0; target_sound = second.0; embedding_sound = third.0 }

pub judge_accepts : (t : List ℕ) {n f : ℕ} → judge_table t ≡ accepted n f → judged_table t ≡ sound
unfolding judge_table
judge_accepts t h = (past_judge source_table (judged_table t) _ h).0

-- and these judges are all that accepts
pub judges_are_all : (s t e : List ℕ) → Judges s t e → AcceptedEmbedding s t e
unfolding judge_embedding unless_faulty
judges_are_all s t e j = (edge_count (table_of s), rw (j.source_sound, j.target_sound, j.embedding_sound) refl)

pub table_is_accepted : (t : List ℕ) → judged_table t ≡ sound → AcceptedTable t
unfolding judge_table unless_faulty
table_is_accepted t table = (length (table_of t), rw table refl)

-- the judges that an accepted tree went past
pub tree_judged : (t d : List ℕ) {n f : ℕ} → judge_tree t d ≡ accepted n f → (judged_table t ≡ sound) × (judged_tree (table_of t) d ≡ sound)
unfolding judge_tree
tree_judged t d h =
    let first = past_judge source_table (judged_table t) _ h in
    let second = past_judge tree (judged_tree (table_of t) d) _ first.1 in
    (first.0, second.0)

pub tree_is_accepted : (t d : List ℕ) → judged_table t ≡ sound → judged_tree (table_of t) d ≡ sound → AcceptedTree t d
unfolding judge_tree unless_faulty
tree_is_accepted t d table good = (1 + elements (content_of d), rw (table, good) refl)

pub judges_valid : (s t e : List ℕ) → Judges s t e → Valid (setting_of s t e)
judges_valid s t e j = embedding_valid s t e j.source_sound j.target_sound j.embedding_sound

-- ---- a conforming document within the limits is accepted

-- the commands of a content leave the count of levels as it is
levels_then : (k : Content) (n : ℕ) (cs : List TreeCommand) → n + levels k ≤ max_levels → reach level_step n (commands_then k cs) ≡ reach level_step n cs
unfolding commands_then reach followed level_step goes_if levels
levels_then end n cs h = refl
levels_then (char c r) n cs h = levels_then r n cs h
levels_then (elem t k r) n cs h =
    rw (lt-ltb n max_levels (omega arith)) (levels_then k (suc n) (closes ∷ commands_then r cs) (omega arith) ∙ levels_then r n cs (omega arith))

levels-document : (t : ℕ) (k : Content) → suc (levels k) ≤ max_levels → reach level_step 0 (document_commands t k) ≡ goes 0
unfolding document_commands reach followed level_step goes_if
levels-document t k h = levels_then k 1 (closes ∷ tree_end ∷ []) (omega arith)

pub levels_accept : (t : ℕ) (k : Content) → suc (levels k) ≤ max_levels → tree_levels (document t k) ≡ passes
unfolding tree_levels
levels_accept t k h =
    let whole : reach level_step 0 (tree_commands (document t k)) ≡ goes 0 = rw (document-commands t k) (levels-document t k h) in
    passes_run tree_width level_step (λ n. true) 0 0 (tree_commands (document t k)) whole refl

-- and only such a document passes the count of levels
levels-counted : (k : Content) (n : ℕ) (cs : List TreeCommand) {last : ℕ} → n ≤ max_levels → reach level_step n (commands_then k cs) ≡ goes last
    → (n + levels k ≤ max_levels) × (reach level_step n cs ≡ goes last)
unfolding commands_then reach followed level_step levels
levels-counted end n cs low e = (omega arith, e)
levels-counted (char c r) n cs low e = levels-counted r n cs low e
levels-counted (elem t k r) n cs {last} low e =
    let opened : (ltb n max_levels ≡ true) × (reach level_step (suc n) (commands_then k (closes ∷ commands_then r cs)) ≡ goes last)
    = followed_if (ltb n max_levels) (suc n) (λ next. reach level_step next (commands_then k (closes ∷ commands_then r cs))) e in
    let below = ltb-true n max_levels opened.0 in
    let inner = levels-counted k (suc n) (closes ∷ commands_then r cs) (omega arith) opened.1 in
    let rest = levels-counted r n cs low inner.1 in
    (omega (arith, inner.0, rest.0), rest.1)

pub levels_only : (t : ℕ) (k : Content) → tree_levels (document t k) ≡ passes → suc (levels k) ≤ max_levels
unfolding tree_levels document_commands reach followed level_step goes_if
levels_only t k e =
    let taken = run_passes tree_width level_step (λ n. true) 0 0 (tree_commands (document t k)) e in
    let whole : reach level_step 0 (document_commands t k) ≡ goes taken.0 = ap (reach level_step 0) (sym (document-commands t k)) ∙ taken.1 in
    let counted = levels-counted k 1 (closes ∷ tree_end ∷ []) (omega arith) whole in
    omega (arith, counted.0)

-- a conforming document within the limits is accepted
pub document_accepted : (S : Table) → WellFormed S → (k : Content) → Holds S (kind_of S 0) k → length (document 0 k) ≤ max_length → suc (levels k) ≤ max_levels
    → judged_tree S (document 0 k) ≡ sound
unfolding Conforming fits
document_accepted S wf k h short low =
    let checks = conforming_checks S wf (document 0 k) (k, refl, h) in
    tree_accepted (record { short = le-leb _ _ short; form = checks.0; levels_ok = levels_accept 0 k low; operands = checks.1; expected = checks.2 })

-- ---- carry and bring back, once all documents are accepted

-- a document at the start of an output that is long enough, and the later bytes as they were
pub written_start : (out doc : List ℕ) → length doc ≤ length out → sets out 0 doc ≡ doc ++ drop (length doc) out
written_start out doc h = sets-eq doc out 0 (rw (zero-add (length doc)) h) ∙ ap (λ (n : ℕ). doc ++ drop n out) (zero-add (length doc))

-- carry, after the judges, looks at the image only
pub carry-content : (s t e out : List ℕ) (k : Content) → Judges s t e → judged_tree (table_of s) (document 0 k) ≡ sound
    → carry s t e (document 0 k) out ≡ carry_content out (setting_of s t e) k
unfolding carry unless_faulty
carry-content s t e out k j tr = rw (j.source_sound, j.target_sound, j.embedding_sound, tr, content_of_document 0 k)

-- bring back, after the judges, looks at what the document holds
pub bring_content_lem : (s t e out : List ℕ) (k : Content) → Judges s t e → judged_tree (table_of t) (document 0 k) ≡ sound
    → bring_back s t e (document 0 k) out ≡ bring_content out (bring_back_content (setting_of s t e) k)
unfolding bring_back unless_faulty
bring_content_lem s t e out k j tr = rw (j.source_sound, j.target_sound, j.embedding_sound, tr, content_of_document 0 k)

module _ (X : Setting) (out : List ℕ) (k : Content) where
  abbrev image_bytes_lem : List ℕ
  image_bytes_lem = document 0 (image X k)

  -- within the limits and with room for it, the image is written
  pub content_carried : suc (levels (image X k)) ≤ max_levels → length image_bytes_lem ≤ max_length → length image_bytes_lem ≤ length out
      → carry_content out X k ≡ record { result = accepted (length image_bytes_lem) (image_filler X k); output = image_bytes_lem ++ drop (length image_bytes_lem) out }
  unfolding carry_content carry_within written
  content_carried low short room =
      rw (image-levels X k, image-length X k, le-leb _ _ low, le-leb _ _ short, le-leb _ _ room, written_start out image_bytes_lem room)

  -- with too little room, refused
  pub content_no_room : suc (levels (image X k)) ≤ max_levels → length image_bytes_lem ≤ max_length → length out < length image_bytes_lem
      → carry_content out X k ≡ record { result = refused output_too_short; output = out }
  unfolding carry_content carry_within untouched
  content_no_room low short less = rw (image-levels X k, image-length X k, le-leb _ _ low, le-leb _ _ short, lt-leb _ _ less)

  -- with too many levels, refused
  pub content_too_deep : max_levels < suc (levels (image X k)) → carry_content out X k ≡ record { result = refused image_too_deep; output = out }
  unfolding carry_content carry_within untouched
  content_too_deep high = rw (image-levels X k, lt-leb _ _ high)

  -- with too many bytes, refused
  pub content_too_long : suc (levels (image X k)) ≤ max_levels → max_length < length image_bytes_lem → carry_content out X k ≡ record { result = refused image_too_long; output = out }
  unfolding carry_content carry_within untouched
  content_too_long low long = rw (image-levels X k, image-length X k, le-leb _ _ low, lt-leb _ _ long)
