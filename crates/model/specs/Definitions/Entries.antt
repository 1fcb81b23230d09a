-- 01 "The five entries and what they answer" and "Refusal answers": each entry's answer and the final bytes of the
-- output, as functions of the input's bytes and of the output's earlier bytes, for refused input too.
use Rattle.std.specs.Prelude.{Bool, true, false, List, [], ◌∷◌, ℕ, ◌+◌, length, leb}
use Rattle.std.proofs.Math.Option.{Option, none, some}
use Rattle.std.proofs.lemmas.List.Edits.{sets}
use Rattle.model.specs.Definitions.Table.{Table, table_of, edges_of}
use Rattle.model.specs.Definitions.Heights.{endless_type}
use Rattle.model.specs.Definitions.TableChecks.{table_form, table_limits, table_operands, table_repeats}
use Rattle.model.specs.Definitions.Content.{Content, content_of, document, elements}
use Rattle.model.specs.Definitions.TreeChecks.{tree_form, tree_levels, tree_operands, tree_expected, max_levels}
use Rattle.model.specs.Definitions.Embedding.{embedding_of}
use Rattle.model.specs.Definitions.EmbeddingChecks.{embedding_form, embedding_limits, embedding_operands, root_to_root, wrong_end_verdict, wrong_steps_verdict, path_clash_verdict}
use Rattle.model.specs.Definitions.Image.{Setting, image, image_levels, image_length, image_filler}
use Rattle.model.specs.Definitions.Inverse.{Reading, yields, missing, reading, bring_back_content}
use Rattle.model.specs.Definitions.LeftOut.{left_out_of}
use Rattle.model.specs.Definitions.Refusals.{too_long, bad_form, over_limit, bad_operand, repeated_member, no_finite_instance, root_moved, wrong_end, wrong_steps, path_clash, unexpected, Document, source_table, target_table, embedding, tree, Refusal, faulty, no_image, unreadable, image_too_deep, image_too_long, output_too_short, Judged, sound, has, fault_at, fault_unless, fits, max_length, numbers_of}

-- ---- each document by all its checks, in order

-- a table of any length: 2 to 6
unfoldable pub checked_table : List ℕ → Judged
checked_table bs =
    fault_at bad_form (table_form bs) λ u.
    fault_at over_limit (table_limits bs) λ u.
    fault_at bad_operand (table_operands (length (table_of bs)) bs) λ u.
    fault_at repeated_member (table_repeats bs) λ u.
    fault_at no_finite_instance (endless_type (table_of bs)) λ u.
    sound

-- a table: 1 to 6
unfoldable pub judged_table : List ℕ → Judged
judged_table bs =
    fault_unless too_long (fits bs) λ u.
    checked_table bs

-- an embedding between accepted tables: 1 to 4, 7 to 10
unfoldable pub judged_embedding : Table → Table → List ℕ → Judged
judged_embedding S T bs =
    fault_unless too_long (fits bs) λ u.
    fault_at bad_form (embedding_form S bs) λ u.
    fault_at over_limit (embedding_limits bs) λ u.
    fault_at bad_operand (embedding_operands T bs) λ u.
    fault_unless root_moved (root_to_root (embedding_of bs)) λ u.
    fault_at wrong_end (wrong_end_verdict S T (embedding_of bs)) λ u.
    fault_at wrong_steps (wrong_steps_verdict S T (embedding_of bs)) λ u.
    fault_at path_clash (path_clash_verdict S T (embedding_of bs)) λ u.
    sound

-- a tree document by an accepted table: 1 to 4, 11
unfoldable pub judged_tree : Table → List ℕ → Judged
judged_tree S bs =
    fault_unless too_long (fits bs) λ u.
    fault_at bad_form (tree_form bs) λ u.
    fault_at over_limit (tree_levels bs) λ u.
    fault_at bad_operand (tree_operands (length S) bs) λ u.
    fault_at unexpected (tree_expected S bs) λ u.
    sound

-- ---- answers

-- refused; or accepted, with the number of types, edges or elements or the length written, and the filler elements
pub data Result : Type 0 where
  refused : Refusal → Result
  accepted : ℕ → ℕ → Result

-- 01's numbers for an answer, as the C entries give them: what doesn't apply is 0, and so is `refusal` where accepted
pub record Answer : Type 0 where
  pub refusal : ℕ
  pub document : ℕ
  pub mark : ℕ
  pub value : ℕ
  pub filler : ℕ

unfoldable pub answer_of : Result → Answer
answer_of (refused why) =
    record { refusal = (numbers_of why).number; document = (numbers_of why).document; mark = (numbers_of why).mark; value = 0; filler = 0 }
answer_of (accepted v f) = record { refusal = 0; document = 0; mark = 0; value = v; filler = f }

-- an answer and the bytes that the output then holds
pub record Outcome : Type 0 where
  pub result : Result
  pub output : List ℕ

-- refused for a document's fault, else what comes after
unfoldable pub unless_faulty : {X : Type 0} → (Refusal → X) → Document → Judged → (Unit {0} → X) → X
unless_faulty refuse d sound later = later tt
unless_faulty refuse d (has f) later = refuse (faulty d f)

-- the number of edges of a table's types
unfoldable pub edge_count : Table → ℕ
edge_count [] = 0
edge_count (κ ∷ S) = edges_of κ + edge_count S

-- Judge a table: number of types.
unfoldable pub judge_table : List ℕ → Result
judge_table table =
    unless_faulty refused source_table (judged_table table) λ u.
    accepted (length (table_of table)) 0

-- Judge an embedding, with both tables: number of edges.
unfoldable pub judge_embedding : List ℕ → List ℕ → List ℕ → Result
judge_embedding source target em =
    unless_faulty refused source_table (judged_table source) λ u.
    unless_faulty refused target_table (judged_table target) λ u.
    unless_faulty refused embedding (judged_embedding (table_of source) (table_of target) em) λ u.
    accepted (edge_count (table_of source)) 0

-- Judge a tree, with a table: number of elements, the root included.
unfoldable pub judge_tree : List ℕ → List ℕ → Result
judge_tree table tr =
    unless_faulty refused source_table (judged_table table) λ u.
    unless_faulty refused tree (judged_tree (table_of table) tr) λ u.
    accepted (1 + elements (content_of tr)) 0

-- ---- carry and bring back

-- a refusal changes no byte of the output
unfoldable pub untouched : List ℕ → Refusal → Outcome
untouched out why = record { result = refused why; output = out }

-- a document at the start of the output, every later byte as it was
unfoldable pub written : List ℕ → List ℕ → ℕ → Outcome
written out doc filler = record { result = accepted (length doc) filler; output = sets out 0 doc }

abbrev pub setting_of : List ℕ → List ℕ → List ℕ → Setting
setting_of source target em = record { source = table_of source; target = table_of target; embedding = embedding_of em }

-- The image of the document that holds k: 12, 13, 14, or written. The tests come before anything is built.
unfoldable pub carry_within : List ℕ → Setting → Content → Bool → Bool → Bool → Outcome
carry_within out X k false short fitting = untouched out image_too_deep
carry_within out X k true false fitting = untouched out image_too_long
carry_within out X k true true false = untouched out output_too_short
carry_within out X k true true true = written out (document 0 (image X k)) (image_filler X k)

unfoldable pub carry_content : List ℕ → Setting → Content → Outcome
carry_content out X k =
    carry_within out X k (leb (image_levels X k) max_levels) (leb (image_length X k) max_length) (leb (image_length X k) (length out))

-- Carry: length of the image and number of filler elements.
unfoldable pub carry : List ℕ → List ℕ → List ℕ → List ℕ → List ℕ → Outcome
carry source target em tr out =
    unless_faulty (untouched out) source_table (judged_table source) λ u.
    unless_faulty (untouched out) target_table (judged_table target) λ u.
    unless_faulty (untouched out) embedding (judged_embedding (table_of source) (table_of target) em) λ u.
    unless_faulty (untouched out) tree (judged_tree (table_of source) tr) λ u.
    carry_content out (setting_of source target em) (content_of tr)

-- a source document, with a number beside its length: 14, or written
unfoldable pub read_within : List ℕ → List ℕ → ℕ → Bool → Outcome
read_within out doc count false = untouched out output_too_short
read_within out doc count true = written out doc count

abbrev pub bring_within : List ℕ → List ℕ → Bool → Outcome
bring_within out doc room = read_within out doc 0 room

unfoldable pub bring_content : List ℕ → Option Content → Outcome
bring_content out none = untouched out no_image
bring_content out (some k) = bring_within out (document 0 k) (leb (length (document 0 k)) (length out))

-- Bring back, whose tree is judged by the target table: length of the source document.
unfoldable pub bring_back : List ℕ → List ℕ → List ℕ → List ℕ → List ℕ → Outcome
bring_back source target em tr out =
    unless_faulty (untouched out) source_table (judged_table source) λ u.
    unless_faulty (untouched out) target_table (judged_table target) λ u.
    unless_faulty (untouched out) embedding (judged_embedding (table_of source) (table_of target) em) λ u.
    unless_faulty (untouched out) tree (judged_tree (table_of target) tr) λ u.
    bring_content out (bring_back_content (setting_of source target em) (content_of tr))

-- ---- reading along the paths (02, N4)

-- what was read of a document whose root holds k: 17, 14, or written, with the number of elements on no followed path
unfoldable pub read_content : List ℕ → Setting → Content → Reading → Outcome
read_content out X k (missing at) = untouched out (unreadable at)
read_content out X k (yields j) = read_within out (document 0 j) (left_out_of X j k) (leb (length (document 0 j)) (length out))

-- Read along the paths, whose tree is judged by the target table: length of the source document, and the number of target elements, the
-- root aside, on no followed path.
unfoldable pub read_along : List ℕ → List ℕ → List ℕ → List ℕ → List ℕ → Outcome
read_along source target em tr out =
    unless_faulty (untouched out) source_table (judged_table source) λ u.
    unless_faulty (untouched out) target_table (judged_table target) λ u.
    unless_faulty (untouched out) embedding (judged_embedding (table_of source) (table_of target) em) λ u.
    unless_faulty (untouched out) tree (judged_tree (table_of target) tr) λ u.
    read_content out (setting_of source target em) (content_of tr) (reading (setting_of source target em) (content_of tr))
