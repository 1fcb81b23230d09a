-- What is proved of the definitions, for every pair of accepted tables and every accepted embedding, one theorem after the
-- other. A reader who believes `Definitions` needs to read only this page; the proofs are in `Theorems`.
--
-- Documents here have any length and any number of levels, unless limits are named. `Theorems.Terms` has the few terms
-- used: accepted by an entry, the image of a document given by its bytes, its levels.
use Rattle.std.specs.Prelude.{◌≡◌, refl, Bool, true, false, ◌&&◌, ◌||◌, ◌↔◌, ◌⊎◌, ℕ, suc, ◌+◌, ◌*◌, ◌≤◌, ◌<◌, max, length, take, drop, leb}
use Rattle.std.proofs.Common.{sym, ap, ◌∙◌}
use mathlib.Core.List.{List, [], ◌∷◌, ◌++◌, Memᴰ}
use Rattle.std.proofs.Math.Option.{none, some}
use Rattle.model.specs.Definitions.Basics.{passes, fails, some_of}
use Rattle.model.specs.Definitions.Commands.{Need, needed, optional}
use Rattle.model.specs.Definitions.Table.{Kind, text, empty, sequence, choice, list, Table, kind_of, is_sequence, is_choice, is_list, table_of}
use Rattle.model.specs.Definitions.Heights.{heights, height_in, height_of, lowest, has_instance, endless_type}
use Rattle.model.specs.Definitions.TableChecks.{table_form, table_operands, table_repeats}
use Rattle.model.specs.Definitions.Content.{Content, end, elem, bytes, document, content_of, levels, elements}
use Rattle.model.specs.Definitions.Characters.{CharacterClass, Ascii, Accented, Classed, character_class, allowed}
use Rattle.model.specs.Definitions.Conformance.{Holds, Conforming, Instance, conforms}
use Rattle.model.specs.Definitions.TreeChecks.{tree_form, tree_levels, tree_operands, tree_expected, max_levels}
use Rattle.model.specs.Definitions.Filler.{content, known, fillers}
use Rattle.model.specs.Definitions.Image.{Setting, image, image_by, image_levels, image_length, image_filler}
use Rattle.model.specs.Definitions.Templates.{Hole, template, filler_row, filler_bytes, filled_row, writes, first_in, held_by, own_length, own_filler, own_levels, sum_length, sum_filler, deepest}
use Rattle.model.specs.Definitions.Embedding.{embedding_of, target_of, paths_of, first_path, next, before_choice}
use Rattle.model.specs.Definitions.EmbeddingChecks.{embedding_form, embedding_operands, leaves_only, sequence_or_list, optional_first, right_steps, Reason}
use Rattle.model.specs.Definitions.ValidTable.{ValidTable, table_bytes}
use Rattle.model.specs.Definitions.ValidEmbedding.{PathMapping, mapping_of, StepsExist, NoClash, ValidEmbedding, embedding_bytes}
use Rattle.model.specs.Definitions.Marks.{TableMarks, EmbeddingMarks, TreeMarks, LowestWithout, PathMarks}
use Rattle.model.specs.Definitions.Valid.{WrittenBy, ValidTree}
use Rattle.model.specs.Definitions.Inverse.{follow, Located, located, yields, read_to, reading, read_back}
use Rattle.model.specs.Definitions.LeftOut.{on_paths, left_out_of}
use Rattle.model.specs.Definitions.Unreadable.{PathMissing, Opens, FirstUnreadable}
use Rattle.model.specs.Definitions.Correspondence.{Element, element_with, element_at, addresses, stands_at, image_inside, offset_at, OpensAs, correspondences}
use Rattle.model.specs.Definitions.Counting.{path_elements, occurrences}
use Rattle.model.specs.Definitions.SingleItems.{single_items}
use Rattle.model.specs.Definitions.Refusals.{Fault, bad_form, wrong_steps, path_clash, too_long, over_limit, source_table, embedding, tree, Refusal, faulty, output_too_short, no_image, unreadable, image_too_deep, image_too_long, no_choice, numbers_of, has, max_length}
use Rattle.model.specs.Definitions.Decimal.{DecimalForm, DecimalText}
use Rattle.model.specs.Definitions.Lines.{AnswerLine}
use Rattle.model.specs.Definitions.Entries.{checked_table, Answer, answer_of, accepted, refused, judge_table, judge_embedding, judge_tree, setting_of, untouched, carry, bring_within, bring_back, read_within, read_along}
use Rattle.model.specs.Definitions.Explanation.{Clash, explained, unexplained, explain, explanation_numbers, ReasonHolds, Explains}
use Rattle.model.specs.Definitions.Operations.{kept_length, type_in, Operation, append_type, append_member, unchanged, without_mark, operate, Appends}
use Rattle.model.specs.Computing.{definitions}
use Rattle.model.specs.Examples.{choice_of_empty, listed_table, listed_embedding, listed_image, member_table, member_lists_table, member_lists_embedding, member_content, member_image}
use Rattle.model.proofs.Theorems.Tools.{and_right}
use Rattle.model.proofs.Theorems.Characters.{class_exactly, allowed_values}
use Rattle.model.proofs.Theorems.Decimal.{has_form, form_unique, text_unique, text_of_one, answer_line_unique}
use Rattle.model.proofs.Theorems.Conforms.{holds_conforms, conforms_holds}
use Rattle.model.proofs.Theorems.Documents.{document_injective, content_of_document, checks_conforming, conforming_checks}
use Rattle.model.proofs.Theorems.Expected.{UnexpectedCommand, unexpected_command}
use Rattle.model.proofs.Theorems.HeightLaws.{Solves, heights_solve, heights_least, instance_finite}
use Rattle.model.proofs.Theorems.FillerLaws.{filler_conforms, filler_levels, has_instance_lem, instance_of}
use Rattle.model.proofs.Theorems.JudgedTables.{table_sound, table_well_formed}
use Rattle.model.proofs.Theorems.ReadBack.{first_item_lem}
use Rattle.model.proofs.Theorems.ReadsPlain.{yields_held, held_yields}
use Rattle.model.proofs.Theorems.ReadConforms.{nothing_exactly}
use Rattle.model.proofs.Theorems.Measures.{image-levels, image-length, marked, unmarked, count_filler, marked_is_image, marked_filler}
use Rattle.model.proofs.Theorems.Templates.{filler_written, write_image, writes_again}
use Rattle.model.proofs.Theorems.TemplateSizes.{image_length_rows, image_filler_rows, image_levels_rows}
use Rattle.model.proofs.Theorems.BringingBack.{read_conforms}
use Rattle.model.proofs.Theorems.EntryLaws.{judges_accept, judge_accepts, judges_valid}
use Rattle.model.proofs.Theorems.Terms.{AcceptedTable, AcceptedEmbedding, AcceptedTree, image_of, filler_of, levels_in, NoSource}
use Rattle.model.proofs.Theorems.OnBytes.{conforming_content, conform, equal_exactly, read_gives_back, single_on_paths, shorter, refused_15, brought, brought-only, carried, not_carried, brought_back, not-brought-back, beyond-image-levels, beyond-image-bytes, beyond-source-bytes, beyond-source-levels}
use Rattle.model.proofs.Theorems.JudgedEmbeddings.{judged_with, form_holds}
use Rattle.model.proofs.Theorems.StepRules.{judge_embedding_with, steps_by, judged_by, AnsweredBy, answered_by_rule, answered_too}
use Rattle.model.proofs.Theorems.RulesNeeded.{PrefixRuleTooWeak, prefix_rule_too_weak, FirstMemberEndless, first_member_endless}
use Rattle.model.proofs.Theorems.ValidTables.{table_of_bytes, valid_table_short}
use Rattle.model.proofs.Theorems.EmbeddingBytes.{mapping_of_bytes, path_stands, offsets_rise}
use Rattle.model.proofs.Theorems.DocumentMarks.{table_marks, embedding_marks, tree_marks, endless_mark}
use Rattle.model.proofs.Theorems.PathChecks.{ends_mark, steps-mark, clash_mark}
use Rattle.model.proofs.Theorems.ValidEmbeddings.{paths_walked, valid_embedding_short}
use Rattle.model.proofs.Theorems.Accepted.{table_accepted_exactly, embedding_accepted_exactly, tree_accepted_exactly}
use Rattle.model.proofs.Theorems.Reasons.{one_holds}
use Rattle.model.proofs.Theorems.Explanations.{explained_10, explanation_holds, explained_so, explain_other, numbers_as_judged}
use Rattle.model.proofs.Theorems.Operations.{type_alone}
use Rattle.model.proofs.Theorems.OperationLaws.{no_type_there, refused_plain, fault_answered, no_choice_exactly, member_refusal, done, done_where_accepted, older_kept, member_falls, member_kept, member_moved}
use Rattle.model.proofs.Theorems.WithoutFiller.{bare_image}
use Rattle.model.proofs.Theorems.Taken.{LeftOf}
use Rattle.model.proofs.Theorems.Kept.{kept-left}
use Rattle.model.proofs.Theorems.ReadingOnBytes.{read_of_image, read-like-brought, read-conforming, left-is-bare-image, told_by_what_is_left, refused_17, read_only}
use Rattle.model.proofs.Theorems.Offsets.{mark_17_opens}
use Rattle.model.proofs.Theorems.Facts.{All, Pairs}
use Rattle.model.proofs.Theorems.Correspondence.{none_share}
use Rattle.model.proofs.Theorems.CorrespondenceOffsets.{listed_exactly, opens_in_lem, offset_tells, correspondences_count, correspondences_in_order, correspondences_in_image, correspondences_apart}
use Rattle.model.proofs.Theorems.WentAcross.{stands_in_image, opens_in_source, occurs_in_image, counted_in_image, Carried, carried_image}

-- ---- 1. conforming and bytes

-- The bytes of a document determine it.
pub bytes_determine_document : (t u : ℕ) (k l : Content) → document t k ≡ document u l → (t ≡ u) × (k ≡ l)
bytes_determine_document = document_injective

-- A byte string is the bytes of a conforming document exactly when the tree checks other than length and levels accept it.
pub conforming_exactly : (t : List ℕ) → AcceptedTable t → (d : List ℕ)
    → Conforming (table_of t) d ↔ ((tree_form d ≡ passes) × (tree_operands (length (table_of t)) d ≡ passes) × (tree_expected (table_of t) d ≡ passes))
conforming_exactly t a d =
    let wf = (table_sound t (judge_accepts t a.1)).well_formed in
    (conforming_checks (table_of t) wf d, λ checks. checks_conforming (table_of t) wf d checks.0 checks.1 checks.2)

-- Test and predicate of conformance agree.
pub test_is_predicate : (S : Table) (κ : Kind) (k : Content) → (conforms S κ k ≡ true) ↔ Holds S κ k
test_is_predicate S κ k = (conforms_holds S κ k, holds_conforms)

-- ---- 2. check 11

-- Its mark is the offset of the first command such that no conforming document begins with the bytes up to and including
-- it, while some conforming document begins with the bytes before it.
pub mark_of_unexpected : (t : List ℕ) → AcceptedTable t → (d : List ℕ) (at : ℕ)
    → tree_form d ≡ passes → tree_operands (length (table_of t)) d ≡ passes → tree_expected (table_of t) d ≡ fails at → UnexpectedCommand (table_of t) d at
mark_of_unexpected t a =
    let sound-table = table_sound t (judge_accepts t a.1) in
    unexpected_command (table_of t) sound-table (instance_of (table_of t) sound-table)

-- ---- 3. finite instances, heights, filler

-- In a table that passes checks 2, 4 and 5, a type passes check 6 exactly when some conforming element of that type exists.
pub instance_exactly : (t : List ℕ) → table_form t ≡ passes → table_operands (length (table_of t)) t ≡ passes → table_repeats t ≡ passes
    → (τ : ℕ) → τ < length (table_of t) → (has_instance (table_of t) τ ≡ true) ↔ Instance (table_of t) τ
instance_exactly t form operands repeats τ exists =
    (has_instance_lem (table_of t) (table_well_formed t form operands repeats) τ exists, instance_finite (table_of t) τ)

-- Heights satisfy 01's equations, and no other solution has a smaller number anywhere.
pub heights_are_least : (t : List ℕ) → AcceptedTable t
    → Solves (table_of t) (heights (table_of t)) × ((hs : List ℕ) → Solves (table_of t) hs → (τ : ℕ) → height_of (table_of t) τ ≤ height_in hs τ)
heights_are_least t a = (heights_solve (table_of t) (table_sound t (judge_accepts t a.1)), heights_least (table_of t))

-- Filler of a type conforms, and its levels are the type's height.
pub filler_is_right : (t : List ℕ) → AcceptedTable t → (τ : ℕ) → τ < length (table_of t)
    → Holds (table_of t) (kind_of (table_of t) τ) (known content (fillers content (table_of t)) τ)
    × (suc (levels (known content (fillers content (table_of t)) τ)) ≡ height_of (table_of t) τ)
filler_is_right t a τ exists =
    let sound-table = table_sound t (judge_accepts t a.1) in
    (filler_conforms (table_of t) sound-table τ exists, filler_levels (table_of t) sound-table τ exists)

-- ---- 4. images conform

-- The image of a document that conforms to the source table conforms to the target table.
pub images_conform : (s t e : List ℕ) → AcceptedEmbedding s t e → (d : List ℕ) → Conforming (table_of s) d → Conforming (table_of t) (image_of s t e d)
images_conform = conform

-- ---- 5. reading an image gives back the source

-- Reading the image of a document along the paths gives what the document's root holds.
pub reading_gives_back : (s t e : List ℕ) → AcceptedEmbedding s t e → (d : List ℕ) → Conforming (table_of s) d
    → read_back (setting_of s t e) (content_of (image_of s t e d)) ≡ some (content_of d)
reading_gives_back = read_gives_back

-- So two documents have equal images exactly when they are equal.
pub images_equal_exactly : (s t e : List ℕ) → AcceptedEmbedding s t e → (d f : List ℕ) → Conforming (table_of s) d → Conforming (table_of s) f
    → (image_of s t e d ≡ image_of s t e f) ↔ (d ≡ f)
images_equal_exactly = equal_exactly

-- ---- 6. never longer

-- A source document has at most the bytes and at most the levels of its image.
pub never_longer : (s t e : List ℕ) → AcceptedEmbedding s t e → (d : List ℕ) → Conforming (table_of s) d
    → (length d ≤ length (image_of s t e d)) × (levels_in d ≤ levels_in (image_of s t e d))
never_longer = shorter

-- ---- 7. no image

-- For any bytes: bring back refuses with 15 exactly when tables, embedding and tree are accepted and no conforming source document
-- has the tree as its image, whatever the output.
pub refused_15_exactly : (s t e tr out : List ℕ)
    → ((bring_back s t e tr out).result ≡ refused no_image) ↔ (AcceptedEmbedding s t e × AcceptedTree t tr × NoSource s t e tr)
refused_15_exactly = refused_15

-- Where some conforming source document has an accepted tree as its image, that one is brought back, if there is room for it.
pub brings_the_source : (s t e : List ℕ) → AcceptedEmbedding s t e → (tr : List ℕ) → AcceptedTree t tr → (out d : List ℕ)
    → Conforming (table_of s) d → image_of s t e d ≡ tr → bring_back s t e tr out ≡ bring_within out d (leb (length d) (length out))
brings_the_source = brought

-- Whatever bring back writes is such a document.
pub brings_only_sources : (s t e : List ℕ) → AcceptedEmbedding s t e → (tr : List ℕ) → AcceptedTree t tr → (out : List ℕ) (n f : ℕ)
    → (bring_back s t e tr out).result ≡ accepted n f
    → (d : List ℕ) × Conforming (table_of s) d × (image_of s t e d ≡ tr) × (bring_back s t e tr out ≡ bring_within out d (leb (length d) (length out)))
brings_only_sources = brought-only

-- ---- 8. reading yields conforming documents

-- What reading a conforming target document yields, where it yields something, conforms to the source table.
pub reading-conforms : (s t e : List ℕ) → AcceptedEmbedding s t e → (j k : Content) → Holds (table_of t) (kind_of (table_of t) 0) j
    → read_back (setting_of s t e) j ≡ some k → Holds (table_of s) (kind_of (table_of s) 0) k
reading-conforms s t e a = read_conforms (setting_of s t e) (judges_valid s t e (judges_accept s t e a.1))

-- A source optional choice reads as nothing exactly where the optional choice that its paths agree on is there and empty.
pub nothing_read_exactly : (X : Setting) (n s : ℕ) (ms : List ℕ) (l : Located) → kind_of X.source s ≡ choice optional ms
    → (read_to X (suc n) s l ≡ yields end)
    ↔ (follow X.target (target_of X.embedding s) (before_choice X.target (target_of X.embedding s) (first_path (paths_of X.embedding s))) l.holds ≡ some end)
nothing_read_exactly X n s ms l kind =
    let plainly = nothing_exactly X n s ms l.holds kind in
    (λ e. plainly.0 (yields_held X (suc n) s l end e), λ e. held_yields X (suc n) s l end (plainly.1 e))

-- ---- 9. measures

-- The levels, the length and the number of filler elements that are found without building the image are those of the
-- built image; `marked` builds it with a mark at each element that no path builds, and `unmarked` forgets the marks.
pub record MeasuresAgree (X : Setting) (k : Content) : Type 0 where
  pub levels_agree : image_levels X k ≡ suc (levels (image X k))
  pub length_agrees : image_length X k ≡ length (document 0 (image X k))
  pub filler_agrees : image_filler X k ≡ count_filler (image_by marked X k)
  pub marks_the_image : unmarked (image_by marked X k) ≡ image X k

pub measures_agree : (X : Setting) (k : Content) → MeasuresAgree X k
measures_agree X k =
    record { levels_agree = image-levels X k; length_agrees = image-length X k; filler_agrees = sym (marked_filler X k); marks_the_image = marked_is_image X k }

-- ---- 10. demand 3

-- Images conform, and are equal exactly when the documents are. For an image of at most 128 levels and 60,000 bytes, and
-- whatever the outputs held before: carry writes it at the start, leaves later bytes, and answers its length and its
-- number of filler elements exactly when the output is long enough, else 14 with the output unchanged; bringing it
-- back writes the source's bytes and answers their length exactly when that output is long enough. For a document of at most 60,000
-- bytes and 128 levels whose image has more: carry answers 12 where the image has a 129th level, and 13 where only its length is
-- beyond. A longer document is refused with 1, and a deeper one with 3, at the mark that the check of levels gives. No refusal changes
-- the output.
pub record DemandThree (s t e : List ℕ) : Type 0 where
  pub conforming : (d : List ℕ) → Conforming (table_of s) d → Conforming (table_of t) (image_of s t e d)
  pub distinct : (d f : List ℕ) → Conforming (table_of s) d → Conforming (table_of s) f → (image_of s t e d ≡ image_of s t e f) ↔ (d ≡ f)
  pub carry_writes : (d : List ℕ) → Conforming (table_of s) d → levels_in (image_of s t e d) ≤ max_levels → length (image_of s t e d) ≤ max_length
      → (out : List ℕ) → length (image_of s t e d) ≤ length out
      → carry s t e d out ≡ record { result = accepted (length (image_of s t e d)) (filler_of s t e d); output = image_of s t e d ++ drop (length (image_of s t e d)) out }
  pub carry_needs_room : (d : List ℕ) → Conforming (table_of s) d → levels_in (image_of s t e d) ≤ max_levels → length (image_of s t e d) ≤ max_length
      → (out : List ℕ) → length out < length (image_of s t e d)
      → carry s t e d out ≡ record { result = refused output_too_short; output = out }
  pub bring_back_returns : (d : List ℕ) → Conforming (table_of s) d → levels_in (image_of s t e d) ≤ max_levels → length (image_of s t e d) ≤ max_length
      → (out : List ℕ) → length d ≤ length out
      → bring_back s t e (image_of s t e d) out ≡ record { result = accepted (length d) 0; output = d ++ drop (length d) out }
  pub bring_back_needs_room : (d : List ℕ) → Conforming (table_of s) d → levels_in (image_of s t e d) ≤ max_levels → length (image_of s t e d) ≤ max_length
      → (out : List ℕ) → length out < length d
      → bring_back s t e (image_of s t e d) out ≡ record { result = refused output_too_short; output = out }
  pub image_beyond_levels : (d : List ℕ) → Conforming (table_of s) d → (out : List ℕ) → length d ≤ max_length → levels_in d ≤ max_levels
      → max_levels < levels_in (image_of s t e d) → carry s t e d out ≡ record { result = refused image_too_deep; output = out }
  pub image_beyond_length : (d : List ℕ) → Conforming (table_of s) d → (out : List ℕ) → length d ≤ max_length
      → levels_in (image_of s t e d) ≤ max_levels → max_length < length (image_of s t e d) → carry s t e d out ≡ record { result = refused image_too_long; output = out }
  pub source_beyond_length : (d : List ℕ) → Conforming (table_of s) d → (out : List ℕ)
      → max_length < length d → carry s t e d out ≡ record { result = refused (faulty tree too_long); output = out }
  pub source_beyond_levels : (d : List ℕ) → Conforming (table_of s) d → (out : List ℕ) → length d ≤ max_length
      → max_levels < levels_in d → (at : ℕ) × (tree_levels d ≡ fails at) × (carry s t e d out ≡ record { result = refused (faulty tree (over_limit at)); output = out })

pub demand_three : (s t e : List ℕ) → AcceptedEmbedding s t e → DemandThree s t e
unfolding untouched
demand_three s t e a =
    record {
      conforming = conform s t e a;
      distinct = equal_exactly s t e a;
      carry_writes = carried s t e a;
      carry_needs_room = not_carried s t e a;
      bring_back_returns = brought_back s t e a;
      bring_back_needs_room = not-brought-back s t e a;
      image_beyond_levels = beyond-image-levels s t e a;
      image_beyond_length = beyond-image-bytes s t e a;
      source_beyond_length = beyond-source-bytes s t e a;
      source_beyond_levels = beyond-source-levels s t e a;
    }

-- ---- 11. rules that are needed

-- With 000's prefix rule alone, the last starred case gives two documents one image.
pub choices_must_part_at_choices : PrefixRuleTooWeak
choices_must_part_at_choices = prefix_rule_too_weak

-- Filler that takes a choice's first member has no end on an accepted table.
pub filler_goes_by_height : FirstMemberEndless
filler_goes_by_height = first_member_endless

-- ---- 12. templates

-- The image of a document is its root's template, filled; what stands in a hole for a child is the child's template, filled,
-- down to the characters; what stands for filler is a row of filler, filled. The image's length and its filler, at 3 bytes
-- an element, are sums over the rows of the source elements, and its levels are those of the deepest row.
pub record FromTemplates (X : Setting) (k : Content) : Type 0 where
  pub image_filled : bytes (image X k) ≡ filled_row X.target (held_by X 0 k) (template X 0 (first_in k))
  pub child_filled : (s : ℕ) (l : Content) → writes X s l ≡ filled_row X.target (held_by X s l) (template X s (first_in l))
  pub filler_filled : (t : ℕ) → t < length X.target → (held : Hole → List ℕ)
      → filler_bytes X.target t ≡ 0x30 ∷ t ∷ (filled_row X.target held (filler_row X.target t) ++ 0x32 ∷ [])
  pub length_of_rows : image_length X k ≡ own_length X 0 (first_in k) + sum_length X 0 k + 4
  pub filler_of_rows : 3 * image_filler X k ≡ own_filler X 0 (first_in k) + sum_filler X 0 k
  pub levels_of_rows : image_levels X k ≡ suc (max (own_levels X 0 (first_in k)) (deepest X 0 0 k))

pub image_from_templates : (s t e : List ℕ) → AcceptedEmbedding s t e → (d : List ℕ) → Conforming (table_of s) d → FromTemplates (setting_of s t e) (content_of d)
image_from_templates s t e a d c =
    let X = setting_of s t e in
    let k = content_of d in
    let valid = judges_valid s t e (judges_accept s t e a.1) in
    let held = (conforming_content c).1 in
    record {
      image_filled = sym (write_image X valid k held) ∙ writes_again X 0 k;
      child_filled = writes_again X;
      filler_filled = filler_written X.target valid.target_sound;
      length_of_rows = image_length_rows X valid k held;
      filler_of_rows = image_filler_rows X valid k held;
      levels_of_rows = image_levels_rows X valid k held;
    }

-- ---- 13. lists on the paths of choices (02, N6)

-- The rule of check 9 before this request, to be held beside `right_steps` (`EmbeddingChecks`): from a choice of either kind
-- steps left sequences and choices only.
unfoldable pub sequence_or_choice : Kind → Bool
sequence_or_choice κ = is_sequence κ || is_choice κ

unfoldable pub earlier_steps : Kind → List Kind → Bool
earlier_steps text κs = leaves_only sequence_or_list κs
earlier_steps empty κs = true
earlier_steps (sequence ms) κs = leaves_only sequence_or_list κs && some_of (λ κ. true) κs
earlier_steps (choice needed ms) κs = leaves_only sequence_or_choice κs && some_of is_choice κs
earlier_steps (choice optional ms) κs = leaves_only sequence_or_choice κs && optional_first κs
earlier_steps (list m) κs = leaves_only sequence_or_list κs && some_of is_list κs

-- More is accepted now. The paths of a choice, needed or optional, that leave lists were refused with 9, here at the `21` of
-- the first of them.
pub record ListsAccepted (byte : ℕ) : Type 0 where
  pub before : judge_embedding_with (choice_of_empty byte) listed_table (judged_by earlier_steps (choice_of_empty byte) listed_table listed_embedding) ≡ refused (faulty embedding (wrong_steps 2))
  pub now : judge_embedding (choice_of_empty byte) listed_table listed_embedding ≡ accepted 2 0

pub lists_accepted : ListsAccepted 0x13 × ListsAccepted 0x17
unfolding definitions earlier_steps sequence_or_choice judge_embedding_with judged_with judged_by steps_by choice_of_empty listed_table listed_embedding
lists_accepted = (record { before = refl; now = refl }, record { before = refl; now = refl })

-- What that rule lets pass, `right_steps` does.
pub earlier_stricter : (κ : Kind) (κs : List Kind) → earlier_steps κ κs ≡ true → right_steps κ κs ≡ true
unfolding earlier_steps right_steps
earlier_stricter text κs h = h
earlier_stricter empty κs h = h
earlier_stricter (sequence ms) κs h = h
earlier_stricter (choice needed ms) κs h = and_right (leaves_only sequence_or_choice κs) (some_of is_choice κs) h
earlier_stricter (choice optional ms) κs h = and_right (leaves_only sequence_or_choice κs) (optional_first κs) h
earlier_stricter (list m) κs h = h

-- `Theorems.StepRules` has the entries with the rule left open; with `right_steps` for it they are the entries.
pub entries_by_rule : (s t e : List ℕ) → AnsweredBy s t e (judged_by right_steps s t e)
entries_by_rule = answered_by_rule

-- Every embedding accepted by the earlier rule is accepted, and every entry answers with it as it did: carry writes the same
-- images, and bring back the same sources.
pub accepted_before : (s t e : List ℕ) (n : ℕ) → judge_embedding_with s t (judged_by earlier_steps s t e) ≡ accepted n 0 → AnsweredBy s t e (judged_by earlier_steps s t e)
accepted_before s t e n = answered_too earlier_steps earlier_stricter s t e

-- In the image of a conforming document each list that a step of a followed path leaves holds exactly one item, the list that
-- takes the items of a source list aside.
pub one_item_on_paths : (s t e : List ℕ) → AcceptedEmbedding s t e → (d : List ℕ) → Conforming (table_of s) d
    → single_items (setting_of s t e) (content_of d) (content_of (image_of s t e d)) ≡ true
one_item_on_paths = single_on_paths

-- A second item in such a list, or none, is told from one: on the path of a choice, of a sequence's member, of characters, and
-- behind the list that takes the items of a list.
pub record OneItemTold (onChoice : Content → Bool) (onMembers : Content → Content → Content → Bool) : Type 0 where
  pub one_passes : onChoice (elem 6 end end) ≡ true
  pub two_fail : onChoice (elem 6 end (elem 6 end end)) ≡ false
  pub none_fails : onChoice end ≡ false
  pub ones_pass : onMembers end end end ≡ true
  pub two_on_member : onMembers (elem 3 end end) end end ≡ false
  pub two_on_characters : onMembers end (elem 5 end end) end ≡ false
  pub two_behind_items : onMembers end end (elem 3 end end) ≡ false

pub one_item_told : OneItemTold
    (λ items. single_items (setting_of (choice_of_empty 0x13) listed_table listed_embedding) (elem 1 end end) (listed_image items))
    (λ a b c. single_items (setting_of member_table member_lists_table member_lists_embedding) member_content (member_image a b c))
unfolding definitions choice_of_empty listed_table listed_embedding listed_image member_table member_lists_table member_lists_embedding member_content member_image
one_item_told =
    record { one_passes = refl; two_fail = refl; none_fails = refl; ones_pass = refl; two_on_member = refl; two_on_characters = refl; two_behind_items = refl }

-- Reading goes on in the first item of such a list, whatever comes behind it; where there is none, the path isn't there.
pub first_item_read : (T : Table) (τ m p : ℕ) (ps : List ℕ) → kind_of T τ ≡ list m
    → ((t : ℕ) (k r : Content) → follow T τ (p ∷ ps) (elem t k r) ≡ follow T (next T τ p) ps k) × (follow T τ (p ∷ ps) end ≡ none)
first_item_read = first_item_lem

-- ---- 14. characters (02, N5)

-- Test and predicate of a character's class agree.
pub class_is_predicate : (c : ℕ) (κ : CharacterClass) → (character_class c ≡ κ) ↔ Classed c κ
class_is_predicate = class_exactly

-- A document may hold 01's characters and A0 to FF, and no others.
pub allowed_exactly : (c : ℕ) → (allowed c ≡ true) ↔ (Ascii c ⊎ Accented c)
allowed_exactly = allowed_values

-- ---- 15. numbers in decimal (02, N2)

-- Each number has a decimal form, and no other.
pub record OneDecimalForm (n : ℕ) : Type 0 where
  pub digits : List ℕ
  pub is_form : DecimalForm n digits
  pub no_other : (others : List ℕ) → DecimalForm n others → others ≡ digits

pub one_decimal_form : (n : ℕ) → OneDecimalForm n
one_decimal_form n =
    let it = has_form n in
    record { digits = it.0; is_form = it.1; no_other = λ others f. form_unique n others it.0 f it.1 }

-- The same of its bytes; and they are those of no other number.
pub decimal_text_unique : (n : ℕ) (bs cs : List ℕ) → DecimalText n bs → DecimalText n cs → bs ≡ cs
decimal_text_unique = text_unique

pub decimal_text_of_one : (m n : ℕ) (bs : List ℕ) → DecimalText m bs → DecimalText n bs → m ≡ n
decimal_text_of_one = text_of_one

-- The word for acceptance, the numbers told then and the answer determine the line.
pub one_line : (word ns : List ℕ) (a : Answer) (bs cs : List ℕ) → AnswerLine word ns a bs → AnswerLine word ns a cs → bs ≡ cs
one_line = answer_line_unique

-- ---- 16. accepted exactly when valid

-- A byte string is accepted as a table exactly when a valid table writes it, in at most 60,000 bytes.
pub tables_exactly : (bs : List ℕ) → AcceptedTable bs ↔ WrittenBy ValidTable table_bytes bs
tables_exactly = table_accepted_exactly

-- As an embedding between two byte strings, exactly when valid tables write these, and a valid embedding between the two writes it,
-- each in at most 60,000 bytes.
pub embeddings_exactly : (s t e : List ℕ)
    → AcceptedEmbedding s t e ↔ (WrittenBy ValidTable table_bytes s × WrittenBy ValidTable table_bytes t × WrittenBy (ValidEmbedding (table_of s) (table_of t)) embedding_bytes e)
embeddings_exactly = embedding_accepted_exactly

-- As a tree by another, exactly when a valid table writes that, and what a valid tree's root holds writes it, each in at most 60,000
-- bytes.
pub trees_exactly : (t d : List ℕ) → AcceptedTree t d ↔ (WrittenBy ValidTable table_bytes t × WrittenBy (ValidTree (table_of t)) (document 0) d)
trees_exactly = tree_accepted_exactly

-- Reading what was written gives it back.
pub record WrittenIsRead : Type 0 where
  pub table_read : (T : Table) → table_of (table_bytes T) ≡ T
  pub embedding_read : (M : PathMapping) → mapping_of (embedding_bytes M) ≡ M
  pub tree_read : (t : ℕ) (k : Content) → content_of (document t k) ≡ k

pub written_is_read : WrittenIsRead
written_is_read = record { table_read = table_of_bytes; embedding_read = mapping_of_bytes; tree_read = content_of_document }

-- The limit of 60,000 bytes refuses no valid table, and no valid embedding of a valid table: they have at most 2,113 and 25,729
-- bytes. It does refuse trees.
pub tables_short : (T : Table) → ValidTable T → length (table_bytes T) ≤ 2113
tables_short = valid_table_short

pub embeddings_short : (S T : Table) (M : PathMapping) → ValidTable S → ValidEmbedding S T M → length (embedding_bytes M) ≤ 25729
embeddings_short S T M table valid = valid_embedding_short S T M valid table

-- ---- 17. marks

-- A check of commands, 2 to 5 and 11, fails at an offset exactly where the bytes before it are commands that the check's machine takes, one
-- after the other, and it refuses the command that stands there; or nothing stands there, and a document may not end so.
pub marks_of_tables : (bs : List ℕ) → TableMarks bs
marks_of_tables = table_marks

pub marks_of_embeddings : (S T : Table) (bs : List ℕ) → EmbeddingMarks S T bs
marks_of_embeddings = embedding_marks

pub marks_of_trees : (S : Table) (bs : List ℕ) → TreeMarks S bs
marks_of_trees = tree_marks

-- In a table that passes checks 2, 4 and 5, check 6 marks the lowest type of which no conforming element exists.
pub mark_of_endless : (t : List ℕ) → table_form t ≡ passes → table_operands (length (table_of t)) t ≡ passes → table_repeats t ≡ passes
    → (τ : ℕ) → (endless_type (table_of t) ≡ fails τ) ↔ LowestWithout (table_of t) τ
mark_of_endless t form operands repeats = endless_mark (table_of t) (table_well_formed t form operands repeats)

-- In an embedding into an accepted table that passes checks 2 and 4, each of checks 8 to 10 fails at an offset exactly where that is the
-- offset of the first path, by source type and number, that isn't as `ValidEmbedding` asks: that ends elsewhere, has wrong steps, or
-- clashes with an earlier one. At the offset of each path stand its 21 and its steps, and an earlier path has a lower offset.
pub marks_of_paths : (s t e : List ℕ) → AcceptedTable t → embedding_form (table_of s) e ≡ passes → embedding_operands (table_of t) e ≡ passes → PathMarks (table_of s) (table_of t) e
marks_of_paths s t e a form operands =
    let S = table_of s in
    let T = table_of t in
    let counted = form_holds S e form in
    let root = (table_sound t (judge_accepts t a.1)).well_formed.has_root in
    record {
      ends = ends_mark S T (embedding_of e) counted;
      steps = steps-mark S T (embedding_of e) counted (paths_walked S T e root operands);
      clashes = clash_mark S T (embedding_of e) counted;
      stands_there = path_stands S e form;
      in_order = offsets_rise S e form;
    }

-- ---- 18. clashes explained (02, N9)

-- An embedding is explained exactly when judging it answers 10.
pub explained_exactly : (s t e : List ℕ) → ((c : Clash) × (explain s t e ≡ explained c)) ↔ ((answer_of (judge_embedding s t e)).refusal ≡ 10)
explained_exactly = explained_10

-- A clash is the explanation exactly when judging answers 10 and `Explains` holds of it: the later member is the first in the document
-- whose path clashes with an earlier one of its type, the earlier is the first that it clashes with, the paths share that number of
-- steps, and the reason holds of them, while no other of the four does.
pub explains_exactly : (s t e : List ℕ) (c : Clash)
    → (explain s t e ≡ explained c) ↔ (((answer_of (judge_embedding s t e)).refusal ≡ 10) × Explains (table_of s) (table_of t) (embedding_of e) c)
explains_exactly = explained_so

-- What refusal 10 marks is the 21 of the later member.
pub later_is_marked : (s t e : List ℕ) (c : Clash) → explain s t e ≡ explained c → judge_embedding s t e ≡ refused (faulty embedding (path_clash c.mark))
later_is_marked s t e c x = (explanation_holds s t e c x).1

-- For any other embedding there is no clash to explain, and the judging answer is inside.
pub answer_is_inside : (s t e : List ℕ) → ((answer_of (judge_embedding s t e)).refusal ≡ 10 → ⊥) → explain s t e ≡ unexplained (judge_embedding s t e)
answer_is_inside = explain_other

-- The four reasons cover every clash: of two paths whose steps exist and that clash, one of them holds, and no other does.
pub reasons_cover : (T : Table) (κ : Kind) (τ : ℕ) (ps qs : List ℕ) → StepsExist T τ ps → StepsExist T τ qs → (NoClash T κ τ ps qs → ⊥)
    → (why : Reason) × ReasonHolds T τ ps qs why × ((r : Reason) → ReasonHolds T τ ps qs r → r ≡ why)
reasons_cover = one_holds

-- The numbers of an explanation begin with those of the judging answer.
pub numbers_begin_as_judged : (s t e : List ℕ) → (explanation_numbers (explain s t e)).answer ≡ answer_of (judge_embedding s t e)
numbers_begin_as_judged = numbers_as_judged

-- ---- 19. tables that keep their sums (02, N8)

-- Bytes write a type exactly where, with 1F behind them, they pass check 2 and are read to the table of that type alone.
pub type_exactly : (cs : List ℕ) (κ : Kind) → (type_in cs ≡ some κ) ↔ ((table_form (cs ++ 0x1F ∷ []) ≡ passes) × (table_of (cs ++ 0x1F ∷ []) ≡ κ ∷ []))
type_exactly = type_alone

-- An operation that is accepted, on any table, leaves the table with what it appends (`Appends`), which is valid, and answers its number
-- of types, as judging its bytes does.
pub record OperationDone (T : Table) (o : Operation) (n : ℕ) : Type 0 where
  pub appends : Appends T o (operate T o).table
  pub is_valid : ValidTable (operate T o).table
  pub number_of_types : n ≡ length (operate T o).table
  pub judged_so : judge_table (table_bytes (operate T o).table) ≡ accepted n 0

pub operation_done : (T : Table) (o : Operation) (n : ℕ) → (operate T o).result ≡ accepted n 0 → OperationDone T o n
operation_done T o n e = let it = done T o e in record { appends = it.0; is_valid = it.1; number_of_types = it.2; judged_so = it.3 }

-- Where the bytes of the table with what an operation appends are accepted, the operation leaves that table and answers its number of
-- types.
pub accepted_as_written : (T : Table) (o : Operation) (after : Table) → Appends T o after → AcceptedTable (table_bytes after)
    → operate T o ≡ record { result = accepted (length after) 0; table = after }
accepted_as_written = done_where_accepted

-- Where checks 2 to 6 find a fault in these bytes, the operation is refused for that fault, in document 1 and without its mark.
pub refused_as_written : (T : Table) (o : Operation) (after : Table) (f : Fault) → Appends T o after → checked_table (table_bytes after) ≡ has f
    → (operate T o).result ≡ refused (faulty source_table (without_mark f))
refused_as_written = fault_answered

-- An operation that is refused, on any table, leaves the table as it was, and the refusal has document 1 and mark 0.
pub operation_refused : (T : Table) (o : Operation) (why : Refusal) → (operate T o).result ≡ refused why
    → ((operate T o).table ≡ T) × ((numbers_of why).document ≡ 1) × ((numbers_of why).mark ≡ 0)
operation_refused = refused_plain

-- A member is refused with 19 exactly where the type to extend is no choice of either kind; a number that is no type is none.
pub refused_19_exactly : (T : Table) (t m : ℕ) → ((operate T (append_member t m)).result ≡ refused no_choice) ↔ (is_choice (kind_of T t) ≡ false)
refused_19_exactly = no_choice_exactly

-- A type is refused with 2 where its bytes write none.
pub refused_no_type : (T : Table) (cs : List ℕ) → type_in cs ≡ none → (operate T (append_type cs)).result ≡ refused (faulty source_table (bad_form 0))
unfolding unchanged
refused_no_type T cs e = rw (no_type_there T cs e)

-- On a valid table, which by statement 16 is that of any accepted document, a member is refused with 19, 3, 4 or 5, so never with 2 or 6.
pub member_refusals : (T : Table) → ValidTable T → (t m : ℕ) (why : Refusal) → (operate T (append_member t m)).result ≡ refused why
    → ((numbers_of why).number ≡ 19) ⊎ ((numbers_of why).number ≡ 3) ⊎ ((numbers_of why).number ≡ 4) ⊎ ((numbers_of why).number ≡ 5)
member_refusals = member_refusal

-- Where a type was appended to a valid table, no older type's height or kept filler length moved.
pub types_move_nothing : (T : Table) → ValidTable T → (cs : List ℕ) (n : ℕ) → (operate T (append_type cs)).result ≡ accepted n 0 → (t : ℕ) → t < length T
    → (height_of (operate T (append_type cs)).table t ≡ height_of T t) × (kept_length (operate T (append_type cs)).table t ≡ kept_length T t)
types_move_nothing T valid cs n = older_kept T valid cs

-- Where member m was appended to type t of a valid table, a choice of either kind, no height rose. Unless t is a choice that needs a
-- member and m was strictly lower than all it had, no type's height or kept filler length moved; if it is and m was, the height of t fell.
pub record MemberMoves (T after : Table) (t m : ℕ) (need : Need) (ms : List ℕ) : Type 0 where
  pub heights_fall : (u : ℕ) → height_of after u ≤ height_of T u
  pub else_unmoved : ((need ≡ needed) × (height_of T m < lowest (heights T) ms) → ⊥)
      → (u : ℕ) → u < length T → (height_of after u ≡ height_of T u) × (kept_length after u ≡ kept_length T u)
  pub own_falls : need ≡ needed → height_of T m < lowest (heights T) ms → height_of after t < height_of T t

pub member_moves : (T : Table) → ValidTable T → (t m : ℕ) (need : Need) (ms : List ℕ) → kind_of T t ≡ choice need ms
    → (n : ℕ) → (operate T (append_member t m)).result ≡ accepted n 0 → MemberMoves T (operate T (append_member t m)).table t m need ms
member_moves T valid t m need ms is n e =
    record {
      heights_fall = member_falls T valid t m need ms is e;
      else_unmoved = member_kept T valid t m need ms is e;
      own_falls = member_moved T valid t m need ms is e;
    }

-- ---- 20. reading along the paths (02, N4)

-- Reading the image of a conforming document yields what the document's root holds, and as many elements are left out as the image
-- has filler elements.
pub images_are_read : (s t e : List ℕ) → AcceptedEmbedding s t e → (d : List ℕ) → Conforming (table_of s) d
    → (reading (setting_of s t e) (content_of (image_of s t e d)) ≡ yields (content_of d))
    × (left_out_of (setting_of s t e) (content_of d) (content_of (image_of s t e d)) ≡ filler_of s t e d)
images_are_read = read_of_image

-- Where some conforming source document has an accepted tree as its image, reading the tree gives that one, if there is room for it,
-- and counts the image's filler elements; the output is the one that bringing back leaves.
pub reads_as_brought_back : (s t e : List ℕ) → AcceptedEmbedding s t e → (tr : List ℕ) → AcceptedTree t tr → (out d : List ℕ)
    → Conforming (table_of s) d → image_of s t e d ≡ tr
    → (read_along s t e tr out ≡ read_within out d (filler_of s t e d) (leb (length d) (length out))) × ((read_along s t e tr out).output ≡ (bring_back s t e tr out).output)
reads_as_brought_back = read-like-brought

-- What is read from a conforming target document is a conforming source document, with at most its bytes and at most its levels.
pub read_conforms_and_is_no_longer : (s t e : List ℕ) → AcceptedEmbedding s t e → (tr : List ℕ) → Conforming (table_of t) tr
    → (k : Content) → reading (setting_of s t e) (content_of tr) ≡ yields k
    → Conforming (table_of s) (document 0 k) × (length (document 0 k) ≤ length tr) × (levels_in (document 0 k) ≤ levels_in tr)
read_conforms_and_is_no_longer = read-conforming

-- What `on_paths` leaves of target content is that content with elements and characters taken away.
pub only_left_out : (X : Setting) (j k : Content) → LeftOf (on_paths X j k) k
only_left_out = kept-left

-- Of a conforming target document that was read it leaves the image of what was read, without its filler elements; and the elements
-- that are left and those left out are together all elements but the root.
pub what_is_left : (s t e : List ℕ) → AcceptedEmbedding s t e → (tr : List ℕ) → Conforming (table_of t) tr
    → (j : Content) → reading (setting_of s t e) (content_of tr) ≡ yields j
    → (on_paths (setting_of s t e) j (content_of tr) ≡ bare_image (setting_of s t e) j)
    × (elements (on_paths (setting_of s t e) j (content_of tr)) + left_out_of (setting_of s t e) j (content_of tr) ≡ elements (content_of tr))
what_is_left = left-is-bare-image

-- Two conforming target documents that are read, and of which the same is left, are read as the same.
pub same_where_left_out : (s t e : List ℕ) → AcceptedEmbedding s t e → (c d : List ℕ) → Conforming (table_of t) c → Conforming (table_of t) d
    → (i j : Content) → reading (setting_of s t e) (content_of c) ≡ yields i → reading (setting_of s t e) (content_of d) ≡ yields j
    → on_paths (setting_of s t e) i (content_of c) ≡ on_paths (setting_of s t e) j (content_of d) → i ≡ j
same_where_left_out = told_by_what_is_left

-- For any bytes: reading refuses with 17 and a mark exactly when tables, embedding and tree are accepted and the mark is the offset of
-- the target element that stands for the first source element, in document order, whose own paths can't be followed, whatever the
-- output.
pub refused_17_exactly : (s t e tr out : List ℕ) (at : ℕ)
    → ((read_along s t e tr out).result ≡ refused (unreadable at)) ↔ (AcceptedEmbedding s t e × AcceptedTree t tr × FirstUnreadable (setting_of s t e) 0 (located 2 (content_of tr)) at)
refused_17_exactly = refused_17

-- At this mark of the tree an element opens, and it holds content from which the own paths of some source type can't be followed.
pub mark_17_is_an_element : (s t e tr out : List ℕ) (at : ℕ) → (read_along s t e tr out).result ≡ refused (unreadable at)
    → (σ : ℕ) × (inside : Content) × Opens tr at inside
    × PathMissing (table_of t) (target_of (embedding_of e) σ) (paths_of (embedding_of e) σ) inside (kind_of (table_of s) σ)
mark_17_is_an_element = mark_17_opens

-- Whatever reading writes is what was read, with its length and the number of elements left out as the answer.
pub reads_only : (s t e : List ℕ) → AcceptedEmbedding s t e → (tr : List ℕ) → AcceptedTree t tr → (out : List ℕ) (n c : ℕ)
    → (read_along s t e tr out).result ≡ accepted n c
    → (k : Content) × (reading (setting_of s t e) (content_of tr) ≡ yields k)
    × (read_along s t e tr out ≡ read_within out (document 0 k) (left_out_of (setting_of s t e) k (content_of tr)) true)
    × (n ≡ length (document 0 k)) × (c ≡ left_out_of (setting_of s t e) k (content_of tr))
reads_only = read_only

-- ---- 21. everything went across, counted (02, N14)

-- Of a document and its image: each element of the document, by its address, stands at an element of the image, of the type that its own
-- is mapped to, which holds the image of what it holds; and no two stand at the same. Where an element stands is found from the paths
-- alone (`stands_at`).
pub record ElementsStand (s t e d written : List ℕ) : Type 0 where
  pub at_an_element : (a : List ℕ) (x : Element) → element_at 0 (content_of d) a ≡ some x
      → element_at 0 (content_of written) (stands_at (setting_of s t e) 0 (content_of d) a)
      ≡ some (element_with (target_of (embedding_of e) x.type) (image_inside (setting_of s t e) x.type x.holds))
  pub none_shared : (a b : List ℕ) (x y : Element) → element_at 0 (content_of d) a ≡ some x → element_at 0 (content_of d) b ≡ some y
      → stands_at (setting_of s t e) 0 (content_of d) a ≡ stands_at (setting_of s t e) 0 (content_of d) b → a ≡ b

pub elements_stand : (s t e : List ℕ) → AcceptedEmbedding s t e → (d : List ℕ) → Conforming (table_of s) d → ElementsStand s t e d (image_of s t e d)
elements_stand s t e a d c =
    record {
      at_an_element = stands_in_image s t e a d c;
      none_shared = λ b f x y. none_share (setting_of s t e) (judges_valid s t e (judges_accept s t e a.1)) (content_of d) (conforming_content c).1 b f;
    }

-- The same by offsets in the bytes of the two documents. `correspondences` has a row for each element of the document, with its type, its
-- offset and the offset at which it stands in the image. As many rows as elements, in the order of the document, so that each element
-- has one; at each offset an element opens, in the image of the type that the row's is mapped to; and no two rows have the same
-- offset in the image.
pub record OffsetsStand (s t e d written : List ℕ) : Type 0 where
  pub each_listed : length (correspondences (setting_of s t e) (content_of d)) ≡ 1 + elements (content_of d)
  pub in_order : Pairs (λ p q. p.offset < q.offset) (correspondences (setting_of s t e) (content_of d))
  pub in_source : All (λ p. OpensAs d p.offset p.type) (correspondences (setting_of s t e) (content_of d))
  pub in_image : All (λ p. OpensAs written p.image_offset (target_of (embedding_of e) p.type)) (correspondences (setting_of s t e) (content_of d))
  pub none_shared : Pairs (λ p q. p.image_offset ≡ q.image_offset → ⊥) (correspondences (setting_of s t e) (content_of d))

pub offsets_stand : (s t e : List ℕ) → AcceptedEmbedding s t e → (d : List ℕ) → Conforming (table_of s) d → OffsetsStand s t e d (image_of s t e d)
offsets_stand s t e a d c =
    let X = setting_of s t e in
    let k = content_of d in
    let valid = judges_valid s t e (judges_accept s t e a.1) in
    let held = (conforming_content c).1 in
    record {
      each_listed = correspondences_count X valid k held;
      in_order = correspondences_in_order X valid k held;
      in_source = opens_in_source s t e a d c;
      in_image = correspondences_in_image X valid k held;
      none_shared = correspondences_apart X valid k held;
    }

-- The rows are those of `addresses`, which lists exactly the addresses of elements. In any document the element at an address opens at
-- `offset_at` of the address, and that is the offset of no other element.
pub addresses_exactly : (k : Content) (a : List ℕ) → Memᴰ a (addresses k) ↔ ((x : Element) × (element_at 0 k a ≡ some x))
addresses_exactly = listed_exactly

pub opens_at_offset : (k : Content) (a : List ℕ) (x : Element) → element_at 0 k a ≡ some x → (o : Opens (document 0 k) (offset_at k a) x.holds) × (o.type ≡ x.type)
opens_at_offset k a x = opens_in_lem k a

pub offsets_differ : (k : Content) (a b : List ℕ) (x y : Element) → element_at 0 k a ≡ some x → element_at 0 k b ≡ some y → offset_at k a ≡ offset_at k b → a ≡ b
offsets_differ k a b x y = offset_tells k a b

-- Each character occurs as often in the image as in the document, whatever its value.
pub characters_as_often : (s t e : List ℕ) → AcceptedEmbedding s t e → (d : List ℕ) → Conforming (table_of s) d
    → (c : ℕ) → occurrences c (content_of (image_of s t e d)) ≡ occurrences c (content_of d)
characters_as_often = occurs_in_image

-- The elements of the image, the root among them, are the filler elements, the path elements and 1. The path elements are summed over the
-- elements of the document, kind by kind, from tables, embedding and document alone (`path_elements`).
pub elements_add_up : (s t e : List ℕ) → AcceptedEmbedding s t e → (d : List ℕ) → Conforming (table_of s) d
    → 1 + elements (content_of (image_of s t e d)) ≡ filler_of s t e d + path_elements (setting_of s t e) (content_of d) + 1
elements_add_up = counted_in_image

-- All of this holds, for any bytes, of what a call of carry that isn't refused has written and answered; and judging that by the target
-- table answers the sum.
pub record WentAcross (s t e d written : List ℕ) (filler : ℕ) : Type 0 where
  pub by_address : ElementsStand s t e d written
  pub by_offset : OffsetsStand s t e d written
  pub characters : (c : ℕ) → occurrences c (content_of written) ≡ occurrences c (content_of d)
  pub adds_up : 1 + elements (content_of written) ≡ filler + path_elements (setting_of s t e) (content_of d) + 1
  pub judged_so : judge_tree t written ≡ accepted (filler + path_elements (setting_of s t e) (content_of d) + 1) 0

pub carried_across : (s t e d out : List ℕ) (n f : ℕ) → (carry s t e d out).result ≡ accepted n f → WentAcross s t e d (take n (carry s t e d out).output) f
carried_across s t e d out n f h =
    let it : Carried s t e d out n f = carried_image s t e d out n f h in
    let embedded = it.embedding_accepted in
    let conforming = it.source_conforms in
    rw (it.image_written, it.filler_answered)
    (record {
      by_address = elements_stand s t e embedded d conforming;
      by_offset = offsets_stand s t e embedded d conforming;
      characters = characters_as_often s t e embedded d conforming;
      adds_up = elements_add_up s t e embedded d conforming;
      judged_so = it.image_judged ∙ ap (λ (m : ℕ). accepted m 0) (elements_add_up s t e embedded d conforming);
    })
