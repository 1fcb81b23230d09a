-- The demands of the program: what the entries' contracts say of calls gives, with the theorems about the definitions, what an
-- owner of patches relies on. A call is named by its documents, the output before and after it, and the answer; `CarryCall` and
-- the like (`Calls.antt`) are what the contracts of the entries say of it.
use Rattle.std.specs.Prelude.{◌≡◌, refl, Bool, true, false, List, [], ◌∷◌, ◌++◌, ◌↔◌, ◌⊎◌, ℕ, ◌+◌, ◌≤◌, ◌<◌, length, take, drop}
use Rattle.std.proofs.Common.{sym, ◌∙◌, subst, inl, inr, lt_of_not-le, arith}
use Rattle.std.proofs.Math.Path.{ap}
use Rattle.std.proofs.Math.Option.{Option, none, some}
use Rattle.std.proofs.Math.Decide.{dec_le}
use Rattle.answer_numbers.specs.declared.Answer.{Answer}
use Rattle.answer_numbers.specs.declared.ExplanationNumbers.{ExplanationNumbers}
use Rattle.answer_numbers.specs.Numbers.{numbers, ten_numbers}
use Rattle.answer_numbers.specs.Numbers.{Answers}
use Rattle.lafindry.specs.Calls.{JudgeTableCall, JudgeEmbeddingCall, ExplainClashCall, ExtendTableCall, JudgeTreeCall, CarryCall, BringBackCall, ReadAlongCall}
use Rattle.model.specs.Definitions.Basics.{fails}
use Rattle.model.specs.Definitions.Table.{table_of}
use Rattle.model.specs.Definitions.Content.{Content, content_of, document}
use Rattle.model.specs.Definitions.Conformance.{Conforming}
use Rattle.model.specs.Definitions.Image.{Setting}
use Rattle.model.specs.Definitions.TreeChecks.{tree_levels, max_levels}
use Rattle.model.specs.Definitions.Refusals.{Judged, sound, has, Document, tree, operations, Fault, too_long, bad_form, over_limit, bad_operand, repeated_member, no_finite_instance, root_moved, wrong_end, wrong_steps, path_clash, unexpected, fault_number, fault_mark, Refusal, faulty, no_image, unreadable, image_too_deep, image_too_long, output_too_short, no_choice, numbers_of, document_number, max_length}
use Rattle.model.specs.Definitions.ValidTable.{ValidTable, table_bytes}
use Rattle.model.specs.Definitions.ValidEmbedding.{ValidEmbedding, embedding_bytes}
use Rattle.model.specs.Definitions.Valid.{WrittenBy, ValidTree}
use Rattle.model.specs.Definitions.Embedding.{embedding_of}
use Rattle.model.specs.Definitions.EmbeddingChecks.{Reason, equal_paths, earlier_begins, later_begins, part_at_sequence}
use Rattle.model.specs.Definitions.Inverse.{Reading, yields, missing, located}
use Rattle.model.specs.Definitions.Unreadable.{FirstUnreadable}
use Rattle.model.specs.Definitions.Counting.{path_elements}
use Rattle.model.specs.Definitions.Explanation as explanations
use Rattle.model.specs.Definitions.Extending.{Performed, performed, unread, report_if, reported, extend}
use Rattle.model.specs.Definitions.Explanation.{Clash, explained, unexplained, reason_number, explanation_numbers, Explains}
use Rattle.model.specs.Definitions.Decimal.{DecimalText, DecimalWritten, with_room, without_room}
use Rattle.model.specs.Definitions.Entries as model
use Rattle.model.specs.Definitions.Entries.{Result, refused, accepted, Outcome, answer_of, unless_faulty, judge_table, judge_embedding, judge_tree, untouched, written, carry_within, carry_content, carry, bring_content, bring_back, setting_of, read_within, read_content, read_along}
use Rattle.model.proofs.Theorems.Terms.{AcceptedEmbedding, AcceptedTree, image_of, filler_of, levels_in, NoSource}
use Rattle.model.proofs.Theorems.EntryLaws.{judges_accept, judge_accepts, judges_are_all, table_is_accepted, tree_judged, tree_is_accepted}
use Rattle.model.proofs.Statements.{DemandThree, demand_three, refused_15_exactly, decimal_text_unique, tables_exactly, embeddings_exactly, trees_exactly, explained_exactly, explains_exactly, answer_is_inside, numbers_begin_as_judged, refused_17_exactly, WentAcross, carried_across}

-- ---- answers

-- accepted with these numbers, and a document at the start of the output, later bytes as they were
pub record Wrote (doc : List ℕ) (filler : ℕ) (before after : List ℕ) (a : Answer) : Type 0 where
  pub not_refused : a.refusal ≡ 0
  pub is_length : a.value ≡ length doc
  pub is_filler : a.filler ≡ filler
  pub is_written : after ≡ doc ++ drop (length doc) before

-- refused with this number, document and mark, and the output as it was
pub record RefusedWith (number document mark : ℕ) (before after : List ℕ) (a : Answer) : Type 0 where
  pub is_number : a.refusal ≡ number
  pub is_document : a.document ≡ document
  pub is_mark : a.mark ≡ mark
  pub unchanged : after ≡ before

-- ---- demand 3

-- For an accepted embedding: images conform, and are equal exactly when the documents are. A call of carry with an image of at
-- most 128 levels and 60,000 bytes writes it exactly when the output is long enough. What a call of carry that was not refused
-- has written, handed to a call of bring back, gives the source byte for byte, exactly when that output is long enough. For a
-- document of at most 60,000 bytes and 128 levels a call of carry answers 12 where the image has a 129th level, and 13 where only its
-- length is beyond; a longer document gets 1, and a deeper one 3.
pub record ProgramDemandThree (s t e : List ℕ) : Type 0 where
  pub conforming : (d : List ℕ) → Conforming (table_of s) d → Conforming (table_of t) (image_of s t e d)
  pub distinct : (d f : List ℕ) → Conforming (table_of s) d → Conforming (table_of s) f → (image_of s t e d ≡ image_of s t e f) ↔ (d ≡ f)
  pub carries : (d : List ℕ) → Conforming (table_of s) d → levels_in (image_of s t e d) ≤ max_levels → length (image_of s t e d) ≤ max_length
      → (before after : List ℕ) (a : Answer) → CarryCall s t e d before after a → length (image_of s t e d) ≤ length before → Wrote (image_of s t e d) (filler_of s t e d) before after a
  pub carry_needs_room : (d : List ℕ) → Conforming (table_of s) d → levels_in (image_of s t e d) ≤ max_levels → length (image_of s t e d) ≤ max_length
      → (before after : List ℕ) (a : Answer) → CarryCall s t e d before after a → length before < length (image_of s t e d) → RefusedWith 14 5 0 before after a
  pub returns : (d : List ℕ) → Conforming (table_of s) d
      → (before after : List ℕ) (a : Answer) → CarryCall s t e d before after a → a.refusal ≡ 0
      → (before2 after2 : List ℕ) (b : Answer) → BringBackCall s t e (take a.value after) before2 after2 b → length d ≤ length before2 → Wrote d 0 before2 after2 b
  pub return_needs_room : (d : List ℕ) → Conforming (table_of s) d
      → (before after : List ℕ) (a : Answer) → CarryCall s t e d before after a → a.refusal ≡ 0
      → (before2 after2 : List ℕ) (b : Answer) → BringBackCall s t e (take a.value after) before2 after2 b → length before2 < length d → RefusedWith 14 5 0 before2 after2 b
  pub image_beyond_levels : (d : List ℕ) → Conforming (table_of s) d → (before after : List ℕ) (a : Answer) → CarryCall s t e d before after a
      → length d ≤ max_length → levels_in d ≤ max_levels → max_levels < levels_in (image_of s t e d) → RefusedWith 12 5 0 before after a
  pub image_beyond_length : (d : List ℕ) → Conforming (table_of s) d → (before after : List ℕ) (a : Answer) → CarryCall s t e d before after a
      → length d ≤ max_length → levels_in (image_of s t e d) ≤ max_levels → max_length < length (image_of s t e d) → RefusedWith 13 5 0 before after a
  pub source_beyond_length : (d : List ℕ) → Conforming (table_of s) d → (before after : List ℕ) (a : Answer) → CarryCall s t e d before after a
      → max_length < length d → RefusedWith 1 4 0 before after a
  pub source_beyond_levels : (d : List ℕ) → Conforming (table_of s) d → (before after : List ℕ) (a : Answer) → CarryCall s t e d before after a
      → length d ≤ max_length → max_levels < levels_in d → (at : ℕ) × (tree_levels d ≡ fails at) × RefusedWith 3 4 at before after a

-- ---- refusals are not 0

fault_number_lem : (f : Fault) → fault_number f ≡ 0 → ⊥
unfolding fault_number
fault_number_lem too_long e = omega arith
fault_number_lem (bad_form at) e = omega arith
fault_number_lem (over_limit at) e = omega arith
fault_number_lem (bad_operand at) e = omega arith
fault_number_lem (repeated_member at) e = omega arith
fault_number_lem (no_finite_instance t) e = omega arith
fault_number_lem root_moved e = omega arith
fault_number_lem (wrong_end at) e = omega arith
fault_number_lem (wrong_steps at) e = omega arith
fault_number_lem (path_clash at) e = omega arith
fault_number_lem (unexpected at) e = omega arith

refusal_number : (why : Refusal) → (numbers_of why).number ≡ 0 → ⊥
unfolding numbers_of
refusal_number (faulty d f) e = fault_number_lem f e
refusal_number no_image e = omega arith
refusal_number (unreadable at) e = omega arith
refusal_number image_too_deep e = omega arith
refusal_number image_too_long e = omega arith
refusal_number output_too_short e = omega arith
refusal_number no_choice e = omega arith

-- an answer whose refusal is 0 is acceptance
accepts : (r : Result) → (answer_of r).refusal ≡ 0 → (v : ℕ) × (f : ℕ) × (r ≡ accepted v f)
unfolding answer_of
accepts (refused why) e = absurd (refusal_number why e)
accepts (accepted v f) e = (v, f, refl)

-- the numbers of an answer, one by one
refusal_is : (a : Answer) (r : Result) → numbers a ≡ answer_of r → a.refusal ≡ (answer_of r).refusal
refusal_is a r e = ap (λ (n : model.Answer). n.refusal) e

-- so a call accepts where the model does, and only there
call_accepts : (a : Answer) (r : Result) → numbers a ≡ answer_of r → a.refusal ≡ 0 → (v : ℕ) × (f : ℕ) × (r ≡ accepted v f)
call_accepts a r e zero = accepts r (sym (refusal_is a r e) ∙ zero)

accepted_is_zero : (a : Answer) (r : Result) {v f : ℕ} → numbers a ≡ answer_of r → r ≡ accepted v f → a.refusal ≡ 0
unfolding answer_of
accepted_is_zero a r e is = refusal_is a r e ∙ ap (λ (q : Result). (answer_of q).refusal) is

-- ---- what a call did, where the model's outcome is known

wrote : (doc : List ℕ) (filler : ℕ) (before after : List ℕ) (a : Answer) {o : Outcome} → Answers o after a
    → o ≡ record { result = accepted (length doc) filler; output = doc ++ drop (length doc) before } → Wrote doc filler before after a
unfolding answer_of
wrote doc filler before after a {o} h is =
    let same : numbers a ≡ answer_of (accepted (length doc) filler) = h.same_answer ∙ ap (λ (p : Outcome). answer_of p.result) is in
    record {
      not_refused = ap (λ (n : model.Answer). n.refusal) same;
      is_length = ap (λ (n : model.Answer). n.value) same;
      is_filler = ap (λ (n : model.Answer). n.filler) same;
      is_written = h.same_output ∙ ap (λ (p : Outcome). p.output) is;
    }

refused_with : (before after : List ℕ) (a : Answer) {o : Outcome} (why : Refusal) → Answers o after a → o ≡ record { result = refused why; output = before }
    → RefusedWith (numbers_of why).number (numbers_of why).document (numbers_of why).mark before after a
unfolding answer_of
refused_with before after a {o} why h is =
    let same : numbers a ≡ answer_of (refused why) = h.same_answer ∙ ap (λ (p : Outcome). answer_of p.result) is in
    record {
      is_number = ap (λ (n : model.Answer). n.refusal) same;
      is_document = ap (λ (n : model.Answer). n.document) same;
      is_mark = ap (λ (n : model.Answer). n.mark) same;
      unchanged = h.same_output ∙ ap (λ (p : Outcome). p.output) is;
    }

no_room : (before after : List ℕ) (a : Answer) {o : Outcome} → Answers o after a → o ≡ record { result = refused output_too_short; output = before } → RefusedWith 14 5 0 before after a
unfolding numbers_of document_number
no_room before after a h is = refused_with before after a output_too_short h is

-- what was refused is not accepted
not_accepted : (before after : List ℕ) (a : Answer) {o : Outcome} (why : Refusal) → Answers o after a → o ≡ record { result = refused why; output = before } → a.refusal ≡ 0 → ⊥
not_accepted before after a why h is zero = refusal_number why (sym (refused_with before after a why h is).is_number ∙ zero)

-- a document that was written is what stands at the start
written_is : {doc before after : List ℕ} {filler : ℕ} {a : Answer} → Wrote doc filler before after a → take a.value after ≡ doc
written_is {doc} {before} {after} {filler} {a} w = rw (w.is_length, w.is_written) (take-append doc (drop (length doc) before))
  where
    take-append : (xs ys : List ℕ) → take (length xs) (xs ++ ys) ≡ xs
    take-append [] ys = refl
    take-append (x ∷ xs) ys = ap (λ (zs : List ℕ). x ∷ zs) (take-append xs ys)

-- ---- the proof

module _ (s t e : List ℕ) (demand : DemandThree s t e) (d : List ℕ) (c : Conforming (table_of s) d) where
  -- a call of carry that was not refused had an image within the limits, and wrote it
  carried : (before after : List ℕ) (a : Answer) → CarryCall s t e d before after a → a.refusal ≡ 0
      → (levels_in (image_of s t e d) ≤ max_levels) × (length (image_of s t e d) ≤ max_length) × Wrote (image_of s t e d) (filler_of s t e d) before after a
  carried before after a call accepted_call =
      elim (dec_le (length d) max_length) [
        | yes few ↦ elim (dec_le (levels_in d) max_levels) [
          | yes flat ↦ elim (dec_le (levels_in (image_of s t e d)) max_levels) [
            | yes low ↦ elim (dec_le (length (image_of s t e d)) max_length) [
              | yes short ↦ elim (dec_le (length (image_of s t e d)) (length before)) [
                | yes room ↦ (low, short, wrote _ _ before after a call (demand.carry_writes d c low short before room))
                | no less ↦ absurd (refutes (demand.carry_needs_room d c low short before (lt_of_not-le less)))
              ]
              | no long ↦ absurd (refutes (demand.image_beyond_length d c before few low (lt_of_not-le long)))
            ]
            | no high ↦ absurd (refutes (demand.image_beyond_levels d c before few flat (lt_of_not-le high)))
          ]
          | no high ↦ absurd (refutes (demand.source_beyond_levels d c before few (lt_of_not-le high)).2)
        ]
        | no long ↦ absurd (refutes (demand.source_beyond_length d c before (lt_of_not-le long)))
      ]
    where
      refutes : {why : Refusal} → carry s t e d before ≡ record { result = refused why; output = before } → ⊥
      refutes {why} is = not_accepted before after a why call is accepted_call

  -- bring back of what it wrote is bring back of the image
  handed_on : (before after : List ℕ) (a : Answer) → CarryCall s t e d before after a → a.refusal ≡ 0 → take a.value after ≡ image_of s t e d
  handed_on before after a call accepted_call = written_is (carried before after a call accepted_call).2

  returned : (before after : List ℕ) (a : Answer) → CarryCall s t e d before after a → a.refusal ≡ 0
      → (before2 after2 : List ℕ) (b : Answer) → BringBackCall s t e (take a.value after) before2 after2 b → length d ≤ length before2 → Wrote d 0 before2 after2 b
  returned before after a call accepted_call before2 after2 b back room =
      let it = carried before after a call accepted_call in
      wrote d 0 before2 after2 b (subst (λ (tr : List ℕ). BringBackCall s t e tr before2 after2 b) (handed_on before after a call accepted_call) back)
      (demand.bring_back_returns d c it.0 it.1 before2 room)

  not_returned : (before after : List ℕ) (a : Answer) → CarryCall s t e d before after a → a.refusal ≡ 0
      → (before2 after2 : List ℕ) (b : Answer) → BringBackCall s t e (take a.value after) before2 after2 b → length before2 < length d → RefusedWith 14 5 0 before2 after2 b
  not_returned before after a call accepted_call before2 after2 b back less =
      let it = carried before after a call accepted_call in
      no_room before2 after2 b (subst (λ (tr : List ℕ). BringBackCall s t e tr before2 after2 b) (handed_on before after a call accepted_call) back)
      (demand.bring_back_needs_room d c it.0 it.1 before2 less)

-- an answer of lafindry_judge_embedding that accepts
accepted_call : (s t e : List ℕ) (a : Answer) → JudgeEmbeddingCall s t e a → a.refusal ≡ 0 → AcceptedEmbedding s t e
accepted_call s t e a call zero = judges_are_all s t e (judges_accept s t e (call_accepts a (judge_embedding s t e) call zero).2)

-- Demand 3, for any tables and embedding that a call of lafindry_judge_embedding accepts.
pub program_demand_three : (s t e : List ℕ) (a : Answer) → JudgeEmbeddingCall s t e a → a.refusal ≡ 0 → ProgramDemandThree s t e
unfolding numbers_of fault_number fault_mark document_number
program_demand_three s t e a call zero =
    let demand = demand_three s t e (accepted_call s t e a call zero) in
    record {
      conforming = demand.conforming;
      distinct = demand.distinct;
      carries = λ d c low short before after b h room. wrote _ _ before after b h (demand.carry_writes d c low short before room);
      carry_needs_room = λ d c low short before after b h less. no_room before after b h (demand.carry_needs_room d c low short before less);
      returns = returned s t e demand;
      return_needs_room = not_returned s t e demand;
      image_beyond_levels = λ d c before after b h few flat high. refused_with before after b image_too_deep h (demand.image_beyond_levels d c before few flat high);
      image_beyond_length = λ d c before after b h few low long. refused_with before after b image_too_long h (demand.image_beyond_length d c before few low long);
      source_beyond_length = λ d c before after b h long. refused_with before after b (faulty tree too_long) h (demand.source_beyond_length d c before long);
      source_beyond_levels = λ d c before after b h few high.
          let it = demand.source_beyond_levels d c before few high in (it.0, it.1, refused_with before after b (faulty tree (over_limit it.0)) h it.2);
    }

-- ---- demand 1: a refusal changes no byte of the output, whatever the bytes

-- an outcome accepts, or has the output as it was
abbrev Keeps : List ℕ → Outcome → Type 0
Keeps before o = ((answer_of o.result).refusal ≡ 0) ⊎ (o.output ≡ before)

keeps_untouched : (before : List ℕ) (why : Refusal) → Keeps before (untouched before why)
unfolding untouched
keeps_untouched before why = inr refl

keeps_judged : (before : List ℕ) (d : Document) (j : Judged) (later : Unit {0} → Outcome) → Keeps before (later tt) → Keeps before (unless_faulty (untouched before) d j later)
unfolding unless_faulty
keeps_judged before d sound later h = h
keeps_judged before d (has f) later h = keeps_untouched before (faulty d f)

keeps_within : (before : List ℕ) (X : Setting) (k : Content) (low short room : Bool) → Keeps before (carry_within before X k low short room)
unfolding carry_within written answer_of
keeps_within before X k false short room = keeps_untouched before image_too_deep
keeps_within before X k true false room = keeps_untouched before image_too_long
keeps_within before X k true true false = keeps_untouched before output_too_short
keeps_within before X k true true true = inl refl

keeps_carry : (s t e tr before : List ℕ) → Keeps before (carry s t e tr before)
unfolding carry carry_content
keeps_carry s t e tr before = keeps_judged before _ _ _ (keeps_judged before _ _ _ (keeps_judged before _ _ _ (keeps_judged before _ _ _ (keeps_within before _ _ _ _ _))))

keeps_room : (before doc : List ℕ) (count : ℕ) (room : Bool) → Keeps before (read_within before doc count room)
unfolding read_within written answer_of
keeps_room before doc count false = keeps_untouched before output_too_short
keeps_room before doc count true = inl refl

keeps_found : (before : List ℕ) (o : Option Content) → Keeps before (bring_content before o)
unfolding bring_content
keeps_found before none = keeps_untouched before no_image
keeps_found before (some k) = keeps_room before _ _ _

keeps_bring_back : (s t e tr before : List ℕ) → Keeps before (bring_back s t e tr before)
unfolding bring_back
keeps_bring_back s t e tr before = keeps_judged before _ _ _ (keeps_judged before _ _ _ (keeps_judged before _ _ _ (keeps_judged before _ _ _ (keeps_found before _))))

keeps_read : (before : List ℕ) (X : Setting) (k : Content) (r : Reading) → Keeps before (read_content before X k r)
unfolding read_content
keeps_read before X k (missing at) = keeps_untouched before (unreadable at)
keeps_read before X k (yields j) = keeps_room before _ _ _

keeps_read_along : (s t e tr before : List ℕ) → Keeps before (read_along s t e tr before)
unfolding read_along
keeps_read_along s t e tr before = keeps_judged before _ _ _ (keeps_judged before _ _ _ (keeps_judged before _ _ _ (keeps_judged before _ _ _ (keeps_read before _ _ _))))

keeps_report : (before bytes : List ℕ) (room : Bool) → Keeps before (report_if room before bytes)
unfolding report_if answer_of
keeps_report before bytes false = keeps_untouched before output_too_short
keeps_report before bytes true = inl refl

keeps_reported : (before : List ℕ) (p : Performed) → Keeps before (reported before p)
unfolding reported
keeps_reported before (unread at) = keeps_untouched before (faulty operations (bad_form at))
keeps_reported before (performed rs T) = keeps_report before _ _

keeps_extend : (t ops before : List ℕ) → Keeps before (extend t ops before)
unfolding extend
keeps_extend t ops before = keeps_judged before _ _ _ (keeps_judged before _ _ _ (keeps_reported before _))

-- a call whose outcome keeps the output, and that was refused
kept : (before after : List ℕ) (a : Answer) (o : Outcome) → Answers o after a → Keeps before o → (a.refusal ≡ 0 → ⊥) → after ≡ before
kept before after a o h (inl zero) refused-call = absurd (refused-call (refusal_is a o.result h.same_answer ∙ zero))
kept before after a o h (inr same) refused-call = h.same_output ∙ same

pub refused_carry_keeps_output : (s t e tr before after : List ℕ) (a : Answer) → CarryCall s t e tr before after a → (a.refusal ≡ 0 → ⊥) → after ≡ before
refused_carry_keeps_output s t e tr before after a call = kept before after a _ call (keeps_carry s t e tr before)

pub refused_bring_back_keeps_output : (s t e tr before after : List ℕ) (a : Answer) → BringBackCall s t e tr before after a → (a.refusal ≡ 0 → ⊥) → after ≡ before
refused_bring_back_keeps_output s t e tr before after a call = kept before after a _ call (keeps_bring_back s t e tr before)

pub refused_read_along_keeps_output : (s t e tr before after : List ℕ) (a : Answer) → ReadAlongCall s t e tr before after a → (a.refusal ≡ 0 → ⊥) → after ≡ before
refused_read_along_keeps_output s t e tr before after a call = kept before after a _ call (keeps_read_along s t e tr before)

pub refused_extend_keeps_output : (t ops before after : List ℕ) (a : Answer) → ExtendTableCall t ops before after a → (a.refusal ≡ 0 → ⊥) → after ≡ before
refused_extend_keeps_output t ops before after a call = kept before after a _ call (keeps_extend t ops before)

-- ---- demand 2: a document is accepted exactly when it is valid

-- A call of lafindry_judge_table accepts exactly what a valid table writes, in at most 60,000 bytes.
pub accepts_tables_exactly : (t : List ℕ) (a : Answer) → JudgeTableCall t a → (a.refusal ≡ 0) ↔ WrittenBy ValidTable table_bytes t
accepts_tables_exactly t a call = (
  λ zero. (tables_exactly t).0 (table_is_accepted t (judge_accepts t (call_accepts a (judge_table t) call zero).2)),
  λ w. accepted_is_zero a (judge_table t) call ((tables_exactly t).1 w).1,
)

-- A call of lafindry_judge_embedding accepts exactly what a valid embedding between two valid tables writes, and these tables.
pub accepts_embeddings_exactly : (s t e : List ℕ) (a : Answer) → JudgeEmbeddingCall s t e a
    → (a.refusal ≡ 0) ↔ (WrittenBy ValidTable table_bytes s × WrittenBy ValidTable table_bytes t × WrittenBy (ValidEmbedding (table_of s) (table_of t)) embedding_bytes e)
accepts_embeddings_exactly s t e a call = (
  λ zero. (embeddings_exactly s t e).0 (accepted_call s t e a call zero),
  λ w. accepted_is_zero a (judge_embedding s t e) call ((embeddings_exactly s t e).1 w).1,
)

-- A call of lafindry_judge_tree accepts exactly what a valid tree by a valid table writes, in at most 60,000 bytes, and this table.
pub accepts_trees_exactly : (t tr : List ℕ) (a : Answer) → JudgeTreeCall t tr a
    → (a.refusal ≡ 0) ↔ (WrittenBy ValidTable table_bytes t × WrittenBy (ValidTree (table_of t)) (document 0) tr)
accepts_trees_exactly t tr a call = (
  λ zero. let j = tree_judged t tr (call_accepts a (judge_tree t tr) call zero).2 in (trees_exactly t tr).0 (tree_is_accepted t tr j.0 j.1),
  λ w. accepted_is_zero a (judge_tree t tr) call ((trees_exactly t tr).1 w).1,
)

-- ---- demand 2: 15 exactly when there is no source

-- a document's faults have the numbers up to 11
low_number : (f : Fault) → fault_number f ≤ 11
unfolding fault_number
low_number too_long = omega arith
low_number (bad_form at) = omega arith
low_number (over_limit at) = omega arith
low_number (bad_operand at) = omega arith
low_number (repeated_member at) = omega arith
low_number (no_finite_instance t) = omega arith
low_number root_moved = omega arith
low_number (wrong_end at) = omega arith
low_number (wrong_steps at) = omega arith
low_number (path_clash at) = omega arith
low_number (unexpected at) = omega arith

-- only one refusal has the number 15
fifteen : (r : Result) → (answer_of r).refusal ≡ 15 → r ≡ refused no_image
unfolding answer_of numbers_of
fifteen (refused (faulty d f)) e = absurd (omega (arith, low_number f))
fifteen (refused no_image) e = refl
fifteen (refused (unreadable at)) e = absurd (omega arith)
fifteen (refused image_too_deep) e = absurd (omega arith)
fifteen (refused image_too_long) e = absurd (omega arith)
fifteen (refused output_too_short) e = absurd (omega arith)
fifteen (refused no_choice) e = absurd (omega arith)
fifteen (accepted v f) e = absurd (omega arith)

is_fifteen : (r : Result) → r ≡ refused no_image → (answer_of r).refusal ≡ 15
unfolding answer_of numbers_of
is_fifteen r e = rw e refl

-- For any bytes a call of lafindry_bring_back answers 15 exactly when tables, embedding and tree are accepted and no conforming source
-- document has the tree as its image.
pub answers_15_exactly : (s t e tr before after : List ℕ) (a : Answer) → BringBackCall s t e tr before after a
    → (a.refusal ≡ 15) ↔ (AcceptedEmbedding s t e × AcceptedTree t tr × NoSource s t e tr)
answers_15_exactly s t e tr before after a call =
    let exactly = refused_15_exactly s t e tr before in
    let same : a.refusal ≡ (answer_of (bring_back s t e tr before).result).refusal = refusal_is a _ call.same_answer in
    (λ h. exactly.0 (fifteen _ (sym same ∙ h)), λ none_has. same ∙ is_fifteen _ (exactly.1 none_has))

-- ---- reading along the paths (02, N4)

-- only one kind of refusal has the number 17, and its mark is the answer's
seventeen : (r : Result) → (answer_of r).refusal ≡ 17 → r ≡ refused (unreadable (answer_of r).mark)
unfolding answer_of numbers_of
seventeen (refused (faulty d f)) e = absurd (omega (arith, low_number f))
seventeen (refused no_image) e = absurd (omega arith)
seventeen (refused (unreadable at)) e = refl
seventeen (refused image_too_deep) e = absurd (omega arith)
seventeen (refused image_too_long) e = absurd (omega arith)
seventeen (refused output_too_short) e = absurd (omega arith)
seventeen (refused no_choice) e = absurd (omega arith)
seventeen (accepted v f) e = absurd (omega arith)

is_seventeen : (r : Result) (at : ℕ) → r ≡ refused (unreadable at) → (answer_of r).refusal ≡ 17
unfolding answer_of numbers_of
is_seventeen r at e = rw e refl

-- For any bytes a call of lafindry_read_along answers 17 exactly when tables, embedding and tree are accepted and its mark is the offset of
-- the target element that stands for the first source element, in document order, whose own paths can't be followed.
pub answers_17_exactly : (s t e tr before after : List ℕ) (a : Answer) → ReadAlongCall s t e tr before after a
    → (a.refusal ≡ 17) ↔ (AcceptedEmbedding s t e × AcceptedTree t tr × FirstUnreadable (setting_of s t e) 0 (located 2 (content_of tr)) a.mark)
answers_17_exactly s t e tr before after a call =
    let exactly = refused_17_exactly s t e tr before a.mark in
    let same : a.refusal ≡ (answer_of (read_along s t e tr before).result).refusal = refusal_is a _ call.same_answer in
    let mark : (answer_of (read_along s t e tr before).result).mark ≡ a.mark = sym (ap (λ (n : model.Answer). n.mark) call.same_answer) in
    (λ h. exactly.0 (seventeen _ (sym same ∙ h) ∙ ap (λ (at : ℕ). refused (unreadable at)) mark), λ first. same ∙ is_seventeen _ a.mark (exactly.1 first))

-- ---- everything went across, counted (02, N14)

-- Of a call of lafindry_carry that is not refused, for any bytes: each source element stands at an element of what was written, no two
-- at the same, by address and by offset; each character occurs there as often as in the source; and the elements there are the filler
-- elements answered, the path elements and the root.
pub carry_goes_across : (s t e d before after : List ℕ) (a : Answer) → CarryCall s t e d before after a → a.refusal ≡ 0 → WentAcross s t e d (take a.value after) a.filler
carry_goes_across s t e d before after a call not_refused =
    let it = call_accepts a (carry s t e d before).result call.same_answer not_refused in
    went it.0 it.1 it.2 (call.same_answer ∙ ap answer_of it.2) call.same_output
  where
    went : (n f : ℕ) → (carry s t e d before).result ≡ accepted n f → numbers a ≡ answer_of (accepted n f) → after ≡ (carry s t e d before).output
        → WentAcross s t e d (take a.value after) a.filler
    went n f is same out =
        unfold answer_of in
        rw (out, ap (λ (m : model.Answer). m.value) same, ap (λ (m : model.Answer). m.filler) same) (carried_across s t e d before n f is)

-- A call of lafindry_judge_tree on what it wrote, with the target table, answers that sum.
pub carried_elements_judged : (s t e d before after : List ℕ) (a : Answer) → CarryCall s t e d before after a → a.refusal ≡ 0
    → (b : Answer) → JudgeTreeCall t (take a.value after) b → (b.refusal ≡ 0) × (b.value ≡ a.filler + path_elements (setting_of s t e) (content_of d) + 1)
unfolding answer_of
carried_elements_judged s t e d before after a call not_refused b judging =
    let same : numbers b ≡ answer_of (accepted (a.filler + path_elements (setting_of s t e) (content_of d) + 1) 0) =
    judging ∙ ap answer_of (carry_goes_across s t e d before after a call not_refused).judged_so in
    (ap (λ (m : model.Answer). m.refusal) same, ap (λ (m : model.Answer). m.value) same)

-- ---- numbers in decimal (02, N2)

-- A number has one decimal form (statement 15). A call of lafindry_decimal leaves its bytes at the start of the output, later bytes
-- as they were, and answers how many they are, exactly when the output is long enough. If not, it answers 0 and no byte changes.
pub record DecimalDemand (n : ℕ) (text : List ℕ) : Type 0 where
  pub writes : (before after : List ℕ) (r : ℕ) → DecimalWritten n before after r → length text ≤ length before → (after ≡ text ++ drop (length text) before) × (r ≡ length text)
  pub needs_room : (before after : List ℕ) (r : ℕ) → DecimalWritten n before after r → length before < length text → (after ≡ before) × (r ≡ 0)

module _ (n : ℕ) (text : List ℕ) (form : DecimalText n text) where
  -- what a call has written, or had no room for, is that text
  is_text_lem : {other : List ℕ} → DecimalText n other → other ≡ text
  is_text_lem {other} f = decimal_text_unique n other text f form

  writes_decimal : (before after : List ℕ) (r : ℕ) → DecimalWritten n before after r → length text ≤ length before → (after ≡ text ++ drop (length text) before) × (r ≡ length text)
  writes_decimal before after r (with_room f fits same long) room = rw (sym (is_text_lem f)) (same, long)
  writes_decimal before after r (without_room f less same zero) room = absurd (omega (arith, less, ap length (is_text_lem f)))

  keeps_decimal : (before after : List ℕ) (r : ℕ) → DecimalWritten n before after r → length before < length text → (after ≡ before) × (r ≡ 0)
  keeps_decimal before after r (with_room f fits same long) few = absurd (omega (arith, fits, ap length (is_text_lem f)))
  keeps_decimal before after r (without_room f less same zero) few = (same, zero)

pub decimal_written_exactly : (n : ℕ) (text : List ℕ) → DecimalText n text → DecimalDemand n text
decimal_written_exactly n text form = record { writes = writes_decimal n text form; needs_room = keeps_decimal n text form }

-- ---- clashes explained (02, N9)

-- the numbers of a call name a clash
pub record Names (n : ExplanationNumbers) (c : Clash) : Type 0 where
  pub is_mark : n.mark ≡ c.mark
  pub is_reason : n.reason ≡ reason_number c.reason
  pub is_type : n.source ≡ c.source_type
  pub is_earlier : n.earlier ≡ c.earlier
  pub is_later : n.later ≡ c.later
  pub is_shared : n.shared ≡ c.shared

-- A call of lafindry_explain_clash answers as a call of lafindry_judge_embedding on the same documents does. Where that is 10 it names
-- the clash of which `Explains` says what holds, with a reason from 1 to 4. Where it is not, the five numbers behind the answer are 0.
pub record ExplainDemand (s t e : List ℕ) (n : ExplanationNumbers) : Type 0 where
  pub as_judged : (a : Answer) → JudgeEmbeddingCall s t e a → (ten_numbers n).answer ≡ numbers a
  pub names : n.refusal ≡ 10 → (c : Clash) × Explains (table_of s) (table_of t) (embedding_of e) c × Names n c
  pub says_why : n.refusal ≡ 10 → (1 ≤ n.reason) × (n.reason ≤ 4)
  pub nothing_else : (n.refusal ≡ 10 → ⊥) → (n.reason ≡ 0) × (n.source ≡ 0) × (n.earlier ≡ 0) × (n.later ≡ 0) × (n.shared ≡ 0)

reason_number_lem : (r : Reason) → (1 ≤ reason_number r) × (reason_number r ≤ 4)
unfolding reason_number
reason_number_lem equal_paths = (omega arith, omega arith)
reason_number_lem earlier_begins = (omega arith, omega arith)
reason_number_lem later_begins = (omega arith, omega arith)
reason_number_lem part_at_sequence = (omega arith, omega arith)

module _ (s t e : List ℕ) (n : ExplanationNumbers) (call : ExplainClashCall s t e n) where
  -- the refusal is that of judging
  judged_number : n.refusal ≡ (answer_of (judge_embedding s t e)).refusal
  judged_number = ap (λ (m : explanations.ExplanationNumbers). m.answer.refusal) call ∙ ap (λ (a : model.Answer). a.refusal) (numbers_begin_as_judged s t e)

  -- a clash is named
  named : n.refusal ≡ 10 → (c : Clash) × Explains (table_of s) (table_of t) (embedding_of e) c × Names n c
  unfolding explanation_numbers answer_of numbers_of fault_mark
  named ten =
      let x = (explained_exactly s t e).1 (sym judged_number ∙ ten) in
      let same : ten_numbers n ≡ explanation_numbers (explained x.0) = call ∙ ap explanation_numbers x.1 in (
        x.0,
        ((explains_exactly s t e x.0).0 x.1).1,
        record {
          is_mark = ap (λ (m : explanations.ExplanationNumbers). m.answer.mark) same;
          is_reason = ap (λ (m : explanations.ExplanationNumbers). m.reason) same;
          is_type = ap (λ (m : explanations.ExplanationNumbers). m.source_type) same;
          is_earlier = ap (λ (m : explanations.ExplanationNumbers). m.earlier) same;
          is_later = ap (λ (m : explanations.ExplanationNumbers). m.later) same;
          is_shared = ap (λ (m : explanations.ExplanationNumbers). m.shared) same;
        },
      )

  -- or nothing is
  none_named : (n.refusal ≡ 10 → ⊥) → (n.reason ≡ 0) × (n.source ≡ 0) × (n.earlier ≡ 0) × (n.later ≡ 0) × (n.shared ≡ 0)
  unfolding explanation_numbers
  none_named other =
      let same : ten_numbers n ≡ explanation_numbers (unexplained (judge_embedding s t e)) = call ∙ ap explanation_numbers (answer_is_inside s t e (λ ten. other (judged_number ∙ ten))) in (
        ap (λ (m : explanations.ExplanationNumbers). m.reason) same,
        ap (λ (m : explanations.ExplanationNumbers). m.source_type) same,
        ap (λ (m : explanations.ExplanationNumbers). m.earlier) same,
        ap (λ (m : explanations.ExplanationNumbers). m.later) same,
        ap (λ (m : explanations.ExplanationNumbers). m.shared) same,
      )

  pub clashes_explained : ExplainDemand s t e n
  clashes_explained =
      record {
        as_judged = λ a judged. ap (λ (m : explanations.ExplanationNumbers). m.answer) call ∙ numbers_begin_as_judged s t e ∙ sym judged;
        names = named;
        says_why = λ ten. let c = named ten in rw c.2.is_reason (reason_number_lem c.0.reason);
        nothing_else = none_named;
      }
