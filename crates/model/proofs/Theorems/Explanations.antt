-- 02, N9: what an explanation says holds of the embedding, and an embedding is explained exactly where judging refuses it with 10. A clash
-- is found by three searches, one in the other (`first_found`), so what was found and what stands before it are known at once.
use Rattle.std.proofs.Math.Path.{◌≡◌, refl, sym, ap, subst}
use Rattle.std.proofs.Common.{◌∙◌, inl, inr, arith}
use Rattle.std.specs.Prelude.{Bool, List, ◌↔◌, ℕ, suc, ◌-◌, ◌≤◌, ◌<◌, length}
use Rattle.std.proofs.Math.Bool.{true, false}
use Rattle.std.proofs.Math.Option.{Option, none, some}
use Rattle.std.proofs.Math.ListN.{get_or}
use Rattle.std.proofs.Math.Dec.{eqb}
use borrow.Author.Tests.{eqb-true, eq-eqb, eqb-false, ne_eqb}
use Rattle.model.specs.Definitions.Basics.{Verdict, passes, fails, and_then, entry}
use Rattle.model.specs.Definitions.Table.{Kind, Table, kind_of, table_of}
use Rattle.model.specs.Definitions.Embedding.{Edge, TypeMap, Embedding, no_map, target_of, no_edge, edge_of, embedding_of, parting}
use Rattle.model.specs.Definitions.EmbeddingChecks.{Reason, clash_reason, path_clash_verdict, embedding_form, embedding_operands}
use Rattle.model.specs.Definitions.ValidEmbedding.{NoClash}
use Rattle.model.specs.Definitions.Marks.{Earlier, ClashesWithNone, FirstWrong}
use Rattle.model.specs.Definitions.Refusals.{Fault, too_long, bad_form, over_limit, bad_operand, repeated_member, no_finite_instance, root_moved, wrong_end, wrong_steps, path_clash, unexpected, fault_number, Document, source_table, target_table, embedding, faulty, numbers_of, Judged, sound, has, fault_at, fault_unless}
use Rattle.model.specs.Definitions.Entries.{checked_table, judged_table, judged_embedding, Result, refused, accepted, answer_of, unless_faulty, edge_count, judge_embedding}
use Rattle.model.specs.Definitions.Explanation.{Clash, clash_for, pair_clash, clash_before, clash_of_type, clash_of, Explanation, explained, unexplained, explanation, explain, explanation_numbers, ReasonHolds, SharesSteps, Explains}
use Rattle.model.proofs.Theorems.Facts.{Walks}
use Rattle.model.proofs.Theorems.Tools.{pick_true, pick_false, some_none, entry_at, at_entry, first_there, first_nowhere}
use Rattle.model.proofs.Theorems.Runs.{passes_fails}
use Rattle.model.proofs.Theorems.Partings.{shares}
use Rattle.model.proofs.Theorems.Reasons.{parting-chooses, reason_holds, no_other_holds, given_clash, none_given}
use Rattle.model.proofs.Theorems.JudgedTables.{table_sound}
use Rattle.model.proofs.Theorems.JudgedEmbeddings.{form_holds}
use Rattle.model.proofs.Theorems.PathChecks.{AllRight, neither_less, first_same, clash_exactly, clash_mark}
use Rattle.model.proofs.Theorems.ValidEmbeddings.{paths_walked}

-- ---- what is found

module _ (T : Table) (κ : Kind) (f : TypeMap) (s : ℕ) where
  -- why members i and j clash, if they do
  abbrev why_of : ℕ → ℕ → Option Reason
  why_of j i = clash_reason κ (parting T f.target (edge_of f i).steps (edge_of f j).steps).behind

  -- where two members clash, it is for a reason that is given
  pair_found : (j i : ℕ) {c : Clash} → pair_clash T κ f s j i ≡ some c
      → (why : Reason) × (why_of j i ≡ some why) × (c ≡ clash_for T f s j i why)
  unfolding pair_clash and_then
  pair_found j i {c} e = go (why_of j i) refl e
    where
      go : (o : Option Reason) → why_of j i ≡ o → and_then o (λ why. some (clash_for T f s j i why)) ≡ some c
          → (why : Reason) × (why_of j i ≡ some why) × (c ≡ clash_for T f s j i why)
      go none q e = some_none e refl
      go (some why) q e = (why, q, cc)

  -- and where nothing is found, they don't clash
  pair_free : (j i : ℕ) → pair_clash T κ f s j i ≡ none → NoClash T κ f.target (edge_of f i).steps (edge_of f j).steps
  unfolding pair_clash and_then
  pair_free j i e = go (why_of j i) refl e
    where
      go : (o : Option Reason) → why_of j i ≡ o → and_then o (λ why. some (clash_for T f s j i why)) ≡ none
          → NoClash T κ f.target (edge_of f i).steps (edge_of f j).steps
      go none q e = none_given T f.target (edge_of f i).steps (edge_of f j).steps κ q
      go (some why) q e = some_none refl e

  -- an entry of the edges is the edge of its number
  edge_is : (i : ℕ) (d : Edge) → entry i f.edges ≡ some d → (1 ≤ i) × (i ≤ length f.edges) × (edge_of f (i - 1) ≡ d)
  unfolding edge_of
  edge_is i d there = entry_at no_edge i f.edges d there

  -- members before a number of which none clashes with member j
  free_of : (j n : ℕ) → ((m : ℕ) → 0 ≤ m → m < n → pair_clash T κ f s j m ≡ none)
      → (i : ℕ) (d : Edge) → i < suc n → entry i f.edges ≡ some d → NoClash T κ f.target d.steps (edge_of f j).steps
  free_of j n none-there i d less there =
      let at = edge_is i d there in
      subst (λ (e : Edge). NoClash T κ f.target e.steps (edge_of f j).steps) at.2 (pair_free j (i - 1) (none-there (i - 1) (omega arith) (omega (arith, at.0))))

  -- a member that nothing is found for clashes with none before it
  later_free : (i : ℕ) (e : Edge) → entry i f.edges ≡ some e → clash_before T κ f s (i - 1) ≡ none → ClashesWithNone T κ f i e
  unfolding clash_before
  later_free i e there None-found j d less before =
      let at = edge_is i e there in
      subst (λ (e : Edge). NoClash T κ f.target d.steps e.steps) at.2
      (free_of (i - 1) (i - 1) (λ m from below. first_nowhere (pair_clash T κ f s (i - 1)) 0 (i - 1) None-found m from (omega arith)) j d (omega (arith, at.0)) before)

  -- nor does any member of a source type that nothing is found for
  type_free : clash_of_type T κ f s ≡ none → (i : ℕ) (e : Edge) → entry i f.edges ≡ some e → ClashesWithNone T κ f i e
  unfolding clash_of_type
  type_free None-found i e there =
      let at = edge_is i e there in
      later_free i e there (first_nowhere (clash_before T κ f s) 0 (length f.edges) None-found (i - 1) (omega arith) (omega (arith, at.0, at.1)))

module _ (S T : Table) (E : Embedding) where
  -- what is found of source type s
  abbrev found_of : ℕ → Option Clash
  found_of s = clash_of_type T (kind_of S s) (get_or E s no_map) s

  -- where nothing is found, no path clashes with an earlier one
  all_free : clash_of S T E ≡ none → AllRight (ClashesWithNone T) S E
  unfolding clash_of
  all_free None-found s i e exists there =
      type_free T (kind_of S s) (get_or E s no_map) s (first_nowhere found_of 0 (length S) None-found s (omega arith) (omega arith)) i e there

  module _ (walks : AllRight (λ κ f i e. Walks T f.target e.steps) S E) where
    -- members i and j of source type s are explained, if nothing was found before them
    pair-explained : (s j i : ℕ) → s < length S → j < length (get_or E s no_map).edges → i < j
        → (why : Reason) → why_of T (kind_of S s) (get_or E s no_map) s j i ≡ some why
        → ((m : ℕ) → 0 ≤ m → m < s → found_of m ≡ none)
        → ((m : ℕ) → 0 ≤ m → m < j → clash_before T (kind_of S s) (get_or E s no_map) s m ≡ none)
        → ((m : ℕ) → 0 ≤ m → m < i → pair_clash T (kind_of S s) (get_or E s no_map) s j m ≡ none)
        → (c : Clash) → c ≡ clash_for T (get_or E s no_map) s j i why → Explains S T E c
    unfolding clash_for target_of edge_of
    pair-explained s j i exists last less why given types-free later-ones-free pairs-free c is =
        subst (Explains S T E) (sym is) (record {
          type_exists = exists;
          one = edge_of f i;
          other = edge_of f j;
          earlier_stands = stands i first;
          later_stands = stands j last;
          in_order = omega arith;
          marked = refl;
          they_clash = given_clash T f.target (edge_of f i).steps (edge_of f j).steps (kind_of S s) given;
          first_later = before;
          first_earlier = free_of T (kind_of S s) f s j i pairs-free;
          shares = shares T f.target (edge_of f i).steps (edge_of f j).steps;
          holds = reason_holds T f.target (edge_of f i).steps (edge_of f j).steps (walked i first) (walked j last) (kind_of S s) given;
          no_other = no_other_holds T f.target (edge_of f i).steps (edge_of f j).steps (kind_of S s) given;
          parts_of_choices = λ same. parting-chooses (kind_of S s) _ (given ∙ ap some same);
        })
      where
        f : TypeMap
        f = get_or E s no_map

        first : i < length f.edges
        first = omega arith

        stands : (n : ℕ) → n < length f.edges → entry (suc n) f.edges ≡ some (edge_of f n)
        stands n below = at_entry no_edge n f.edges below

        walked : (n : ℕ) → n < length f.edges → Walks T f.target (edge_of f n).steps
        walked n below = walks s (suc n) (edge_of f n) exists (stands n below)

        before : (s' i' : ℕ) (e : Edge) → s' < length S → entry i' (get_or E s' no_map).edges ≡ some e → Earlier s' i' s (suc j) → ClashesWithNone T (kind_of S s') (get_or E s' no_map) i' e
        before s' i' e exists' there (inl earlier) = type_free T (kind_of S s') (get_or E s' no_map) s' (types-free s' (omega arith) earlier) i' e there
        before s' i' e exists' there (inr same) =
            let at = edge_is T (kind_of S s') (get_or E s' no_map) s' i' e there in
            later_free T (kind_of S s') (get_or E s' no_map) s' i' e there
            (subst (λ (t : ℕ). clash_before T (kind_of S t) (get_or E t no_map) t (i' - 1) ≡ none) (sym same.0) (later-ones-free (i' - 1) (omega arith) (omega (arith, same.1, at.0))))

    -- What is found is what an explanation says: the three searches give the source type, the later and the earlier member, and that
    -- nothing was found before.
    found-explains : (c : Clash) → clash_of S T E ≡ some c → Explains S T E c
    unfolding clash_of clash_of_type clash_before target_of
    found-explains c found =
        let in-type = first_there found_of 0 (length S) found in
        let s = in-type.number in
        let later = first_there (clash_before T (kind_of S s) (get_or E s no_map) s) 0 (length (get_or E s no_map).edges) in-type.there in
        let earlier = first_there (pair_clash T (kind_of S s) (get_or E s no_map) s later.number) 0 later.number later.there in
        let pair = pair_found T (kind_of S s) (get_or E s no_map) s later.number earlier.number earlier.there in
        pair-explained s later.number earlier.number (omega (arith, in-type.below)) (omega (arith, later.below)) (omega (arith, earlier.below))
        pair.0 pair.1 in-type.none_before later.none_before earlier.none_before c pair.2

-- a path that an explanation names is the first that clashes with an earlier one
explains_wrong : {S T : Table} {E : Embedding} {c : Clash} → Explains S T E c → FirstWrong (ClashesWithNone T) S E c.mark
unfolding target_of
explains_wrong {c = c} x =
    record {
      source_type = c.source_type;
      number = c.later;
      edge = x.other;
      exists = x.type_exists;
      stands = x.later_stands;
      marked = x.marked;
      wrong = λ free. x.they_clash (free c.earlier x.one x.in_order x.earlier_stands);
      earlier_right = x.first_later;
    }

-- ---- nothing else is explained

-- two paths share one number of steps
shares_once : {m n : ℕ} {ps qs : List ℕ} → SharesSteps m ps qs → SharesSteps n ps qs → m ≡ n
shares_once one other =
    neither_less _ _ (λ less. omega (arith, less, one.longest other.common other.begins_one other.begins_other, other.number))
    (λ less. omega (arith, less, other.longest one.common one.begins_one one.begins_other, one.number))

abbrev clash_by : ℕ → ℕ → ℕ → ℕ → Reason → ℕ → Clash
clash_by s i j n why at = record { source_type = s; earlier = i; later = j; shared = n; reason = why; mark = at }

module _ {S T : Table} {E : Embedding} where
  -- of explanations about one later member, no earlier member stands before another's
  none_before : {c c' : Clash} (x : Explains S T E c) (x' : Explains S T E c') → c.source_type ≡ c'.source_type → x.other ≡ x'.other → c.earlier < c'.earlier → ⊥
  none_before {c} {c'} x x' same-type same-other less =
      let free = x'.first_earlier c.earlier x.one less (rw (← same-type) x.earlier_stands) in
      let here : NoClash T (kind_of S c.source_type) (target_of E c.source_type) x.one.steps x'.other.steps = rw same-type free in
      x.they_clash (subst (λ (e : Edge). NoClash T (kind_of S c.source_type) (target_of E c.source_type) x.one.steps e.steps) (sym same-other) here)

  -- so two explanations are one: the later member is the first that clashes, the earlier is the first that it clashes with, and what is
  -- said of the two paths holds of nothing else
  explains_once : (c c' : Clash) → Explains S T E c → Explains S T E c' → c ≡ c'
  unfolding explains_wrong
  explains_once c c' x x' =
      let all : clash_by c.source_type c.earlier c.later c.shared c.reason c.mark ≡ clash_by c'.source_type c'.earlier c'.later c'.shared c'.reason c'.mark =
      rw (same-type, same-earlier, same.1, same_shared, same-reason, same-mark) refl in
      all
    where
      same : (c.source_type ≡ c'.source_type) × (c.later ≡ c'.later) × (x.other ≡ x'.other)
      same = first_same (ClashesWithNone T) (explains_wrong x) (explains_wrong x')

      same-type : c.source_type ≡ c'.source_type
      same-type = same.0

      same-earlier : c.earlier ≡ c'.earlier
      same-earlier = neither_less _ _ (none_before x x' same-type same.2) (none_before x' x (sym same-type) (sym same.2))

      same-one : x.one ≡ x'.one
      same-one = let one = x.earlier_stands in let other : entry c.earlier (get_or E c.source_type no_map).edges ≡ some x'.one = rw (same-type, same-earlier) x'.earlier_stands in cc

      same_shared : c.shared ≡ c'.shared
      same_shared = shares_once x.shares (subst (λ (d : Edge). SharesSteps c'.shared d.steps x.other.steps) (sym same-one)
          (subst (λ (e : Edge). SharesSteps c'.shared x'.one.steps e.steps) (sym same.2) x'.shares))

      same-reason : c.reason ≡ c'.reason
      same-reason =
          let here : ReasonHolds T (target_of E c'.source_type) x.one.steps x.other.steps c.reason = rw (← same-type) x.holds in
          x'.no_other c.reason (subst (λ (e : Edge). ReasonHolds T (target_of E c'.source_type) x'.one.steps e.steps c.reason) same.2
          (subst (λ (d : Edge). ReasonHolds T (target_of E c'.source_type) d.steps x.other.steps c.reason) same-one here))

      same-mark : c.mark ≡ c'.mark
      same-mark = x.marked ∙ ap (λ (e : Edge). e.at) same.2 ∙ sym x'.marked

-- ---- refused with 10

-- of all faults a clash has the number 10
clash_number : (f : Fault) → fault_number f ≡ 10 → (at : ℕ) × (f ≡ path_clash at)
unfolding fault_number
clash_number too_long e = absurd (omega arith)
clash_number (bad_form at) e = absurd (omega arith)
clash_number (over_limit at) e = absurd (omega arith)
clash_number (bad_operand at) e = absurd (omega arith)
clash_number (repeated_member at) e = absurd (omega arith)
clash_number (no_finite_instance t) e = absurd (omega arith)
clash_number root_moved e = absurd (omega arith)
clash_number (wrong_end at) e = absurd (omega arith)
clash_number (wrong_steps at) e = absurd (omega arith)
clash_number (path_clash at) e = (at, refl)
clash_number (unexpected at) e = absurd (omega arith)

-- a check with another number passed, where a later one found a clash
past_check : (name : ℕ → Fault) → ((i : ℕ) → fault_number (name i) ≡ 10 → ⊥) → (v : Verdict) (later : Unit {0} → Judged) {at : ℕ}
    → fault_at name v later ≡ has (path_clash at) → (v ≡ passes) × (later tt ≡ has (path_clash at))
unfolding fault_at
past_check name other passes later e = (refl, e)
past_check name other (fails i) later {at} e = absurd (other i (unfold fault_number in (let same : name i ≡ path_clash at = cc in rw same refl)))

past_test : (f : Fault) → (fault_number f ≡ 10 → ⊥) → (b : Bool) (later : Unit {0} → Judged) {at : ℕ}
    → fault_unless f b later ≡ has (path_clash at) → (b ≡ true) × (later tt ≡ has (path_clash at))
unfolding fault_unless
past_test f other true later e = (refl, e)
past_test f other false later {at} e = absurd (other (unfold fault_number in (let same : f ≡ path_clash at = cc in rw same refl)))

-- no table is refused for a clash
table_no_clash : (bs : List ℕ) {at : ℕ} → judged_table bs ≡ has (path_clash at) → ⊥
unfolding judged_table checked_table fault_number
table_no_clash bs {at} e =
    let r1 = past_test too_long (λ n. omega arith) _ _ e in
    let r2 = past_check bad_form (λ i n. omega arith) _ _ r1.1 in
    let r3 = past_check over_limit (λ i n. omega arith) _ _ r2.1 in
    let r4 = past_check bad_operand (λ i n. omega arith) _ _ r3.1 in
    let r5 = past_check repeated_member (λ i n. omega arith) _ _ r4.1 in
    let r6 = past_check no_finite_instance (λ i n. omega arith) _ _ r5.1 in
    let last = r6.1 in
    let z : ◌≡◌ {A = ℕ} 0 1 = cc in
    absurd (omega arith)

-- what is known of an embedding that is refused for a clash
pub record OnlyClash (S T : Table) (bs : List ℕ) (at : ℕ) : Type 0 where
  pub form : embedding_form S bs ≡ passes
  pub operands : embedding_operands T bs ≡ passes
  pub clashes : path_clash_verdict S T (embedding_of bs) ≡ fails at

found_last : (v : Verdict) {at : ℕ} → fault_at path_clash v (λ u. sound) ≡ has (path_clash at) → v ≡ fails at
unfolding fault_at
found_last passes {at} e = let z : ◌≡◌ {A = ℕ} 0 1 = cc in absurd (omega arith)
found_last (fails i) {at} e = cc

pub only_clash : (S T : Table) (bs : List ℕ) {at : ℕ} → judged_embedding S T bs ≡ has (path_clash at) → OnlyClash S T bs at
unfolding judged_embedding fault_number
only_clash S T bs {at} e =
    let r1 = past_test too_long (λ n. omega arith) _ _ e in
    let r2 = past_check bad_form (λ i n. omega arith) _ _ r1.1 in
    let r3 = past_check over_limit (λ i n. omega arith) _ _ r2.1 in
    let r4 = past_check bad_operand (λ i n. omega arith) _ _ r3.1 in
    let r5 = past_test root_moved (λ n. omega arith) _ _ r4.1 in
    let r6 = past_check wrong_end (λ i n. omega arith) _ _ r5.1 in
    let r7 = past_check wrong_steps (λ i n. omega arith) _ _ r6.1 in
    record { form = r2.0; operands = r4.0; clashes = found_last (path_clash_verdict S T (embedding_of bs)) r7.1 }

-- judging an embedding answers 10
pub record RefusedFor10 (s t e : List ℕ) : Type 0 where
  pub source_sound : judged_table s ≡ sound
  pub target_sound : judged_table t ≡ sound
  pub at : ℕ
  pub found : judged_embedding (table_of s) (table_of t) e ≡ has (path_clash at)

-- a table was accepted, where judging answers 10
past_table : (d : Document) (bs : List ℕ) (later : Unit {0} → Result) → (answer_of (unless_faulty refused d (judged_table bs) later)).refusal ≡ 10
    → (judged_table bs ≡ sound) × ((answer_of (later tt)).refusal ≡ 10)
unfolding unless_faulty answer_of numbers_of
past_table d bs later e = go (judged_table bs) refl e
  where
    go : (j : Judged) → judged_table bs ≡ j → (answer_of (unless_faulty refused d j later)).refusal ≡ 10 → (judged_table bs ≡ sound) × ((answer_of (later tt)).refusal ≡ 10)
    go sound q e = (q, e)
    go (has f) q e = let c = clash_number f e in absurd (table_no_clash bs (q ∙ ap has c.1))

-- and the embedding refused for a clash
embedding_10 : (S T : Table) (bs : List ℕ) (n : ℕ) → (answer_of (unless_faulty refused embedding (judged_embedding S T bs) (λ u. accepted n 0))).refusal ≡ 10
    → (at : ℕ) × (judged_embedding S T bs ≡ has (path_clash at))
unfolding unless_faulty answer_of numbers_of
embedding_10 S T bs n h = go (judged_embedding S T bs) refl h
  where
    go : (j : Judged) → judged_embedding S T bs ≡ j → (answer_of (unless_faulty refused embedding j (λ u. accepted n 0))).refusal ≡ 10 → (at : ℕ) × (judged_embedding S T bs ≡ has (path_clash at))
    go sound q h = absurd (omega arith)
    go (has f) q h = let c = clash_number f h in (c.0, q ∙ ap has c.1)

pub refused_10 : (s t e : List ℕ) → (answer_of (judge_embedding s t e)).refusal ≡ 10 → RefusedFor10 s t e
unfolding judge_embedding
refused_10 s t e h =
    let first = past_table source_table s _ h in
    let second = past_table target_table t _ first.1 in
    let third = embedding_10 (table_of s) (table_of t) e (edge_count (table_of s)) second.1 in
    record { source_sound = first.0; target_sound = second.0; at = third.0; found = third.1 }

-- and such documents are refused so
pub refused_so : {s t e : List ℕ} → (r : RefusedFor10 s t e) → judge_embedding s t e ≡ refused (faulty embedding (path_clash r.at))
unfolding judge_embedding unless_faulty
refused_so r = rw (r.source_sound, r.target_sound, r.found) refl

-- ---- explaining

module _ (s t e : List ℕ) where
  -- by what was found, where judging answers 10
  pub explain_10 : (answer_of (judge_embedding s t e)).refusal ≡ 10 → explain s t e ≡ explanation (judge_embedding s t e) (clash_of (table_of s) (table_of t) (embedding_of e))
  unfolding explain
  explain_10 h = pick_true _ _ _ (eq-eqb _ 10 h)

  -- and by the judging answer elsewhere
  pub explain_other : ((answer_of (judge_embedding s t e)).refusal ≡ 10 → ⊥) → explain s t e ≡ unexplained (judge_embedding s t e)
  unfolding explain
  explain_other h = pick_false _ _ _ (ne_eqb _ 10 h)

  -- something is found where judging answers 10
  found_10 : RefusedFor10 s t e → (c : Clash) × (clash_of (table_of s) (table_of t) (embedding_of e) ≡ some c)
  found_10 r = go (clash_of (table_of s) (table_of t) (embedding_of e)) refl
    where
      checked : OnlyClash (table_of s) (table_of t) e r.at
      checked = only_clash (table_of s) (table_of t) e r.found

      go : (o : Option Clash) → clash_of (table_of s) (table_of t) (embedding_of e) ≡ o → (c : Clash) × (clash_of (table_of s) (table_of t) (embedding_of e) ≡ some c)
      go none q =
          passes_fails ((clash_exactly (table_of s) (table_of t) (embedding_of e) (form_holds (table_of s) e checked.form)).1 (all_free (table_of s) (table_of t) (embedding_of e) q)) checked.clashes
      go (some c) q = (c, q)

  -- it is explained exactly there
  pub explained_10 : ((c : Clash) × (explain s t e ≡ explained c)) ↔ ((answer_of (judge_embedding s t e)).refusal ≡ 10)
  unfolding explanation
  explained_10 = (λ x. ten x.0 x.1, λ h. let c = found_10 (refused_10 s t e h) in (c.0, explain_10 h ∙ ap (explanation (judge_embedding s t e)) c.1))
    where
      ten : (c : Clash) → explain s t e ≡ explained c → (answer_of (judge_embedding s t e)).refusal ≡ 10
      ten c x = go (eqb (answer_of (judge_embedding s t e)).refusal 10) refl
        where
          go : (b : Bool) → eqb (answer_of (judge_embedding s t e)).refusal 10 ≡ b → (answer_of (judge_embedding s t e)).refusal ≡ 10
          go true q = eqb-true _ 10 q
          go false q = let other = explain_other (eqb-false _ 10 q) in let z : ◌≡◌ {A = ℕ} 0 1 = cc in absurd (omega arith)

  -- and what it says holds
  pub explanation_holds : (c : Clash) → explain s t e ≡ explained c
      → Explains (table_of s) (table_of t) (embedding_of e) c × (judge_embedding s t e ≡ refused (faulty embedding (path_clash c.mark)))
  unfolding explanation
  explanation_holds c x =
      let ten = explained_10.0 (c, x) in
      let r = refused_10 s t e ten in
      let checked = only_clash (table_of s) (table_of t) e r.found in
      let found = found_10 r in
      let named : explained found.0 ≡ explained c = sym (explain_10 ten ∙ ap (explanation (judge_embedding s t e)) found.1) ∙ x in
      let same : found.0 ≡ c = cc in
      let walks = paths_walked (table_of s) (table_of t) e (table_sound t r.target_sound).well_formed.has_root checked.operands in
      let says : Explains (table_of s) (table_of t) (embedding_of e) c = found-explains (table_of s) (table_of t) (embedding_of e) walks c (found.1 ∙ ap some same) in
      let marks = (clash_mark (table_of s) (table_of t) (embedding_of e) (form_holds (table_of s) e checked.form) c.mark).1 (explains_wrong says) in
      let at_mark : r.at ≡ c.mark = fails-at (sym checked.clashes ∙ marks) in
      (says, refused_so r ∙ ap (λ (n : ℕ). refused (faulty embedding (path_clash n))) at_mark)
    where
      fails-at : {m n : ℕ} → fails m ≡ fails n → m ≡ n
      fails-at {m} {n} e = cc

  -- and nothing else is
  pub explained_so : (c : Clash) → (explain s t e ≡ explained c) ↔ (((answer_of (judge_embedding s t e)).refusal ≡ 10) × Explains (table_of s) (table_of t) (embedding_of e) c)
  explained_so c = (λ x. (explained_10.0 (c, x), (explanation_holds c x).0), λ h. so (explained_10.1 h.0) h.1)
    where
      so : ((d : Clash) × (explain s t e ≡ explained d)) → Explains (table_of s) (table_of t) (embedding_of e) c → explain s t e ≡ explained c
      so d says = d.1 ∙ ap explained (explains_once d.0 c (explanation_holds d.0 d.1).0 says)

  -- the first five numbers are those of judging
  pub numbers_as_judged : (explanation_numbers (explain s t e)).answer ≡ answer_of (judge_embedding s t e)
  unfolding explanation_numbers
  numbers_as_judged = go (explain s t e) refl
    where
      go : (x : Explanation) → explain s t e ≡ x → (explanation_numbers x).answer ≡ answer_of (judge_embedding s t e)
      go (explained c) q = sym (ap answer_of (explanation_holds c q).1)
      go (unexplained r) q = ap answer_of (inside (eqb (answer_of (judge_embedding s t e)).refusal 10) refl)
        where
          inside : (b : Bool) → eqb (answer_of (judge_embedding s t e)).refusal 10 ≡ b → r ≡ judge_embedding s t e
          inside true n = let x = (explained_10.1 (eqb-true _ 10 n)).1 in let z : ◌≡◌ {A = ℕ} 0 1 = cc in absurd (omega arith)
          inside false n = let other = explain_other (eqb-false _ 10 n) in cc
