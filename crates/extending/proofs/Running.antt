-- Operations carried out one after the other: what is left of a document gives the whole. Then the entry around them.
use mathlib.Core.Path.{◌≡◌, refl, sym, ap, ◌∙◌, subst}
use mathlib.Core.List.{List, [], ◌∷◌, ◌++◌}
use Prim.Native.Nat.{ℕ, zero, suc, ◌+◌, ◌-◌, ◌≤◌, ◌<◌}
use native.Mathlib.Omega.{arith}
use lib.ListN.{length, take, drop, length-drop, drop_of_length-le}
use lib.Seq.{drop-drop}
use borrow.Author.Tests.{le-leb, lt-leb}
use Rattle.std.specs.Prelude as prelude
use Rattle.answers.specs.declared.Document.{Document}
use Rattle.answers.specs.declared.Refusal.{Refusal}
use Rattle.answers.specs.declared.Fault.{Fault}
use Rattle.answers.specs.declared.Fault.TheVariants.{TooLong, BadForm}
use Rattle.answers.specs.Answers.{fault, refusal, counted_result}
use Rattle.model.specs.Definitions.Table as model
use Rattle.model.specs.Definitions.Refusals.{fault_unless, fits, max_length, sound, has}
use Rattle.model.specs.Definitions.Entries.{Result, refused, accepted, untouched, unless_faulty, judged_table}
use Rattle.model.specs.Definitions.Operations.{Operation, operate}
use Rattle.model.specs.Definitions.Extending.{reads, unreadable, first_operation, Performed, performed, unread, with_answer, perform_one, perform_next, perform_to, perform, answer_bytes, reported, long_operations, extend}
use Rattle.model.proofs.Theorems.OperationLaws.{done}
use Rattle.table_operations.specs.declared.Table.{Table}
use Rattle.table_operations.specs.Operations.{held, StandsFor, LoadedFrom, judgement_of}
use Rattle.writing.specs.Writing.{Writes}
use Rattle.writing.specs.Laws.{writes_then, writes-length, written_from_start}
use Rattle.extending.specs.declared.Turn.{Turn}
use Rattle.extending.specs.Extending.{Performs, Small, Reports}

-- a table that stands for another holds it, and so stands for its own
stands_for_own : (t : Table) {T : model.Table} → StandsFor t T → StandsFor t (held t)
stands_for_own t h = subst (StandsFor t) (sym h.stands.same_table) h

-- ---- one operation

module _ (most at : ℕ) (T : model.Table) where
  one_performed : (bs : List ℕ) {o : Operation} {width : ℕ} → first_operation bs ≡ reads o width
      → perform_to (suc most) at bs T ≡ with_answer (operate T o).result (perform_to most (at + width) (drop width bs) (operate T o).table)
  unfolding perform_to perform_next perform_one first_operation
  one_performed [] e = let z : ◌≡◌ {A = ℕ} 0 1 = cc in absurd (omega arith)
  one_performed (b ∷ bs) e = rw e

  none_readable : (bs : List ℕ) → 0 < length bs → first_operation bs ≡ unreadable → perform_to (suc most) at bs T ≡ unread at
  unfolding perform_to perform_next perform_one
  none_readable [] some e = absurd (omega arith)
  none_readable (b ∷ bs) some e = rw e

none_left : (most at : ℕ) (T : model.Table) → perform_to most at [] T ≡ performed [] T
unfolding perform_to perform_next
none_left zero at T = refl
none_left (suc most) at T = refl

-- ---- answers before others

pub prepended : List Result → Performed → Performed
prepended [] p = p
prepended (r ∷ rs) p = with_answer r (prepended rs p)

prepended_behind : (rs : List Result) (r : Result) (p : Performed) → prepended (rs ++ r ∷ []) p ≡ prepended rs (with_answer r p)
unfolding prepended
prepended_behind [] r p = refl
prepended_behind (first ∷ rs) r p = ap (with_answer first) (prepended_behind rs r p)

prepended_all : (rs : List Result) (T : model.Table) → prepended rs (performed [] T) ≡ performed rs T
unfolding prepended with_answer
prepended_all [] T = refl
prepended_all (r ∷ rs) T = rw (prepended_all rs T)

prepended_unread : (rs : List Result) (at : ℕ) → prepended rs (unread at) ≡ unread at
unfolding prepended with_answer
prepended_unread [] at = refl
prepended_unread (r ∷ rs) at = rw (prepended_unread rs at)

answer_behind : (rs : List Result) (r : Result) → answer_bytes (rs ++ r ∷ []) ≡ answer_bytes rs ++ answer_bytes (r ∷ [])
unfolding answer_bytes
answer_behind [] r = refl
answer_behind (refused why ∷ rs) r = rw (answer_behind rs r)
answer_behind (accepted types f ∷ rs) r = rw (answer_behind rs r)

-- ---- an answer is small: a number of types is that of a valid table

small_answer : (T : model.Table) (o : Operation) (e : prelude.Result ℕ Refusal) → counted_result e ≡ (operate T o).result → Small e
small_answer T o (prelude.Err why) is = tt
small_answer T o (prelude.Ok n) is =
    let it = done T o (sym is) in
    omega (arith, it.1.at_most_64, it.2)

-- ---- the loop

-- a refusal, and the output as it was
refused_reports : (out : List ℕ) (why : Refusal) → Reports (untouched out (refusal why)) out (prelude.Err why)
unfolding untouched
refused_reports out why = record { same_result = refl; same_output = refl }

-- The operations before offset `at` are carried out, their answers written, and those behind it give the rest.
pub record Ran (ops : List ℕ) (loaded : Table) (answers : List ℕ) (table : Table) (at filled : ℕ) : Type 0 where
  pub results : List Result
  pub most : ℕ
  pub enough : length ops ≤ at + most
  pub whole : prepended results (perform_to most at (drop at ops) (held table)) ≡ perform ops (held loaded)
  pub stands : StandsFor table (held table)
  pub blank : List ℕ
  pub room : length blank ≡ max_length
  pub written : Writes blank answers 0 (answer_bytes results) filled
  pub within : at ≤ length ops
  pub few : filled ≤ at

pub none_ran : (ops : List ℕ) (loaded : Table) (blank : List ℕ) → length blank ≡ max_length → StandsFor loaded (held loaded) → Ran ops loaded blank loaded 0 0
unfolding prepended perform answer_bytes
none_ran ops loaded blank room stands =
    record {
      results = [];
      most = length ops;
      enough = omega arith;
      whole = refl;
      stands = stands;
      blank = blank;
      room = room;
      written = record { written = refl; after = omega arith };
      within = omega arith;
      few = omega arith;
    }

module _ {ops : List ℕ} {loaded : Table} {answers : List ℕ} {table : Table} {at filled : ℕ} (r : Ran ops loaded answers table at filled) where
  -- there is room for its answer
  pub room_for_answer : {t : Turn} → Performs ops at table t → length ops ≤ max_length → (filled + 2 ≤ max_length) × Small t.answer
  room_for_answer {t} p short = (omega (arith, r.few, p.within, p.wide), small_answer (held table) p.operation t.answer p.operated.answered)

  module _ (more : at < length ops) where
    one_more : perform_to r.most at (drop at ops) (held table) ≡ perform_to (suc (r.most - 1)) at (drop at ops) (held table)
    one_more = let some : r.most ≡ suc (r.most - 1) = omega (arith, r.enough) in ap (λ (k : ℕ). perform_to k at (drop at ops) (held table)) some

    stopped : first_operation (drop at ops) ≡ unreadable → perform ops (held loaded) ≡ unread at
    stopped none =
        let some : 0 < length (drop at ops) = omega (arith, length-drop at ops) in
        let here = none_readable (r.most - 1) at (held table) (drop at ops) some none in
        sym r.whole ∙ ap (prepended r.results) (one_more ∙ here) ∙ prepended_unread r.results at

    pub stop-answered : (out : List ℕ) → first_operation (drop at ops) ≡ unreadable → Reports (reported out (perform ops (held loaded))) out (prelude.Err (Refusal.Faulty Document.Operations (BadForm at)))
    unfolding reported
    stop-answered out none = rw (stopped none) (refused_reports out (Refusal.Faulty Document.Operations (BadForm at)))

    pub one-more-ran : {t : Turn} {after : List ℕ} → Performs ops at table t → Writes answers after filled (answer_bytes (counted_result t.answer ∷ [])) (filled + 2)
        → Ran ops loaded after t.table (at + t.width) (filled + 2)
    one-more-ran {t} {after} p w =
        let answer = counted_result t.answer in
        let then = p.operated.then in
        let same = then.stands.same_table in
        let later = perform_to (r.most - 1) (at + t.width) (drop (at + t.width) ops) (held t.table) in
        let here : perform_to r.most at (drop at ops) (held table) ≡ with_answer answer later =
        one_more ∙ rw (one_performed (r.most - 1) at (held table) (drop at ops) p.there, drop-drop t.width at ops, p.operated.answered, same) in
        record {
          results = r.results ++ answer ∷ [];
          most = r.most - 1;
          enough = omega (arith, r.enough, p.wide);
          whole = prepended_behind r.results answer later ∙ ap (prepended r.results) (sym here) ∙ r.whole;
          stands = stands_for_own t.table then;
          blank = r.blank;
          room = r.room;
          written = subst (λ (bs : List ℕ). Writes r.blank after 0 bs (filled + 2)) (sym (answer_behind r.results answer)) (writes_then r.written w);
          within = p.within;
          few = omega (arith, r.few, p.wide);
        }

  -- all are carried out
  all_ran : length ops ≤ at → perform ops (held loaded) ≡ performed r.results (held table)
  all_ran end =
      sym r.whole ∙ ap (λ (bs : List ℕ). prepended r.results (perform_to r.most at bs (held table))) (drop_of_length-le ops end)
      ∙ ap (prepended r.results) (none_left r.most at (held table)) ∙ prepended_all r.results (held table)

  -- and so many bytes of answers are there
  pub answers_room : max_length ≡ length answers
  answers_room = sym (writes-length r.written ∙ r.room)

  pub answers_there : length ops ≤ max_length → filled ≤ length answers
  answers_there short = omega (arith, r.few, r.within, answers_room)

  pub report_answered : (out new : List ℕ) (a : prelude.Result ℕ Refusal) → length ops ≤ at → length ops ≤ max_length
      → ((rs : List Result) → answer_bytes rs ≡ take filled answers → Reports (reported out (performed rs (held table))) new a)
      → Reports (reported out (perform ops (held loaded))) new a
  report_answered out new a end short report =
      let fits : length (answer_bytes r.results) ≤ length r.blank = omega (arith, r.written.after, r.few, r.within, r.room) in
      rw (all_ran end) (report r.results (sym (written_from_start r.written fits)))

-- ---- the entry

module _ {table : List ℕ} {r : prelude.Result Table Fault} (h : LoadedFrom table r) where
  pub table_refused : (ops out : List ℕ) (f : Fault) → r ≡ prelude.Err f → Reports (extend table ops out) out (prelude.Err (Refusal.Faulty Document.SourceTable f))
  unfolding extend unless_faulty
  table_refused ops out f is =
      let found : judged_table table ≡ has (fault f) = sym h.judgement ∙ ap judgement_of is in
      rw found (refused_reports out (Refusal.Faulty Document.SourceTable f))

  module _ {t : Table} (is : r ≡ prelude.Ok t) where
    accepted-table : judged_table table ≡ sound
    accepted-table = sym h.judgement ∙ ap judgement_of is

    pub loaded-stands : StandsFor t (held t)
    loaded-stands = stands_for_own t (h.loaded t is)

    pub operations-refused : (ops out : List ℕ) → max_length < length ops → Reports (extend table ops out) out (prelude.Err (Refusal.Faulty Document.Operations TooLong))
    unfolding extend unless_faulty long_operations fault_unless fits
    operations-refused ops out long = rw (accepted-table, lt-leb (length ops) max_length long) (refused_reports out (Refusal.Faulty Document.Operations TooLong))

    pub run-answered : (ops out new : List ℕ) (a : prelude.Result ℕ Refusal) → length ops ≤ max_length → Reports (reported out (perform ops (held t))) new a → Reports (extend table ops out) new a
    unfolding extend unless_faulty long_operations fault_unless fits
    run-answered ops out new a short answers =
        rw (accepted-table, le-leb (length ops) max_length short, ← (h.loaded t is).stands.same_table) answers
