-- From the verdicts of the checks, in order, to the judgement.
use mathlib.Core.Path.{◌≡◌, refl, sym, ap, ◌∙◌, subst}
use mathlib.Core.Bool.{true}
use mathlib.Core.List.{List}
use mathlib.Core.Logic.{inl}
use Prim.Native.Nat.{ℕ, ◌≤◌, ◌<◌}
use native.Mathlib.Omega.{arith}
use lib.ListN.{length}
use borrow.Author.Tests.{le-leb, lt-leb}
use Rattle.table_judge.specs.Judging.{TableJudged, AfterLimits, later_checks}
use Rattle.answers.specs.Answers.{verdict, fault}
use Rattle.answers.specs.declared.Fault.{Fault}
use Rattle.std.specs.Prelude.{⊤, Result, Ok, Err}
use Rattle.std.specs.Result.{MatchResult, IsErrAnd, is_ok}
use Rattle.std.proofs.lemmas.Result.{err_from_is_err_and}
use Rattle.model.proofs.Theorems.Tools.{true_false}
use Rattle.loaded_table.specs.Loaded as loaded_table
use Rattle.loaded_table.specs.Loaded.{types_in, heights_of, Bounded, Kept, length_of_lem}
use Rattle.table_load.specs.Loading.{TableLoaded}
use Rattle.table_heights.specs.Sections.{section_elsewhere, table_elsewhere, bounded_elsewhere}
use Rattle.table_heights.specs.Heights.{HoldsHeights, HeightsFound}
use Rattle.table_fill.specs.Fill.{FillFound}
use Rattle.model.specs.Definitions.Basics as model
use Rattle.model.specs.Definitions.Basics.{passes, fails}
use Rattle.model.specs.Definitions.Table.{table_of}
use Rattle.model.specs.Definitions.Heights.{height_of, endless_type}
use Rattle.model.specs.Definitions.TableChecks.{table_form, table_limits, table_operands, table_repeats}
use Rattle.model.specs.Definitions.Refusals as refusals
use Rattle.model.specs.Definitions.Refusals.{sound, has, fault_at, fault_unless, fits}
use Rattle.model.specs.Definitions.Entries.{checked_table, judged_table}
use Rattle.model.proofs.Theorems.Facts.{SoundTable}
use Rattle.model.proofs.Theorems.JudgedTables.{table_sound}

-- a fault is no acceptance
has_sound : {X : Type 0} {f : refusals.Fault} {j : refusals.Judged} → j ≡ has f → j ≡ sound → X
has_sound {f = f} {j} p q = let z : ◌≡◌ {A = ℕ} 0 1 = cc in absurd (omega arith)

-- ---- what a check's result comes to

-- a check whose result is right has passed
pub right : (r : Result ⊤ ℕ) {v : model.Verdict} → verdict r ≡ v → true ≡ is_ok r → v ≡ passes
right (Ok done) said e = sym said
right (Err at) said e = true_false (sym e) refl

-- a check that answers a place has failed there
pub failed : {r : Result ⊤ ℕ} {v : model.Verdict} {at : ℕ} → verdict r ≡ v → r ≡ Err at → v ≡ fails at
failed said e = sym said ∙ ap verdict e

-- what the fault of a check that is not right comes to, behind `map_err` and `?`
pub record Refuses (v : model.Verdict) (K : ℕ → Fault) (out : Result ⊤ Fault) : Type 0 where
  pub at : ℕ
  pub failed : v ≡ fails at
  pub answer : out ≡ Err (K at)

pub refuses : (r : Result ⊤ ℕ) (mapped out : Result ⊤ Fault) {f : Fault} {v : model.Verdict} (K : ℕ → Fault) → verdict r ≡ v
    → MatchResult r (λ done. mapped ≡ Ok done) (λ at. IsErrAnd mapped (λ g. g ≡ K at)) → mapped ≡ Err f → IsErrAnd out (λ g. g ≡ f) → Refuses v K out
refuses (Ok done) mapped out {f = f} K said h e gave =
    let same : ◌≡◌ {A = Result ⊤ Fault} (Ok done) (Err f) = sym h ∙ e in let z : ◌≡◌ {A = ℕ} 0 1 = cc in absurd (omega arith)
refuses (Err at) mapped out {f = f} K said h e gave =
    let given = err_from_is_err_and out gave in
    let there = err_from_is_err_and mapped h in
    let (x, a, b) = given in
    let (y, p, q) = there in
    let answer : out ≡ Err (K at) = cc in record { at = at; failed = sym said; answer = answer }

-- ---- checks 4 to 6

-- a fault found is the judgement, and nothing need be loaded
refusing : (bs : List ℕ) (f : Fault) (after : List ℕ) → later_checks bs ≡ has (fault f) → AfterLimits bs (Err f) after
refusing bs f after g = record { judgement = sym g; loaded = λ accepted whole. has_sound g accepted }

-- checks 4 and 5, where the loaded table is the document's
module _ (bs rows : List ℕ) (loaded : TableLoaded bs rows) where
  -- the loaded table's types are the document's
  loaded_types : types_in rows ≡ length (table_of bs)
  loaded_types = sym (length_of_lem rows) ∙ ap length (loaded.same_table)

  -- the operands were judged by the number of types loaded
  operands_by : {all : ℕ} {v : model.Verdict} → all ≡ types_in rows → table_operands all bs ≡ v → table_operands (length (table_of bs)) bs ≡ v
  operands_by e h = ap (λ n. table_operands n bs) (sym (e ∙ loaded_types)) ∙ h

  pub operand_refused : (after : List ℕ) (at : ℕ) {all : ℕ} → all ≡ types_in rows → table_operands all bs ≡ fails at → AfterLimits bs (Err (Fault.BadOperand at)) after
  operand_refused after at n e = refusing bs (Fault.BadOperand at) after (unfold later_checks fault_at in rw (operands_by n e))

  pub repeat_refused : (after : List ℕ) (at : ℕ) {all : ℕ} → all ≡ types_in rows → table_operands all bs ≡ passes → table_repeats bs ≡ fails at → AfterLimits bs (Err (Fault.RepeatedMember at)) after
  repeat_refused after at n o e = refusing bs (Fault.RepeatedMember at) after (unfold later_checks fault_at in rw (operands_by n o, e))

  -- with the heights found the array still stands for the document's table
  module _ (mid : List ℕ) (heights : HeightsFound rows mid) where
    same_mid : loaded_table.table_by mid ≡ loaded_table.table_by rows
    same_mid = table_elsewhere (omega arith) (omega arith) heights.elsewhere

    -- what finding endless types and filler lengths requires
    pub ready : Bounded mid × HoldsHeights (loaded_table.table_by mid) (heights_of mid)
    ready =
        (bounded_elsewhere (omega arith) (omega arith) heights.elsewhere (loaded.bounded), subst (λ T. HoldsHeights T (heights_of mid)) (sym same_mid) heights.found)

    -- the verdict on endless types is the document's
    pub endless-by : {v w : model.Verdict} → v ≡ endless_type (loaded_table.table_by mid) → v ≡ w → endless_type (table_of bs) ≡ w
    endless-by p q = ap endless_type (sym (same_mid ∙ loaded.same_table)) ∙ sym p ∙ q

    pub endless-refused : (after : List ℕ) (at : ℕ) {all : ℕ} → all ≡ types_in rows → table_operands all bs ≡ passes → table_repeats bs ≡ passes → endless_type (table_of bs) ≡ fails at
        → AfterLimits bs (Err (Fault.NoFiniteInstance at)) after
    endless-refused after at n o p e = refusing bs (Fault.NoFiniteInstance at) after (unfold later_checks fault_at in rw (operands_by n o, p, e))

    -- with no fault, what is loaded stands for the document's table
    pub all-accepted : (after : List ℕ) {all : ℕ} → all ≡ types_in rows → table_operands all bs ≡ passes → table_repeats bs ≡ passes → endless_type (table_of bs) ≡ passes → FillFound mid after → AfterLimits bs (Ok tt) after
    unfolding height_of
    all-accepted after n o p e fill =
        record {
          judgement = sym (unfold later_checks fault_at in rw (operands_by n o, p, e));
          loaded = λ accepted whole. record { same_table = same_after ∙ same; bounded = bounded_elsewhere (omega arith) (omega arith) fill.elsewhere ready.0; kept = subst (Kept after) same (kept whole) };
        }
      where
        same : loaded_table.table_by mid ≡ table_of bs
        same = same_mid ∙ loaded.same_table

        same_after : loaded_table.table_by after ≡ loaded_table.table_by mid
        same_after = table_elsewhere (omega arith) (omega arith) fill.elsewhere

        heights-kept : heights_of after ≡ heights_of mid
        heights-kept = section_elsewhere 128 64 (inl (omega arith)) fill.elsewhere

        kept : SoundTable (table_of bs) → Kept after (loaded_table.table_by mid)
        kept whole = record { height_at_lem = λ t. rw heights-kept (ready.1.height_at_lem t); fill_at_lem = (fill.found (subst SoundTable (sym same) whole)).fill_at_lem }

-- ---- all checks

judging : (bs : List ℕ) (f : Fault) (rows : List ℕ) → judged_table bs ≡ has (fault f) → TableJudged bs (Err f) rows
judging bs f rows g = record { judgement = sym g; loaded = λ accepted. has_sound g accepted }

module _ (bs rows : List ℕ) where
  pub length_refused : 60000 < length bs → TableJudged bs (Err Fault.TooLong) rows
  length_refused long = judging bs Fault.TooLong rows (unfold judged_table fault_unless fits in rw (lt-leb (length bs) 60000 long))

  pub form_refused : (at : ℕ) → length bs ≤ 60000 → table_form bs ≡ fails at → TableJudged bs (Err (Fault.BadForm at)) rows
  form_refused at short e = judging bs (Fault.BadForm at) rows (unfold judged_table checked_table fault_unless fault_at fits in rw (le-leb (length bs) 60000 short, e))

  pub limit_refused : (at : ℕ) → length bs ≤ 60000 → table_form bs ≡ passes → table_limits bs ≡ fails at → TableJudged bs (Err (Fault.OverLimit at)) rows
  limit_refused at short f e =
      judging bs (Fault.OverLimit at) rows (unfold judged_table checked_table fault_unless fault_at fits in rw (le-leb (length bs) 60000 short, f, e))

-- after the first three checks the others decide
pub later_decides : (bs : List ℕ) (r : Result ⊤ Fault) (rows : List ℕ) → length bs ≤ 60000 → table_form bs ≡ passes → table_limits bs ≡ passes → AfterLimits bs r rows → TableJudged bs r rows
later_decides bs r rows short f l h =
    record { judgement = h.judgement ∙ sym same; loaded = λ accepted. h.loaded (sym same ∙ accepted) (table_sound bs accepted) }
  where
    same : judged_table bs ≡ later_checks bs
    same = unfold judged_table checked_table later_checks fault_unless fault_at fits in rw (le-leb (length bs) 60000 short, f, l)
