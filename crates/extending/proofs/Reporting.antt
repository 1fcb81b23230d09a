-- What is reported: an answer as two bytes, what is kept with each type as three, and the report that is made of both.
use mathlib.Core.Path.{◌≡◌, refl, sym, ap, ◌∙◌}
use mathlib.Core.List.{List, [], ◌∷◌, ◌++◌}
use Prim.Native.Nat.{ℕ, zero, suc, ◌+◌, ◌*◌, ◌-◌, ◌/◌, ◌%◌, ◌≤◌, ◌<◌}
use native.Mathlib.Numerals.{add-one}
use native.Mathlib.Omega.{arith}
use lib.ListN.{length, take, drop, set, get_or, length-set, length-append}
use lib.Seq.{sets, length-take-le}
use borrow.Author.Tests.{le-leb, lt-leb}
use Rattle.std.specs.Prelude as prelude
use Rattle.answers.specs.declared.Refusal.{Refusal}
use Rattle.answers.specs.declared.Refusal.TheVariants.{Faulty, NoImage, Unreadable, ImageTooDeep, ImageTooLong, OutputTooShort, NoChoice}
use Rattle.answers.specs.Answers.{fault, counted_result}
use Rattle.answer_numbers.specs.declared.Answer.{Answer}
use Rattle.answer_numbers.specs.Numbers.{numbers}
use Rattle.loaded_table.specs.Loaded.{types_in, heights_of, fill_of, table_by, length_of_lem}
use Rattle.model.specs.Definitions.Table.{Table}
use Rattle.model.specs.Definitions.Heights.{height_of}
use Rattle.model.specs.Definitions.Refusals.{Fault, too_long, bad_form, over_limit, bad_operand, repeated_member, no_finite_instance, root_moved, wrong_end, wrong_steps, path_clash, unexpected, fault_number, numbers_of}
use Rattle.model.specs.Definitions.Entries as model
use Rattle.model.specs.Definitions.Entries.{Result, answer_of, untouched}
use Rattle.model.specs.Definitions.Operations.{kept_length}
use Rattle.model.specs.Definitions.Extending.{answer_bytes, kept_bytes, performed, report, report_if, reported}
use Rattle.model.proofs.Theorems.Operations.{valid_sound}
use Rattle.model.proofs.Theorems.GrownTables.{finite_everywhere}
use Rattle.table_growth.specs.Growth.{IsLoaded}
use Rattle.writing.specs.Writing.{Writes}
use Rattle.writing.specs.Laws.{writes_then, writes-length, stored}
use Rattle.extending.specs.Extending.{Small, Reports}

-- ---- an answer

-- no fault has a number above 11
fault_low : (f : Fault) → fault_number f ≤ 11
unfolding fault_number
fault_low too_long = omega arith
fault_low (bad_form at) = omega arith
fault_low (over_limit at) = omega arith
fault_low (bad_operand at) = omega arith
fault_low (repeated_member at) = omega arith
fault_low (no_finite_instance t) = omega arith
fault_low root_moved = omega arith
fault_low (wrong_end at) = omega arith
fault_low (wrong_steps at) = omega arith
fault_low (path_clash at) = omega arith
fault_low (unexpected at) = omega arith

-- the refusal and the value of an answer are bytes, those that the model reports
pub record TwoBytes (e : prelude.Result ℕ Refusal) (refusal value : ℕ) : Type 0 where
  pub low_refusal : refusal ≤ 19
  pub low_value : value ≤ 255
  pub bytes : answer_bytes (counted_result e ∷ []) ≡ refusal ∷ value ∷ []

pub two_bytes : (e : prelude.Result ℕ Refusal) (a : Answer) → Small e → numbers a ≡ answer_of (counted_result e) → TwoBytes e a.refusal a.value
unfolding answer_bytes answer_of numbers_of
two_bytes e a small same = rw (ap (λ (n : model.Answer). n.refusal) same, ap (λ (n : model.Answer). n.value) same) (go e small)
  where
    go : (e : prelude.Result ℕ Refusal) → Small e → TwoBytes e (answer_of (counted_result e)).refusal (answer_of (counted_result e)).value
    go (prelude.Err (Faulty d f)) small = record { low_refusal = omega (arith, fault_low (fault f)); low_value = omega arith; bytes = refl }
    go (prelude.Err NoImage) small = record { low_refusal = omega arith; low_value = omega arith; bytes = refl }
    go (prelude.Err (Unreadable at)) small = record { low_refusal = omega arith; low_value = omega arith; bytes = refl }
    go (prelude.Err ImageTooDeep) small = record { low_refusal = omega arith; low_value = omega arith; bytes = refl }
    go (prelude.Err ImageTooLong) small = record { low_refusal = omega arith; low_value = omega arith; bytes = refl }
    go (prelude.Err OutputTooShort) small = record { low_refusal = omega arith; low_value = omega arith; bytes = refl }
    go (prelude.Err NoChoice) small = record { low_refusal = omega arith; low_value = omega arith; bytes = refl }
    go (prelude.Ok n) small = record { low_refusal = omega arith; low_value = small; bytes = refl }

-- stored one behind the other they are written
pub answer-written : (old : List ℕ) (at : ℕ) (e : prelude.Result ℕ Refusal) (refusal value : ℕ) → TwoBytes e refusal value
    → Writes old (set (set old at refusal) (at + 1) value) at (answer_bytes (counted_result e ∷ [])) (at + 2)
answer-written old at e refusal value two = rw two.bytes (record { written = rw (add-one at); after = refl })

-- ---- what is kept

-- the numbers that are kept with a type of a loaded table are those reported, and the height is a byte
pub record KeptWith (T : Table) (t height fill : ℕ) : Type 0 where
  pub same_height : height ≡ height_of T t
  pub same_fill : fill ≡ kept_length T t
  pub low_height : height ≤ 64

pub kept_with : (rows : List ℕ) (t : ℕ) → IsLoaded rows → t < types_in rows → KeptWith (table_by rows) t (get_or (heights_of rows) t 0) (get_or (fill_of rows) t 0)
unfolding kept_length
kept_with rows t loaded below =
    let kept = loaded.stands.kept in
    record {
      same_height = kept.height_at_lem t;
      same_fill = kept.fill_at_lem t (rw (length_of_lem rows) below);
      low_height = omega (arith, kept.height_at_lem t, finite_everywhere (table_by rows) (valid_sound (table_by rows) loaded.valid) t, length_of_lem rows, loaded.stands.bounded.few_types);
    }

-- three bytes a type
kept-length : (T : Table) (t n : ℕ) → length (kept_bytes T t n) ≡ 3 * n
unfolding kept_bytes
kept-length T t zero = refl
kept-length T t (suc n) = omega (arith, kept-length T (suc t) n)

-- what is left to write, from type t on, gives the whole
pub record Keeping (T : Table) (all : ℕ) (old out : List ℕ) (t at : ℕ) : Type 0 where
  pub not_beyond : t ≤ all
  pub place : at ≡ 1 + 3 * t
  pub long : length out ≡ length old
  pub left : sets out at (kept_bytes T t (all - t)) ≡ sets old 1 (kept_bytes T 0 all)

pub none_kept : (T : Table) (all : ℕ) (old : List ℕ) → Keeping T all old old 0 1
none_kept T all old = let whole : all - 0 ≡ all = omega arith in record { not_beyond = omega arith; place = refl; long = refl; left = rw whole refl }

-- three stores more, and the first of these types is done
pub one_more_kept : (T : Table) (all : ℕ) (old out : List ℕ) (t at height fill : ℕ) → Keeping T all old out t at → t < all → KeptWith T t height fill
    → Keeping T all old (set (set (set out at height) (at + 1) (fill / 256)) (at + 2) (fill % 256)) (t + 1) (at + 3)
unfolding kept_bytes
one_more_kept T all old out t at height fill k below with-t =
    let more : all - t ≡ suc (all - suc t) = omega arith in
    let second : at + 1 ≡ suc at = omega arith in
    let third : at + 2 ≡ suc (suc at) = omega arith in
    let next : at + 3 ≡ suc (suc (suc at)) = omega arith in
    record {
      not_beyond = omega arith;
      place = omega (arith, k.place);
      long = simp length-set k.long;
      left = rw (second, third, next, add-one t, with-t.same_height, with-t.same_fill) (rw more at k.left);
    }

pub all_kept : {T : Table} {all n : ℕ} {old out : List ℕ} {t at : ℕ} → Keeping T all old out t at → all ≤ t → all ≡ n → Writes old out 1 (kept_bytes T 0 n) at
unfolding kept_bytes
all_kept {T} {all} {t = t} k end same =
    let none_left : all - t ≡ 0 = omega (arith, k.not_beyond) in
    rw (← same) (record { written = rw none_left at k.left; after = omega (arith, k.place, k.not_beyond, kept-length T 0 all) })

-- ---- the report

module _ (rows old answers : List ℕ) (all filled : ℕ) (types : all ≡ types_in rows) (within : filled ≤ length answers) where
  -- its parts as they are written, and its length
  report_parts : (rs : List Result) → answer_bytes rs ≡ take filled answers → report rs (table_by rows) ≡ all ∷ (kept_bytes (table_by rows) 0 (types_in rows) ++ take (filled - 0) (drop 0 answers))
  unfolding report
  report_parts rs same = let whole : filled - 0 ≡ filled = omega arith in rw (whole, ← same, types, length_of_lem rows)

  report_length : (rs : List Result) → answer_bytes rs ≡ take filled answers → length (report rs (table_by rows)) ≡ 1 + 3 * all + filled
  unfolding report
  report_length rs same =
      let T : Table = table_by rows in
      omega (
        arith,
        length_of_lem rows,
        length-append (kept_bytes T 0 (length T)) (answer_bytes rs),
        kept-length T 0 (length T),
        ap length same ∙ length-take-le filled answers within,
      )

  -- where there is less room than that, nothing is written
  pub no_room : length old < 1 + 3 * all + filled → (rs : List Result) → answer_bytes rs ≡ take filled answers
      → Reports (reported old (performed rs (table_by rows))) old (prelude.Err OutputTooShort)
  unfolding reported report_if untouched
  no_room short rs same =
      let R : List ℕ = report rs (table_by rows) in
      rw (lt-leb (length R) (length old) (omega (arith, report_length rs same))) (record { same_result = refl; same_output = refl })

  module _ (mid : List ℕ) (behind : ℕ) (kept : Writes (set old 0 all) mid 1 (kept_bytes (table_by rows) 0 (types_in rows)) behind) where
    -- behind what is kept there is room for the answers
    pub room-behind : 1 + 3 * all + filled ≤ length old → behind + (filled - 0) ≤ length mid
    room-behind room = omega (arith, kept.after, kept-length (table_by rows) 0 (types_in rows), writes-length kept, length-set old 0 all)

    -- the number of types, what is kept and the answers are the report
    pub report-made : (new : List ℕ) (next : ℕ) → Writes mid new behind (take (filled - 0) (drop 0 answers)) next → 1 + 3 * all + filled ≤ length old
        → (rs : List Result) → answer_bytes rs ≡ take filled answers
        → Reports (reported old (performed rs (table_by rows))) new (prelude.Ok (1 + 3 * all + filled))
    unfolding reported report_if
    report-made new next copied room rs same =
        let R : List ℕ = report rs (table_by rows) in
        let whole = writes_then (stored old 0 all) (writes_then kept copied) in
        let long = report_length rs same in
        rw (le-leb (length R) (length old) (omega (arith, long)), long)
        (record { same_result = refl; same_output = whole.written ∙ ap (sets old 0) (sym (report_parts rs same)) })
