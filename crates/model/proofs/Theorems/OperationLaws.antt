-- What the two operations on a table do (02, N8): what they would give is there where, written, it is accepted, and else the table is as it
-- was; and which heights and filler lengths move.
use Rattle.std.specs.Prelude.{◌≡◌, refl, Bool, true, false, List, [], ◌∷◌, ◌++◌, ◌↔◌, ◌⊎◌, ℕ, ◌≤◌, ◌<◌, min, length, set, leb}
use Rattle.std.proofs.Math.Path.{sym, ap}
use Rattle.std.proofs.Common.{◌∙◌, inl, inr, arith, leb-true, leb-false}
use Rattle.std.proofs.Math.Option.{Option, none, some}
use Rattle.model.specs.Definitions.Basics.{member_of}
use Rattle.model.specs.Definitions.Commands.{Need, needed, optional}
use Rattle.model.specs.Definitions.Table.{Kind, text, empty, sequence, choice, list, Table, kind_of, is_choice, table_of}
use Rattle.model.specs.Definitions.Heights.{heights, height_of, lowest}
use Rattle.model.specs.Definitions.ValidTable.{ValidTable, table_bytes}
use Rattle.model.specs.Definitions.Refusals.{Fault, too_long, bad_form, over_limit, bad_operand, repeated_member, no_finite_instance, root_moved, wrong_end, wrong_steps, path_clash, unexpected, fault_number, fault_mark, document_number, source_table, Refusal, faulty, no_choice, numbers_of, Judged, sound, has}
use Rattle.model.specs.Definitions.Entries.{refused, accepted, checked_table, judged_table, unless_faulty, judge_table}
use Rattle.model.specs.Definitions.Operations.{kept_length, type_in, Operation, append_type, append_member, Changed, unchanged, without_mark, changed_if, changed_to, extended_at, with_member, append_kind, type_appended, append_if, member_appended, operate, Appends}
use Rattle.model.proofs.Theorems.Facts.{SoundTable}
use Rattle.model.proofs.Theorems.JudgedTables.{no_fault_at, no_fault_unless, table_well_formed, heights_finite}
use Rattle.model.proofs.Theorems.ValidTables.{table_of_bytes, passed_valid, valid_table_accepted}
use Rattle.model.proofs.Theorems.Terms.{AcceptedTable}
use Rattle.model.proofs.Theorems.EntryLaws.{accepted_refused, judge_accepts}
use Rattle.model.proofs.Theorems.GrownTables.{older_height, older_length, heights_fall, unmoved_height, unmoved_length, moved_height}
use Rattle.model.proofs.Theorems.Operations.{valid_sound, no_choice_there, member_many, member-unknown, member-repeated, member-appended}

-- ---- what is tried

-- a kind is a choice of either kind, or none
choice_or_not : (κ : Kind) → ((need : Need) × (ms : List ℕ) × (κ ≡ choice need ms)) ⊎ (is_choice κ ≡ false)
unfolding is_choice
choice_or_not text = inr refl
choice_or_not empty = inr refl
choice_or_not (sequence ms) = inr refl
choice_or_not (choice need ms) = inl (need, ms, refl)
choice_or_not (list m) = inr refl

-- a choice with a member more at its end, in its place
longer_at : (T : Table) (t m : ℕ) {need : Need} {ms : List ℕ} → kind_of T t ≡ choice need ms → extended_at T t m ≡ set T t (choice need (ms ++ m ∷ []))
unfolding extended_at with_member
longer_at T t m is = rw is

-- an operation goes to the table that it would give, if that, written, passes
tries : (T : Table) (o : Operation) (after : Table) → Appends T o after → operate T o ≡ changed_to T after
unfolding operate Appends type_appended append_kind member_appended append_if is_choice
tries T (append_type cs) after a = rw (a.1, a.2)
tries T (append_member t m) after a = rw (a.2, a.3, longer_at T t m a.2)

-- bytes that aren't one type's own commands are refused at once
pub no_type_there : (T : Table) (cs : List ℕ) → type_in cs ≡ none → operate T (append_type cs) ≡ unchanged T (faulty source_table (bad_form 0))
unfolding operate type_appended append_kind
no_type_there T cs e = rw e

-- the refusal has document 1 and mark 0
abbrev Plain : Refusal → Type 0
Plain why = ((numbers_of why).document ≡ 1) × ((numbers_of why).mark ≡ 0)

-- there is a table that an operation would give, or it is refused at once
abbrev Tried : Table → Operation → Type 0
Tried T o = ((after : Table) × Appends T o after) ⊎ ((why : Refusal) × (operate T o ≡ unchanged T why) × Plain why)

tried : (T : Table) (o : Operation) → Tried T o
unfolding operate Appends numbers_of document_number fault_mark
tried T (append_type cs) = go (type_in cs) refl
  where
    go : (o : Option Kind) → type_in cs ≡ o → Tried T (append_type cs)
    go none e = inr (faulty source_table (bad_form 0), no_type_there T cs e, (refl, refl))
    go (some κ) e = inl (T ++ κ ∷ [], (κ, e, refl))
tried T (append_member t m) = go (choice_or_not (kind_of T t))
  where
    go : ((need : Need) × (ms : List ℕ) × (kind_of T t ≡ choice need ms)) ⊎ (is_choice (kind_of T t) ≡ false) → Tried T (append_member t m)
    go (inl it) = inl (set T t (choice it.0 (it.1 ++ m ∷ [])), (it.0, it.1, it.2, refl))
    go (inr not) = inr (no_choice, no_choice_there T t m not, (refl, refl))

-- ---- what is refused

-- no fault has a mark then
marks_nothing : (f : Fault) → fault_mark (without_mark f) ≡ 0
unfolding fault_mark without_mark
marks_nothing too_long = refl
marks_nothing (bad_form at) = refl
marks_nothing (over_limit at) = refl
marks_nothing (bad_operand at) = refl
marks_nothing (repeated_member at) = refl
marks_nothing (no_finite_instance t) = refl
marks_nothing root_moved = refl
marks_nothing (wrong_end at) = refl
marks_nothing (wrong_steps at) = refl
marks_nothing (path_clash at) = refl
marks_nothing (unexpected at) = refl

-- where refused, the table is as it was, and the refusal is plain
abbrev StaysIfRefused : Table → Changed → Type 0
StaysIfRefused T c = (why : Refusal) → c.result ≡ refused why → (c.table ≡ T) × ((numbers_of why).document ≡ 1) × ((numbers_of why).mark ≡ 0)

refused_stays : (T : Table) (given : Refusal) → Plain given → StaysIfRefused T (unchanged T given)
unfolding unchanged
refused_stays T given plain why e = let same : given ≡ why = cc in (refl, rw (← same) plain.0, rw (← same) plain.1)

judged_stays : (T after : Table) (j : Judged) → StaysIfRefused T (changed_if j T after)
unfolding changed_if numbers_of document_number
judged_stays T after sound why e = accepted_refused refl e
judged_stays T after (has f) why e = refused_stays T (faulty source_table (without_mark f)) (refl, marks_nothing f) why e

pub refused_plain : (T : Table) (o : Operation) → StaysIfRefused T (operate T o)
unfolding changed_to
refused_plain T o = go (tried T o)
  where
    go : Tried T o → StaysIfRefused T (operate T o)
    go (inl it) = rw (tries T o it.0 it.1) (judged_stays T it.0 (checked_table (table_bytes it.0)))
    go (inr it) = rw it.1 (refused_stays T it.0 it.2)

-- so the table is the one before, for the code
pub refused_same : (T : Table) (o : Operation) {why : Refusal} → (operate T o).result ≡ refused why → (operate T o).table ≡ T
refused_same T o {why} e = (refused_plain T o why e).0

-- the fault of the table that it would give is the answer
pub fault_answered : (T : Table) (o : Operation) (after : Table) (f : Fault) → Appends T o after → checked_table (table_bytes after) ≡ has f
    → (operate T o).result ≡ refused (faulty source_table (without_mark f))
unfolding changed_to changed_if unchanged
fault_answered T o after f a e = rw (tries T o after a, e)

-- no check answers 19,
no_check : {X : Type 0} (T after : Table) (j : Judged) → (changed_if j T after).result ≡ refused no_choice → X
unfolding changed_if unchanged
no_check T after sound e = accepted_refused refl e
no_check T after (has f) e = let z : ◌≡◌ {A = ℕ} 0 1 = cc in absurd (omega arith)

-- so that is the answer exactly where there is no choice to extend
pub no_choice_exactly : (T : Table) (t m : ℕ) → ((operate T (append_member t m)).result ≡ refused no_choice) ↔ (is_choice (kind_of T t) ≡ false)
unfolding operate member_appended append_if changed_to unchanged
no_choice_exactly T t m = (go (is_choice (kind_of T t)) refl, λ e. rw (no_choice_there T t m e))
  where
    go : (b : Bool) → is_choice (kind_of T t) ≡ b → (operate T (append_member t m)).result ≡ refused no_choice → is_choice (kind_of T t) ≡ false
    go true q e = no_check T (extended_at T t m) _ (rw q at e)
    go false q e = q

-- Of a valid table, check 2 passes what has a member more, as each type had enough, and check 6, as no height rises.
abbrev MemberRefusal : Refusal → Type 0
MemberRefusal why = ((numbers_of why).number ≡ 19) ⊎ ((numbers_of why).number ≡ 3) ⊎ ((numbers_of why).number ≡ 4) ⊎ ((numbers_of why).number ≡ 5)

pub member_refusal : (T : Table) → ValidTable T → (t m : ℕ) (why : Refusal) → (operate T (append_member t m)).result ≡ refused why → MemberRefusal why
unfolding operate unchanged numbers_of fault_number
member_refusal T valid t m why e = go (choice_or_not (kind_of T t))
  where
    by : (given : Refusal) → member_appended T t m ≡ unchanged T given → MemberRefusal given → MemberRefusal why
    by given is right =
        let answer : refused given ≡ refused why = rw is at e in
        let same : given ≡ why = cc in
        rw (← same) right

    in_choice : (need : Need) (ms : List ℕ) → kind_of T t ≡ choice need ms
        → (many unknown twice : Bool) → leb 16 (length ms) ≡ many → leb (length T) m ≡ unknown → member_of m ms ≡ twice → MemberRefusal why
    in_choice need ms is true unknown twice p q r = by _ (member_many T valid t need ms is m (leb-true _ _ p)) (inr (inl refl))
    in_choice need ms is false true twice p q r =
        by _ (member-unknown T valid t need ms is m (leb-false _ _ p) (leb-true _ _ q)) (inr (inr (inl refl)))
    in_choice need ms is false false true p q r =
        by _ (member-repeated T valid t need ms is m (leb-false _ _ p) (leb-false _ _ q) r) (inr (inr (inr refl)))
    in_choice need ms is false false false p q r =
        accepted_refused (ap (λ (c : Changed). c.result) (member-appended T valid t need ms is m (leb-false _ _ p) (leb-false _ _ q) r).0) e

    go : ((need : Need) × (ms : List ℕ) × (kind_of T t ≡ choice need ms)) ⊎ (is_choice (kind_of T t) ≡ false) → MemberRefusal why
    go (inl it) = in_choice it.0 it.1 it.2 (leb 16 (length it.1)) (leb (length T) m) (member_of m it.1) refl refl refl
    go (inr not) = by no_choice (no_choice_there T t m not) (inl refl)

-- ---- what is accepted

-- a table that, written, passes checks 2 to 6 is valid,
checked_valid : (T : Table) → checked_table (table_bytes T) ≡ sound → ValidTable T
unfolding checked_table
checked_valid T e =
    let form = no_fault_at _ _ _ e in
    let limits = no_fault_at _ _ _ form.1 in
    let operands = no_fault_at _ _ _ limits.1 in
    let repeats = no_fault_at _ _ _ operands.1 in
    let instances = no_fault_at _ _ _ repeats.1 in
    let right : SoundTable (table_of (table_bytes T)) = record {
      well_formed = table_well_formed (table_bytes T) form.0 operands.0 repeats.0;
      finite = λ t exists. heights_finite (table_of (table_bytes T)) instances.0 t;
    } in
    passed_valid T form.0 limits.0 repeats.0 (rw (table_of_bytes T) at right)

-- and judged so
valid_judged : (T : Table) → ValidTable T → judge_table (table_bytes T) ≡ accepted (length T) 0
unfolding judge_table unless_faulty
valid_judged T valid = rw (valid_table_accepted T valid, table_of_bytes T)

-- what was judged sound is there
judged_done : (T after : Table) (j : Judged) {n f : ℕ} → (changed_if j T after).result ≡ accepted n f
    → (j ≡ sound) × (n ≡ length after) × ((changed_if j T after).table ≡ after)
unfolding changed_if unchanged
judged_done T after sound e = (refl, cc, refl)
judged_done T after (has g) e = accepted_refused e refl

-- So where an operation is accepted, the table that it would give is there and valid, and the answer counts its types, as judging it does.
abbrev Done : Table → Operation → ℕ → Type 0
Done T o n =
    Appends T o (operate T o).table
    × ValidTable (operate T o).table
    × (n ≡ length (operate T o).table)
    × (judge_table (table_bytes (operate T o).table) ≡ accepted n 0)

pub done : (T : Table) (o : Operation) {n f : ℕ} → (operate T o).result ≡ accepted n f → Done T o n
unfolding changed_to unchanged
done T o {n} e = go (tried T o)
  where
    go : Tried T o → Done T o n
    go (inl it) =
        let goes = tries T o it.0 it.1 in
        let gone = judged_done T it.0 (checked_table (table_bytes it.0)) (rw goes at e) in
        let there : (operate T o).table ≡ it.0 = rw goes gone.2 in
        let valid = checked_valid it.0 gone.0 in
        rw (there, gone.1) (it.1, valid, refl, valid_judged it.0 valid)
    go (inr it) = accepted_refused {why = it.0} e (rw it.1)

-- and it is there where that is accepted
pub done_where_accepted : (T : Table) (o : Operation) (after : Table) → Appends T o after → AcceptedTable (table_bytes after)
    → operate T o ≡ record { result = accepted (length after) 0; table = after }
unfolding changed_to changed_if judged_table
done_where_accepted T o after a right =
    rw (tries T o after a, (no_fault_unless _ _ _ (judge_accepts (table_bytes after) right.1)).1)

-- ---- what moves

-- where a type was appended, nothing of an older one
pub older_kept : (T : Table) → ValidTable T → (cs : List ℕ) {n f : ℕ} → (operate T (append_type cs)).result ≡ accepted n f → (t : ℕ) → t < length T
    → (height_of (operate T (append_type cs)).table t ≡ height_of T t) × (kept_length (operate T (append_type cs)).table t ≡ kept_length T t)
unfolding kept_length Appends
older_kept T valid cs e t exists =
    let gone = done T (append_type cs) e in
    let κ = gone.0.0 in
    let there : (operate T (append_type cs)).table ≡ T ++ κ ∷ [] = gone.0.2 in
    let right = valid_sound T valid in
    let grown : SoundTable (T ++ κ ∷ []) = rw there at (valid_sound (operate T (append_type cs)).table gone.1) in
    rw there (older_height T right κ t exists, ap (min 60001) (older_length T right κ grown t exists))

-- a choice that doesn't get a member strictly lower than all it had, or needs none
not_lower : (need : Need) (low new : ℕ) → ((need ≡ needed) × (new < low) → ⊥) → (need ≡ optional) ⊎ (low ≤ new)
not_lower optional low new never = inl refl
not_lower needed low new never = go (leb low new) refl
  where
    go : (b : Bool) → leb low new ≡ b → (needed ≡ optional) ⊎ (low ≤ new)
    go true e = inr (leb-true low new e)
    go false e = absurd (never (refl, leb-false low new e))

module _ (T : Table) (valid : ValidTable T) (t m : ℕ) (need : Need) (ms : List ℕ) (is : kind_of T t ≡ choice need ms) {n f : ℕ}
    (e : (operate T (append_member t m)).result ≡ accepted n f) where
  abbrev after : Table
  after = (operate T (append_member t m)).table

  extended : after ≡ set T t (choice need (ms ++ m ∷ []))
  unfolding Appends
  extended =
      let gone = (done T (append_member t m) e).0 in
      let same : choice gone.0 gone.1 ≡ choice need ms = sym gone.2 ∙ is in
      let need-same : gone.0 ≡ need = cc in
      let members-same : gone.1 ≡ ms = cc in
      gone.3 ∙ rw (need-same, members-same)

  right : SoundTable T
  right = valid_sound T valid

  longer_right : SoundTable (set T t (choice need (ms ++ m ∷ [])))
  longer_right = rw extended at (valid_sound after (done T (append_member t m) e).1)

  -- where a member was appended, heights only fall;
  pub member_falls : (u : ℕ) → height_of after u ≤ height_of T u
  member_falls u = rw extended (heights_fall T right t need ms is m u)

  -- nothing moves, unless the choice needs a member and got one strictly lower than all it had;
  pub member_kept : ((need ≡ needed) × (height_of T m < lowest (heights T) ms) → ⊥)
      → (u : ℕ) → u < length T → (height_of after u ≡ height_of T u) × (kept_length after u ≡ kept_length T u)
  unfolding kept_length
  member_kept never u exists =
      let which = not_lower need (lowest (heights T) ms) (height_of T m) never in
      let formed = longer_right.well_formed in
      rw extended
      (unmoved_height T right t need ms is m formed which u, ap (min 60001) (unmoved_length T right t need ms is m formed which u exists))

  -- then its own height falls
  pub member_moved : need ≡ needed → height_of T m < lowest (heights T) ms → height_of after t < height_of T t
  member_moved needs low = rw extended (moved_height T right t need ms is m needs low)
