-- The two operations on a table that was accepted (02, N8). What an operation would give is judged as if it were written, by checks 2 to 6;
-- here the checks of what is new find the same, in the same order, and what is accepted is a valid table again.
use Rattle.std.specs.Prelude.{◌≡◌, Bool, true, false, ◌↔◌, ◌⊎◌, ℕ, zero, suc, ◌≤◌, ◌<◌, set, eqb, leb}
use Rattle.std.proofs.Math.Path.{refl}
use Rattle.std.proofs.Common.{sym, ap, ap₂, ◌∙◌, inl, inr, arith, eqb-true, leb-true, le-leb}
use mathlib.Core.List.Memᴰ
use mathlib.Core.List.{List, [], ◌∷◌, ◌++◌, append_cancel_right, Memᴰ}
use Rattle.std.proofs.Math.Option.{Option, none, some}
use Rattle.std.proofs.Math.ListN.{length, length-append, length-set}
use Rattle.model.specs.Definitions.Basics.{pick, Verdict, passes, fails, and_then, member_of}
use Rattle.model.specs.Definitions.Commands.{Need, needed, optional}
use Rattle.model.specs.Definitions.Table.{Kind, text, empty, sequence, choice, list, Table, kind_of, members_of, is_choice, table_of}
use Rattle.model.specs.Definitions.Heights.{height_of, endless_type}
use Rattle.model.specs.Definitions.TableChecks.{table_form, table_limits, table_operands, table_repeats}
use Rattle.model.specs.Definitions.ValidTable.{ValidTable, member_bytes, kind_bytes, table_bytes}
use Rattle.model.specs.Definitions.Refusals.{Fault, over_limit, bad_operand, repeated_member, no_finite_instance, source_table, faulty, no_choice, Judged, fault_at}
use Rattle.model.specs.Definitions.Entries.{accepted, checked_table}
use Rattle.model.specs.Definitions.Operations.{members_written, with_at_least, where_none, where_one, type_in, unchanged, without_mark, changed_if, changed_to, extended_at, with_member, append_if, member_appended}
use Rattle.model.proofs.Theorems.Facts.{WellFormed, SoundTable, All, all_none, all_more}
use Rattle.model.proofs.Theorems.Tools.{true_false, some_none}
use Rattle.model.proofs.Theorems.Runs.{passes_fails}
use Rattle.model.proofs.Theorems.FillerLaws.{instance_of}
use Rattle.model.proofs.Theorems.JudgedTables.{all_at, all_from, Enough, Known, Unrepeated, no_more, one_more, choice_at, neither, table_well_formed, table_sound, heights_finite}
use Rattle.model.proofs.Theorems.ValidTables.{table_of_bytes, accepted_table_written, Short, ChoosesOnce, form_exactly, limits_exactly, operands_exactly, repeats_exactly, kind_operands, kind_repeats, valid_parts, passed_valid, instances_pass, valid_table_accepted}
use Rattle.model.proofs.Theorems.ReadBack.{all_member}
use Rattle.model.proofs.Theorems.ReadConforms.{and_then_lem}
use Rattle.model.proofs.Theorems.Templates.{all_append}
use Rattle.model.proofs.Theorems.GrownTables.{grown_length, grown_sound, extended_sound}

-- ---- one type's own commands

-- from the bytes of members, or of a type with enough members, these are read
members_read : (ms : List ℕ) → members_written (member_bytes ms) ≡ some ms
unfolding members_written member_bytes pick and_then
members_read [] = refl
members_read (m ∷ ms) = rw (members_read ms)

enough_kept : (least : ℕ) (kind : List ℕ → Kind) (ms : List ℕ) → least ≤ length ms → with_at_least least kind ms ≡ some (kind ms)
unfolding with_at_least pick
enough_kept least kind ms enough = rw (le-leb least (length ms) enough)

type_read : (κ : Kind) → Enough κ → type_in (kind_bytes κ) ≡ some κ
unfolding type_in kind_bytes members_of where_none where_one pick and_then
type_read text enough = refl
type_read empty enough = refl
type_read (sequence ms) enough = rw (members_read ms) (enough_kept _ sequence ms (omega (arith, enough)))
type_read (choice needed ms) enough = rw (members_read ms) (enough_kept _ (choice needed) ms (omega (arith, enough)))
type_read (choice optional ms) enough = rw (members_read ms) (enough_kept _ (choice optional) ms (omega (arith, enough)))
type_read (list m) enough = refl

-- what is there only where a test passes
there_if : {A : Type 0} (b : Bool) (o : Option A) {a : A} → pick b o none ≡ some a → (b ≡ true) × (o ≡ some a)
unfolding pick
there_if true o e = (refl, e)
there_if false o e = some_none e refl

-- bytes from which members are read are those members' bytes
members_written_lem : (bs ms : List ℕ) → members_written bs ≡ some ms → bs ≡ member_bytes ms
unfolding members_written member_bytes
members_written_lem [] ms e = let same : ms ≡ [] = cc in rw same
members_written_lem (b ∷ []) ms e = some_none e refl
members_written_lem (b ∷ m ∷ rest) ms e =
    let first = there_if (eqb b 0x15) _ e in
    let later = and_then_lem (members_written rest) (λ ns. some (m ∷ ns)) first.1 in
    let same : m ∷ later.0 ≡ ms = cc later.2 in
    ap₂ (λ (c : ℕ) (l : List ℕ). c ∷ m ∷ l) (eqb-true b 0x15 first.0) (members_written_lem rest later.0 later.1) ∙ ap member_bytes same

-- a type that is read from bytes has these bytes, and enough members
abbrev Told : List ℕ → Option Kind → Type 0
Told cs o = (κ : Kind) → o ≡ some κ → (cs ≡ kind_bytes κ) × Enough κ

-- one byte more that begins a type
told_by : (b n : ℕ) (rest : List ℕ) {here other : Option Kind} → Told (n ∷ rest) here → Told (b ∷ rest) other → Told (b ∷ rest) (pick (eqb b n) here other)
unfolding pick
told_by b n rest {here} {other} h o = go (eqb b n) refl
  where
    go : (same : Bool) → eqb b n ≡ same → Told (b ∷ rest) (pick same here other)
    go true q = rw (eqb-true b n q) h
    go false q = o

-- a type of one byte, a list, and a type with members
told_alone : (b : ℕ) (rest : List ℕ) (κ : Kind) → kind_bytes κ ≡ b ∷ [] → Enough κ → Told (b ∷ rest) (where_none κ rest)
unfolding where_none
told_alone b [] κ is enough found e = let same : κ ≡ found = cc in rw (← same) (sym is, enough)
told_alone b (x ∷ rest) κ is enough found e = some_none e refl

told_list : (rest : List ℕ) → Told (0x14 ∷ rest) (where_one rest)
unfolding where_one kind_bytes members_of
told_list [] found e = some_none e refl
told_list (m ∷ []) found e = let same : list m ≡ found = cc in rw (← same) (refl, omega arith)
told_list (m ∷ x ∷ rest) found e = some_none e refl

told_members : (b : ℕ) (rest : List ℕ) (least : ℕ) (kind : List ℕ → Kind) → ((ms : List ℕ) → kind_bytes (kind ms) ≡ b ∷ member_bytes ms)
    → ((ms : List ℕ) → least ≤ length ms → Enough (kind ms)) → Told (b ∷ rest) (and_then (members_written rest) (with_at_least least kind))
unfolding with_at_least
told_members b rest least kind are enough found e =
    let read = and_then_lem (members_written rest) (with_at_least least kind) e in
    let kept = there_if (leb least (length read.0)) (some (kind read.0)) read.2 in
    let same : kind read.0 ≡ found = cc kept.1 in
    rw (← same) (ap (λ (l : List ℕ). b ∷ l) (members_written_lem rest read.0 read.1) ∙ sym (are read.0), enough read.0 (leb-true _ _ kept.0))

-- by its first byte
type_written_lem : (cs : List ℕ) → Told cs (type_in cs)
unfolding type_in kind_bytes members_of
type_written_lem [] = λ κ e. some_none e refl
type_written_lem (b ∷ rest) =
    told_by b _ rest (told_alone _ rest text refl (omega arith))
    (told_by b _ rest (told_alone _ rest empty refl (omega arith))
    (told_by b _ rest (told_list rest)
    (told_by b _ rest (told_members _ rest _ sequence (λ ms. refl) (λ ms enough. omega (arith, enough)))
    (told_by b _ rest (told_members _ rest _ (choice needed) (λ ms. refl) (λ ms enough. omega (arith, enough)))
    (told_by b _ rest (told_members _ rest _ (choice optional) (λ ms. refl) (λ ms enough. omega (arith, enough)))
    (λ κ e. some_none e refl))))))

-- So bytes are one type's own commands exactly where they are the type's bytes, and it has enough members;
pub type_in_exactly : (cs : List ℕ) (κ : Kind) → (type_in cs ≡ some κ) ↔ ((cs ≡ kind_bytes κ) × Enough κ)
type_in_exactly cs κ = (type_written_lem cs κ, λ h. rw h.0 (type_read κ h.1))

-- and so exactly where, with 1F behind them, they are a table of one type, as far as form goes
pub type_alone : (cs : List ℕ) (κ : Kind) → (type_in cs ≡ some κ) ↔ ((table_form (cs ++ 0x1F ∷ []) ≡ passes) × (table_of (cs ++ 0x1F ∷ []) ≡ κ ∷ []))
unfolding table_bytes
type_alone cs κ = (
  λ e.
      let own = (type_in_exactly cs κ).0 e in
      rw own.0 ((form_exactly (κ ∷ [])).1 (omega arith, all_more own.1 all_none), table_of_bytes (κ ∷ [])),
  λ h.
      let written : cs ++ 0x1F ∷ [] ≡ table_bytes (κ ∷ []) = accepted_table_written (cs ++ 0x1F ∷ []) h.0 ∙ ap table_bytes h.1 in
      let formed : table_form (table_bytes (κ ∷ [])) ≡ passes = rw written at h.0 in
      (type_in_exactly cs κ).1
      (append_cancel_right cs (kind_bytes κ) (0x1F ∷ []) written, all_member ((form_exactly (κ ∷ [])).0 formed).1 (Memᴰ.head refl)),
)

-- ---- a table in which one type is new

-- a valid table is sound
pub valid_sound : (T : Table) → ValidTable T → SoundTable T
valid_sound T valid = rw (table_of_bytes T) at (table_sound (table_bytes T) (valid_table_accepted T valid))

-- A valid table, and one whose types are its types and κ, which has enough members: the table with a type more, or with one exchanged.
record Changes (T : Table) (κ : Kind) (after : Table) : Type 1 where
  valid : ValidTable T
  enough : Enough κ
  grows : length T ≤ length after
  joined : {P : Kind → Type 0} → All P T → P κ → All P after
  new : Memᴰ κ after

-- a check that doesn't pass: its fault is the answer, without its mark
fault_found : (T after : Table) (name : ℕ → Fault) → ((at : ℕ) → without_mark (name at) ≡ name 0) → (v : Verdict) (later : Unit {0} → Judged) → (v ≡ passes → ⊥)
    → changed_if (fault_at name v later) T after ≡ unchanged T (faulty source_table (name 0))
unfolding changed_if fault_at
fault_found T after name same passes later never = absurd (never refl)
fault_found T after name same (fails at) later never = rw (same at)

-- Each check passes where κ has what it asks, as the types of T have it; where κ has not, that check is the first to fail.
module _ {T after : Table} {κ : Kind} (change : Changes T κ after) where
  form_passes : table_form (table_bytes after) ≡ passes
  form_passes =
      (form_exactly after).1 (omega (arith, change.grows, change.valid.has_type), change.joined (valid_parts change.valid).enough change.enough)

  limits_pass : length after ≤ 64 → Short κ → table_limits (table_bytes after) ≡ passes
  limits_pass few short = (limits_exactly after).1 (few, change.joined (valid_parts change.valid).short short)

  operands_pass : Known (length after) (members_of κ) → table_operands (length after) (table_bytes after) ≡ passes
  unfolding kind_of
  operands_pass known =
      let older = (valid_sound T change.valid).well_formed.members_exist in
      (operands_exactly (length after) after).1 (change.joined (all_from empty T (λ t exists m i. omega (arith, change.grows, older t m i))) known)

  repeats_pass : ChoosesOnce κ → table_repeats (table_bytes after) ≡ passes
  repeats_pass once = (repeats_exactly after).1 (change.joined (valid_parts change.valid).once once)

  change_well_formed : Known (length after) (members_of κ) → ChoosesOnce κ → WellFormed after
  change_well_formed known once =
      let read = table_of_bytes after in
      rw read at (table_well_formed (table_bytes after) form_passes (rw read (operands_pass known)) (repeats_pass once))

  -- 3: too many types, or members of κ
  change_many : ((length after ≤ 64) × Short κ → ⊥) → changed_to T after ≡ unchanged T (faulty source_table (over_limit 0))
  unfolding changed_to checked_table fault_at without_mark
  change_many never =
      rw form_passes
      (fault_found T after over_limit (λ at. refl) _ _ (λ e. let within = (limits_exactly after).0 e in never (within.0, all_member within.1 change.new)))

  module _ (few : length after ≤ 64) (short : Short κ) where
    -- 4: a member of κ that is no type
    change-unknown : (Known (length after) (members_of κ) → ⊥) → changed_to T after ≡ unchanged T (faulty source_table (bad_operand 0))
    unfolding changed_to checked_table fault_at without_mark
    change-unknown never =
        rw (form_passes, limits_pass few short, table_of_bytes after)
        (fault_found T after bad_operand (λ at. refl) _ _ (λ e. never (all_member ((operands_exactly (length after) after).0 e) change.new)))

    module _ (known : Known (length after) (members_of κ)) where
      -- 5: κ is a choice with a member twice
      change-repeated : (ChoosesOnce κ → ⊥) → changed_to T after ≡ unchanged T (faulty source_table (repeated_member 0))
      unfolding changed_to checked_table fault_at without_mark
      change-repeated never =
          rw (form_passes, limits_pass few short, table_of_bytes after, operands_pass known)
          (fault_found T after repeated_member (λ at. refl) _ _ (λ e. never (all_member ((repeats_exactly after).0 e) change.new)))

      module _ (once : ChoosesOnce κ) where
        -- 6: a type that is too high has no finite instance
        change-endless : (t : ℕ) → length after < height_of after t → changed_to T after ≡ unchanged T (faulty source_table (no_finite_instance 0))
        unfolding changed_to checked_table fault_at without_mark
        change-endless t high =
            rw (form_passes, limits_pass few short, table_of_bytes after, operands_pass known, repeats_pass once)
            (fault_found T after no_finite_instance (λ at. refl) (endless_type after) _ (λ e. omega (arith, heights_finite after e t)))

        -- else the table is there, and valid
        changed : SoundTable after → (changed_to T after ≡ record { result = accepted (length after) 0; table = after }) × ValidTable after
        unfolding changed_to checked_table fault_at changed_if
        changed right = (
          rw (form_passes, limits_pass few short, table_of_bytes after, operands_pass known, repeats_pass once, instances_pass after (instance_of after right)),
          passed_valid after form_passes (limits_pass few short) (repeats_pass once) right,
        )

-- ---- append a type

-- The new type's own checks are those of its bytes; the older types have passed theirs, and keep their heights.
module _ (T : Table) (valid : ValidTable T) (κ : Kind) (enough : Enough κ) where
  appended : Changes T κ (T ++ κ ∷ [])
  appended =
      record {
        valid = valid;
        enough = enough;
        grows = omega (arith, grown_length T κ);
        joined = λ all new. all_append all (all_more new all_none);
        new = Memᴰ.append_right T (Memᴰ.head refl);
      }

  pub type_many : (64 ≤ length T) ⊎ (16 < length (members_of κ)) → changed_to T (T ++ κ ∷ []) ≡ unchanged T (faulty source_table (over_limit 0))
  type_many which = change_many appended (beyond which)
    where
      beyond : (64 ≤ length T) ⊎ (16 < length (members_of κ)) → (length (T ++ κ ∷ []) ≤ 64) × Short κ → ⊥
      beyond (inl many) within = omega (arith, grown_length T κ)
      beyond (inr long) within = omega arith

  module _ (few : length T < 64) (short : length (members_of κ) ≤ 16) where
    few_types : length (T ++ κ ∷ []) ≤ 64
    few_types = omega (arith, grown_length T κ)

    pub type-unknown : (at : ℕ) → table_operands (suc (length T)) (kind_bytes κ) ≡ fails at → changed_to T (T ++ κ ∷ []) ≡ unchanged T (faulty source_table (bad_operand 0))
    type-unknown at e =
        change-unknown appended few_types short (λ known. passes_fails ((kind_operands (suc (length T)) κ).1 (rw (grown_length T κ) at known)) e)

    module _ (known : table_operands (suc (length T)) (kind_bytes κ) ≡ passes) where
      types-known : Known (length (T ++ κ ∷ [])) (members_of κ)
      types-known = rw (grown_length T κ) ((kind_operands (suc (length T)) κ).0 known)

      pub type-repeated : (at : ℕ) → table_repeats (kind_bytes κ) ≡ fails at → changed_to T (T ++ κ ∷ []) ≡ unchanged T (faulty source_table (repeated_member 0))
      type-repeated at e = change-repeated appended few_types short types-known (λ once. passes_fails ((kind_repeats κ).1 once) e)

      module _ (distinct : table_repeats (kind_bytes κ) ≡ passes) where
        chosen-once : ChoosesOnce κ
        chosen-once = (kind_repeats κ).0 distinct

        pub grown-well-formed : WellFormed (T ++ κ ∷ [])
        grown-well-formed = change_well_formed appended types-known chosen-once

        pub type-endless : suc (length T) < height_of (T ++ κ ∷ []) (length T) → changed_to T (T ++ κ ∷ []) ≡ unchanged T (faulty source_table (no_finite_instance 0))
        type-endless high = change-endless appended few_types short types-known chosen-once (length T) (omega (arith, grown_length T κ))

        pub type-appended : height_of (T ++ κ ∷ []) (length T) ≤ suc (length T)
            → (changed_to T (T ++ κ ∷ []) ≡ record { result = accepted (suc (length T)) 0; table = T ++ κ ∷ [] }) × ValidTable (T ++ κ ∷ [])
        type-appended low =
            rw (← grown_length T κ) (changed appended few_types short types-known chosen-once (grown_sound T (valid_sound T valid) κ grown-well-formed low))

-- ---- append a member to a choice

-- nothing to extend
pub no_choice_there : (T : Table) (t m : ℕ) → is_choice (kind_of T t) ≡ false → member_appended T t m ≡ unchanged T no_choice
unfolding member_appended append_if
no_choice_there T t m e = rw e

-- what holds of every entry, and of another, still holds where this is put in the place of one,
all_set : {A : Type 0} {P : A → Type 0} {x : A} {xs : List A} (i : ℕ) → All P xs → P x → All P (set xs i x)
all_set i all_none new = all_none
all_set zero (all_more p ps) new = all_more new ps
all_set (suc i) (all_more p ps) new = all_more p (all_set i ps new)

-- and what is put in a choice's place is there
set_there : {κ : Kind} (T : Table) (t : ℕ) {need : Need} {ms : List ℕ} → kind_of T t ≡ choice need ms → Memᴰ κ (set T t κ)
unfolding kind_of
set_there [] t is = let z : ◌≡◌ {A = ℕ} 0 1 = cc in absurd (omega arith)
set_there (x ∷ T) zero is = Memᴰ.head refl
set_there (x ∷ T) (suc t) is = Memᴰ.tail (set_there T t is)

-- a list that repeats nothing, with a member more at its end, repeats nothing exactly where that is new
new_at_end : {earlier ms : List ℕ} (m : ℕ) → Unrepeated earlier ms → member_of m earlier ≡ false → member_of m ms ≡ false → Unrepeated earlier (ms ++ m ∷ [])
unfolding member_of
new_at_end m no_more apart new = one_more apart no_more
new_at_end m (one_more {m = n} {ms = ms} fresh later) apart new =
    let both = neither (eqb m n) (member_of m ms) new in
    one_more fresh (new_at_end m later (rw both.0 apart) both.1)

end_is_new : {earlier : List ℕ} (ms : List ℕ) (m : ℕ) → Unrepeated earlier (ms ++ m ∷ []) → (member_of m earlier ≡ false) × (member_of m ms ≡ false)
unfolding member_of
end_is_new [] m (one_more new later) = (new, refl)
end_is_new {earlier} (n ∷ ms) m (one_more fresh later) =
    let rest = end_is_new ms m later in
    let both = neither (eqb m n) (member_of m earlier) rest.0 in
    (both.1, rw both.0 rest.1)

-- a choice with enough members has enough with one more
enough_more : (need : Need) (ms : List ℕ) (m : ℕ) → Enough (choice need ms) → Enough (choice need (ms ++ m ∷ []))
unfolding members_of
enough_more needed ms m enough = omega (arith, length-append ms (m ∷ []))
enough_more optional ms m enough = omega (arith, length-append ms (m ∷ []))

module _ (T : Table) (valid : ValidTable T) (t : ℕ) (need : Need) (ms : List ℕ) (is : kind_of T t ≡ choice need ms) (m : ℕ) where
  abbrev longer : Kind
  longer = choice need (ms ++ m ∷ [])

  -- the choice with a member more, in its place
  extended : extended_at T t m ≡ set T t longer
  unfolding extended_at with_member
  extended = rw is

  appends : member_appended T t m ≡ changed_to T (set T t longer)
  unfolding member_appended append_if is_choice
  appends = rw (is, extended)

  exchanged : Changes T longer (set T t longer)
  unfolding kind_of members_of
  exchanged =
      record {
        valid = valid;
        enough = enough_more need ms m (rw is at (all_at {P = Enough} empty (omega arith) (valid_parts valid).enough t));
        grows = omega (arith, length-set T t longer);
        joined = all_set t;
        new = set_there T t is;
      }

  pub member_many : 16 ≤ length ms → member_appended T t m ≡ unchanged T (faulty source_table (over_limit 0))
  unfolding members_of
  member_many many = appends ∙ change_many exchanged (λ within. omega (arith, within.1, length-append ms (m ∷ [])))

  as_many : length (set T t longer) ≤ 64
  as_many = omega (arith, length-set T t longer, valid.at_most_64)

  longer_known : m < length T → Known (length (set T t longer)) (members_of longer)
  unfolding members_of
  longer_known known n i = rw (length-set T t longer) (go (Memᴰ.append_cases ms i))
    where
      go : Memᴰ n ms ⊎ Memᴰ n (m ∷ []) → n < length T
      go (inl older) = (valid_sound T valid).well_formed.members_exist t n (rw is older)
      go (inr new) = rw (Memᴰ.eq_of_singleton new) known

  longer_once : member_of m ms ≡ false → ChoosesOnce longer
  unfolding member_of
  longer_once new = new_at_end m (choice_at (valid_parts valid).once t need ms is) refl new

  module _ (few : length ms < 16) where
    longer-short : Short longer
    unfolding members_of
    longer-short = omega (arith, length-append ms (m ∷ []))

    pub member-unknown : length T ≤ m → member_appended T t m ≡ unchanged T (faulty source_table (bad_operand 0))
    unfolding members_of
    member-unknown beyond =
        appends
        ∙ change-unknown exchanged as_many longer-short
        (λ known. omega (arith, known m (Memᴰ.append_right ms (Memᴰ.head refl)), length-set T t longer))

    module _ (known : m < length T) where
      pub member-repeated : member_of m ms ≡ true → member_appended T t m ≡ unchanged T (faulty source_table (repeated_member 0))
      member-repeated e =
          appends ∙ change-repeated exchanged as_many longer-short (longer_known known) (λ once. true_false e (end_is_new ms m once).1)

      pub extended-well-formed : member_of m ms ≡ false → WellFormed (extended_at T t m)
      extended-well-formed new = rw extended (change_well_formed exchanged (longer_known known) (longer_once new))

      -- no height rises, so check 6 refuses nothing
      pub member-appended : member_of m ms ≡ false
          → (member_appended T t m ≡ record { result = accepted (length T) 0; table = extended_at T t m }) × ValidTable (extended_at T t m)
      member-appended new =
          let right = extended_sound T (valid_sound T valid) t need ms is m (rw extended at (extended-well-formed new)) in
          rw (appends, extended, ← length-set T t longer) (changed exchanged as_many longer-short (longer_known known) (longer_once new) right)
