-- From what the checks of an operation find to what it answers.
use mathlib.Core.Path.{◌≡◌, refl, sym, ap, ap₂, ◌∙◌, subst}
use mathlib.Core.Bool.{Bool, true, false}
use mathlib.Core.List.{List, [], ◌∷◌, ◌++◌}
use mathlib.Core.Logic.{inl, inr}
use mathlib.Core.Option.{Option, none, some}
use Prim.Native.Nat.{ℕ, suc, ◌+◌, ◌≤◌, ◌<◌, ◌/◌}
use native.Mathlib.Numerals.{add-one}
use native.Mathlib.Omega.{arith}
use lib.ListN.{length, get_or}
use lib.Dec.{eqb}
use borrow.Author.Tests.{eqb-true, eqb-false}
use Rattle.answers.specs.Answers.{verdict, refusal}
use Rattle.answers.specs.declared.Fault.{Fault}
use Rattle.answers.specs.declared.Document.{Document}
use Rattle.answers.specs.declared.Refusal.{Refusal as Why}
use Rattle.std.specs.Prelude.{⊤, Result, Ok, Err}
use Rattle.std.specs.Result.{is_err}
use Rattle.loaded_table.specs.Loaded.{types_in, counts_of, table_by, Bounded, length_of_lem}
use Rattle.model.specs.Definitions.Basics as basics
use Rattle.model.specs.Definitions.Basics.{passes, fails, is_there, member_of}
use Rattle.model.specs.Definitions.Table.{Kind, Table, is_choice, kind_of, members_of}
use Rattle.model.specs.Definitions.Heights.{height_of}
use Rattle.model.specs.Definitions.TableChecks.{table_operands, table_repeats}
use Rattle.model.specs.Definitions.ValidTable.{ValidTable, kind_bytes}
use Rattle.model.specs.Definitions.Refusals.{over_limit, bad_operand, repeated_member, no_finite_instance, Refusal, source_table, faulty}
use Rattle.model.specs.Definitions.Entries.{refused, accepted}
use Rattle.model.specs.Definitions.Operations.{type_in, Operation, append_type, append_member, Changed, unchanged, changed_to, append_kind, type_appended, operate, member_appended, extended_at}
use Rattle.model.proofs.Theorems.Operations.{type_in_exactly, type_many, type-unknown, type-repeated, grown-well-formed, type-endless, type-appended, no_choice_there, member_many, member-unknown, member-repeated, member-appended}
use Rattle.model.proofs.Theorems.Facts.{WellFormed}
use Rattle.model.proofs.Theorems.JudgedTables.{Enough}
use Rattle.model.proofs.Theorems.Tools.{true_false}
use Rattle.table_heights.specs.Sections.{members_at, members_long}
use Rattle.type_commands.specs.Types.{is_one_type, or_empty, type_written}
use Rattle.type_commands.proofs.Reading.{type_told}
use Rattle.table_growth.proofs.Joining.{choice_is}
use Rattle.table_growth.specs.Growth.{Loaded, IsLoaded, Grown, TypeChecked, MayJoin}

-- ---- any operation

-- refused
module _ (o : Operation) (rows after : List ℕ) where
  pub refused_as : (why : Why) → (operate (table_by rows) o).result ≡ refused (refusal why) → Grown o rows (Err why) after
  refused_as why e = record { answer = sym e; done = λ n same. let z : ◌≡◌ {A = ℕ} 0 1 = cc in absurd (omega arith) }

  -- done
  pub done_as : {all : ℕ} {T : Table} → operate (table_by rows) o ≡ record { result = accepted all 0; table = T } → Loaded after T → Grown o rows (Ok all) after
  done_as e loaded = record { answer = sym (ap (λ (c : Changed). c.result) e); done = λ n same. subst (Loaded after) (sym (ap (λ (c : Changed). c.table) e)) loaded }

-- ---- a type

-- what is there, and what isn't
there_is : (o : Option Kind) → is_there o ≡ true → o ≡ some (or_empty o)
unfolding is_there
there_is none e = true_false e refl
there_is (some κ) e = refl

there_isn't : (o : Option Kind) → is_there o ≡ false → o ≡ none
unfolding is_there
there_isn't none e = refl
there_isn't (some κ) e = true_false refl e

-- a check that answers an error has failed, and one that answers none has passed
pub fails_as : (r : Result ⊤ ℕ) {w : basics.Verdict} {b : Bool} → verdict r ≡ w → b ≡ is_err r → b ≡ true → (at : ℕ) × (w ≡ fails at)
fails_as (Ok done) p q e = true_false e q
fails_as (Err at) p q e = (at, sym p)

pub passes_as : (r : Result ⊤ ℕ) {w : basics.Verdict} {b : Bool} → verdict r ≡ w → b ≡ is_err r → b ≡ false → w ≡ passes
passes_as (Ok done) p q e = sym p
passes_as (Err at) p q e = true_false q e

pub not_one : (all : ℕ) (cs : List ℕ) → is_one_type cs ≡ false → TypeChecked all cs (Err (Why.Faulty Document.SourceTable (Fault.BadForm 0)))
unfolding type_appended append_kind unchanged
not_one all cs e T valid long = ap (λ o. (append_kind T o).result) (there_isn't (type_in cs) e)

module _ (cs : List ℕ) (one : is_one_type cs ≡ true) where
  abbrev κ : Kind
  κ = type_written cs

  -- they are the type's bytes, and it has the members that it needs
  its : (cs ≡ kind_bytes κ) × Enough κ
  its = (type_in_exactly cs κ).0 (there_is (type_in cs) one)

  many : length cs / 2 ≡ length (members_of κ)
  many = (type_told cs one).many

  module _ (T : Table) (valid : ValidTable T) where
    -- what becomes of the table with the type is what the operation answers
    pub by-type : {c : Changed} → changed_to T (T ++ κ ∷ []) ≡ c → operate T (append_type cs) ≡ c
    unfolding operate type_appended append_kind
    by-type e = ap (append_kind T) (there_is (type_in cs) one) ∙ e

    answered : {why : Refusal} → changed_to T (T ++ κ ∷ []) ≡ unchanged T why → (type_appended T cs).result ≡ refused why
    unfolding operate unchanged
    answered e = ap (λ (c : Changed). c.result) (by-type e)

    pub many-types : length T ≡ 64 → (type_appended T cs).result ≡ refused (faulty source_table (over_limit 0))
    many-types e = answered (type_many T valid κ its.1 (inl (omega arith)))

    pub many-members : 16 < length cs / 2 → (type_appended T cs).result ≡ refused (faulty source_table (over_limit 0))
    many-members e = answered (type_many T valid κ its.1 (inr (omega (arith, many))))

    module _ (few : length T < 64) (short : length cs / 2 ≤ 16) where
      -- the checks of the bytes are those of the type
      operands_of : {all : ℕ} {v : basics.Verdict} → length T ≡ all → table_operands (all + 1) cs ≡ v → table_operands (suc (length T)) (kind_bytes κ) ≡ v
      operands_of {all} long e = ap₂ table_operands (ap suc long ∙ sym (add-one all)) (sym its.0) ∙ e

      repeats-of : {v : basics.Verdict} → table_repeats cs ≡ v → table_repeats (kind_bytes κ) ≡ v
      repeats-of e = ap table_repeats (sym its.0) ∙ e

      few_members : length (members_of κ) ≤ 16
      few_members = omega (arith, many)

      pub unknown-type : {all at : ℕ} → length T ≡ all → table_operands (all + 1) cs ≡ fails at → (type_appended T cs).result ≡ refused (faulty source_table (bad_operand 0))
      unknown-type {at = at} long e = answered (type-unknown T valid κ its.1 few few_members at (operands_of long e))

      module _ {all : ℕ} (long : length T ≡ all) (known : table_operands (all + 1) cs ≡ passes) where
        pub repeated-type : {at : ℕ} → table_repeats cs ≡ fails at → (type_appended T cs).result ≡ refused (faulty source_table (repeated_member 0))
        repeated-type {at} e = answered (type-repeated T valid κ its.1 few few_members (operands_of long known) at (repeats-of e))

        module _ (distinct : table_repeats cs ≡ passes) where
          pub well-formed-then : WellFormed (T ++ κ ∷ [])
          well-formed-then = grown-well-formed T valid κ its.1 few few_members (operands_of long known) (repeats-of distinct)

          pub endless-type : suc (length T) < height_of (T ++ κ ∷ []) (length T) → (type_appended T cs).result ≡ refused (faulty source_table (no_finite_instance 0))
          endless-type e = answered (type-endless T valid κ its.1 few few_members (operands_of long known) (repeats-of distinct) e)

          pub type-done : height_of (T ++ κ ∷ []) (length T) ≤ suc (length T)
              → (operate T (append_type cs) ≡ record { result = accepted (suc (length T)) 0; table = T ++ κ ∷ [] }) × ValidTable (T ++ κ ∷ [])
          type-done e =
              let appended = type-appended T valid κ its.1 few few_members (operands_of long known) (repeats-of distinct) e in
              (by-type appended.0, appended.1)

-- ---- a member

module _ (rows after : List ℕ) (t m : ℕ) (loaded : IsLoaded rows) where
  abbrev T : Table
  T = table_by rows

  abbrev bounded : Bounded rows
  bounded = loaded.stands.bounded

  -- what is known is known of the operation
  by : {c : Changed} → member_appended T t m ≡ c → (operate T (append_member t m)).result ≡ c.result
  unfolding operate
  by e = ap (λ (c : Changed). c.result) e

  pub nothing_to_extend : is_choice (kind_of T t) ≡ false → Grown (append_member t m) rows (Err Why.NoChoice) after
  unfolding unchanged
  nothing_to_extend e = refused_as (append_member t m) rows after Why.NoChoice (by (no_choice_there T t m e))

  module _ (exists : t < types_in rows) (chooses : is_choice (kind_of T t) ≡ true) where
    long : length (members_at rows t) ≡ get_or (counts_of rows) t 0
    long = members_long rows t (bounded, exists) refl

    pub too_many : eqb (get_or (counts_of rows) t 0) 16 ≡ true → Grown (append_member t m) rows (Err (Why.Faulty Document.SourceTable (Fault.OverLimit 0))) after
    unfolding unchanged
    too_many e =
        refused_as (append_member t m) rows after (Why.Faulty Document.SourceTable (Fault.OverLimit 0)) (by (member_many T loaded.valid t _ _ (choice_is rows t exists chooses) m (omega (arith, long, eqb-true (get_or (counts_of rows) t 0) 16 e))))

    module _ (room : eqb (get_or (counts_of rows) t 0) 16 ≡ false) where
      few : get_or (counts_of rows) t 0 < 16
      few = omega (arith, bounded.few_members t, eqb-false (get_or (counts_of rows) t 0) 16 room)

      pub unknown : types_in rows ≤ m → Grown (append_member t m) rows (Err (Why.Faulty Document.SourceTable (Fault.BadOperand 0))) after
      unfolding unchanged
      unknown e =
          refused_as (append_member t m) rows after (Why.Faulty Document.SourceTable (Fault.BadOperand 0))
          (by (member-unknown T loaded.valid t _ _ (choice_is rows t exists chooses) m (omega (arith, long, few)) (omega (arith, length_of_lem rows))))

      module _ (known : m < types_in rows) where
        pub repeated : member_of m (members_at rows t) ≡ true → Grown (append_member t m) rows (Err (Why.Faulty Document.SourceTable (Fault.RepeatedMember 0))) after
        unfolding unchanged
        repeated e =
            refused_as (append_member t m) rows after (Why.Faulty Document.SourceTable (Fault.RepeatedMember 0))
            (by (member-repeated T loaded.valid t _ _ (choice_is rows t exists chooses) m (omega (arith, long, few)) (omega (arith, length_of_lem rows)) e))

        module _ (new : member_of m (members_at rows t) ≡ false) where
          pub may-join : MayJoin rows t m
          may-join = record { loaded = loaded; chooses = chooses; exists = exists; room = few; known = known; new = new }

          pub joined : {all : ℕ} → all ≡ types_in rows → Loaded after (extended_at T t m) → Grown (append_member t m) rows (Ok all) after
          unfolding operate
          joined {all} e there =
              done_as (append_member t m) rows after
              ((member-appended T loaded.valid t _ _ (choice_is rows t exists chooses) m (omega (arith, long, few)) (omega (arith, length_of_lem rows)) new).0
              ∙ ap (λ (n : ℕ). record { result = accepted n 0; table = extended_at T t m }) (length_of_lem rows ∙ sym e))
              there
