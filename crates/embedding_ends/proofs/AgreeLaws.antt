-- Check 9 for two paths of an optional choice: going along both up to their first choice step, and the answer where that ends.
use mathlib.Core.Path.{◌≡◌, refl, sym, ap, ap₂, ◌∙◌}
use mathlib.Core.Bool.{Bool, true, false}
use mathlib.Core.List.{List, [], ◌∷◌}
use Prim.Native.Nat.{ℕ, ◌*◌}
use lib.ListN.{get_or, drop}
use borrow.Author.Tests.{eq-eqb, ne_eqb}
use Rattle.model.specs.Definitions.Basics.{pick}
use Rattle.model.specs.Definitions.Table.{Table, kind_of, is_choice}
use Rattle.model.specs.Definitions.Embedding.{next, before_choice, same_steps}
use Rattle.model.proofs.Theorems.Facts.{Walks}
use Rattle.model.proofs.Theorems.Tools.{pick_true, pick_false}
use Rattle.loaded_table.specs.Loaded.{table_by, kinds_of, counts_of, members_in, kind_of_lem}
use Rattle.loaded_table.specs.Kinds.{choice_code, choice_code_lem}
use Rattle.embedding_clash.proofs.Following.{StepAt, goes_on}

-- a path that begins at a choice has no step before its first choice step
none_before : (T : Table) (t : ℕ) (ps : List ℕ) → is_choice (kind_of T t) ≡ true → before_choice T t ps ≡ []
unfolding before_choice
none_before T t [] e = refl
none_before T t (p ∷ ps) e = pick_true (is_choice (kind_of T t)) [] (p ∷ before_choice T (next T t p) ps) e

-- one that begins elsewhere has its first step before it
some_before : (T : Table) (t p : ℕ) (ps : List ℕ) → is_choice (kind_of T t) ≡ false → before_choice T t (p ∷ ps) ≡ p ∷ before_choice T (next T t p) ps
unfolding before_choice
some_before T t p ps e = pick_false (is_choice (kind_of T t)) [] (p ∷ before_choice T (next T t p) ps) e

-- so far they are the same and meet no choice: what is left of both, from the type reached, agrees exactly where the whole paths do
pub record Agreeing (T : Table) (from : ℕ) (one two : List ℕ) (t : ℕ) (ps qs : List ℕ) : Type 0 where
  pub walks : Walks T t ps
  pub other_walks : Walks T t qs
  pub same : same_steps (before_choice T t ps) (before_choice T t qs) ≡ same_steps (before_choice T from one) (before_choice T from two)

module _ {T : Table} {from : ℕ} {one two : List ℕ} {t : ℕ} where
  -- at a choice they agree
  pub meet_choice : {ps qs : List ℕ} → Agreeing T from one two t ps qs → is_choice (kind_of T t) ≡ true → true ≡ same_steps (before_choice T from one) (before_choice T from two)
  unfolding same_steps
  meet_choice {ps} {qs} w e = sym (ap₂ same_steps (none_before T t ps e) (none_before T t qs e)) ∙ w.same

  -- elsewhere they do not where only the second is at its end
  pub other_ended : {p : ℕ} {ps qs : List ℕ} → Agreeing T from one two t (p ∷ ps) qs → is_choice (kind_of T t) ≡ false → qs ≡ []
      → false ≡ same_steps (before_choice T from one) (before_choice T from two)
  unfolding same_steps before_choice
  other_ended {p} {ps} w e ended = sym (ap₂ same_steps (some_before T t p ps e) (ap (before_choice T t) ended)) ∙ w.same

  module _ {p q : ℕ} {ps qs : List ℕ} (w : Agreeing T from one two t (p ∷ ps) (q ∷ qs)) (e : is_choice (kind_of T t) ≡ false) where
    both_go : same_steps (p ∷ before_choice T (next T t p) ps) (q ∷ before_choice T (next T t q) qs) ≡ same_steps (before_choice T from one) (before_choice T from two)
    both_go = sym (ap₂ same_steps (some_before T t p ps e) (some_before T t q qs e)) ∙ w.same

    -- nor where the steps differ
    pub steps_differ : (p ≡ q → ⊥) → false ≡ same_steps (before_choice T from one) (before_choice T from two)
    unfolding same_steps
    steps_differ other = rw (ne_eqb p q other) at both_go

    -- and a step that both take leads on
    pub agreeing-on : p ≡ q → Agreeing T from one two (next T t p) ps qs
    unfolding same_steps
    agreeing-on same = record {
      walks = (goes_on w.walks).onwards;
      other_walks = rw same (goes_on w.other_walks).onwards;
      same = rw (eq-eqb p q same, sym same) at both_go;
    }

  -- both are at their end
  pub both_ended : {ps qs : List ℕ} → Agreeing T from one two t ps qs → ps ≡ [] → qs ≡ [] → true ≡ same_steps (before_choice T from one) (before_choice T from two)
  unfolding same_steps before_choice
  both_ended w first second = sym (ap₂ same_steps (ap (before_choice T t) first) (ap (before_choice T t) second)) ∙ w.same

  -- only the first is: a choice decides
  pub first_ended : {ps qs : List ℕ} {q : ℕ} → Agreeing T from one two t ps (q ∷ qs) → ps ≡ [] → is_choice (kind_of T t) ≡ same_steps (before_choice T from one) (before_choice T from two)
  unfolding same_steps before_choice pick
  first_ended {qs = qs} {q} w ended =
      go (is_choice (kind_of T t)) ∙ sym (ap (λ (l : List ℕ). same_steps (before_choice T t l) (before_choice T t (q ∷ qs))) ended) ∙ w.same
    where
      go : (b : Bool) → b ≡ same_steps [] (pick b [] (q ∷ before_choice T (next T t q) qs))
      go true = refl
      go false = refl

-- the code's test of a choice
pub choice_told : {target : List ℕ} {t p code : ℕ} {r : Bool} → StepAt target t p → r ≡ choice_code code → code ≡ get_or (kinds_of target) t 0 → r ≡ is_choice (kind_of (table_by target) t)
choice_told {target} {t} {code = code} {r} s tested told =
    tested ∙ ap choice_code told ∙ sym (choice_code_lem (get_or (kinds_of target) t 0) (get_or (counts_of target) t 0) (drop (t * 16) (members_in target)))
    ∙ ap is_choice (sym (kind_of_lem target t s.inside))
