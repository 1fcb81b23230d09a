-- The loop of `choice_depth`: the steps of a path before its first choice step.
use mathlib.Core.Path.{◌≡◌, sym, ap, ◌∙◌}
use mathlib.Core.Bool.{true, false}
use mathlib.Core.List.{List, [], ◌∷◌, ◌++◌, append-nil}
use Prim.Native.Nat.{ℕ, ◌+◌, ◌-◌, ◌*◌, ◌≤◌, ◌<◌}
use native.Mathlib.Numerals.{add-one}
use native.Mathlib.Omega.{arith}
use lib.ListN.{drop, get_or}
use Rattle.model.specs.Definitions.Table.{Table, kind_of, is_choice}
use Rattle.model.specs.Definitions.Embedding.{next, before_choice}
use Rattle.model.proofs.Theorems.Tools.{pick_true, pick_false}
use Rattle.loaded_table.specs.Loaded.{table_by, kinds_of, counts_of, members_in}
use Rattle.loaded_table.specs.Kinds.{choice_code, choice_code_lem}
use Rattle.loaded_embedding.specs.Loaded.{steps_from, steps_more}
use Rattle.paths.specs.Following.{Followable, Taken}
use Rattle.paths.specs.Stepping.{steps_here, kind_here, next_here, follow-on, follow_start}

-- the first i steps leave no choice, so they stand before what the rest has before its first choice step
pub record Chooses (target em : List ℕ) (start steps t i τ : ℕ) : Type 0 where
  pub walk : Taken target em start steps i τ
  pub high : i ≤ steps
  pub before : before_choice (table_by target) t (steps_from em (start + 2) steps)
      ≡ steps_from em (start + 2) i ++ before_choice (table_by target) τ (steps_from em (start + 2 * i + 2) (steps - i))

-- before the first step
pub chooses_start : {target em : List ℕ} {start steps t : ℕ} → Followable target em start steps t → Chooses target em start steps t 0 t
unfolding steps_from
chooses_start {start = start} {steps} path =
    let place : start + 2 * 0 ≡ start = omega arith in
    let all : steps - 0 ≡ steps = omega arith in
    record { walk = follow_start path; high = omega arith; before = rw (place, all) }

module _ {target em : List ℕ} {start steps t i τ : ℕ} (now : Chooses target em start steps t i τ) where
  abbrev T : Table
  T = table_by target

  -- what is to be shown of the number of steps
  abbrev Depth : Type 0
  Depth = (i ≤ steps) × (steps_from em (start + 2) i ≡ before_choice T t (steps_from em (start + 2) steps))

  -- nothing more stands before a choice step: i steps do
  ends_here : before_choice T τ (steps_from em (start + 2 * i + 2) (steps - i)) ≡ [] → Depth
  ends_here none_before = (now.high, sym (now.before ∙ ap (λ (l : List ℕ). steps_from em (start + 2) i ++ l) none_before ∙ append-nil (steps_from em (start + 2) i)))

  -- there is no choice
  pub chooses_none : steps ≤ i → (steps ≤ steps) × (steps_from em (start + 2) steps ≡ before_choice T t (steps_from em (start + 2) steps))
  unfolding before_choice steps_from
  chooses_none over =
      let none_left : steps - i ≡ 0 = omega arith in
      let all : i ≡ steps = omega arith in
      (omega arith, ap (steps_from em (start + 2)) (sym all) ∙ (ends_here (rw none_left)).1)

  module _ (less : i < steps) {p : ℕ} (read : p ≡ get_or em (start + 2 + 2 * i) 0) where
    abbrev later : List ℕ
    later = steps_from em (start + 2 * (i + 1) + 2) (steps - (i + 1))

    is_choice_lem : is_choice (kind_of T τ) ≡ choice_code (get_or (kinds_of target) τ 0)
    is_choice_lem =
        ap is_choice (kind_here now.walk less read)
        ∙ choice_code_lem (get_or (kinds_of target) τ 0) (get_or (counts_of target) τ 0) (drop (τ * 16) (members_in target))

    -- the step leaves a choice
    pub chooses-here : choice_code (get_or (kinds_of target) τ 0) ≡ true → Depth
    unfolding before_choice
    chooses-here choosing =
        ends_here (ap (before_choice T τ) (steps_here now.walk less read) ∙ pick_true (is_choice (kind_of T τ)) [] (p ∷ before_choice T (next T τ p) later) (is_choice_lem ∙ choosing))

    -- it doesn't
    pub chooses-on : choice_code (get_or (kinds_of target) τ 0) ≡ false → {r : ℕ} → r ≡ get_or (members_in target) (τ * 16 + (p - 1)) 0 → Chooses target em start steps t (i + 1) r
    unfolding before_choice
    chooses-on other is =
        let rest : before_choice T τ (steps_from em (start + 2 * i + 2) (steps - i)) ≡ p ∷ before_choice T (next T τ p) later =
        ap (before_choice T τ) (steps_here now.walk less read) ∙ pick_false (is_choice (kind_of T τ)) [] (p ∷ before_choice T (next T τ p) later) (is_choice_lem ∙ other) in
        record {
          walk = follow-on now.walk less read is;
          high = omega arith;
          before =
              now.before
              ∙ ap (λ (l : List ℕ). steps_from em (start + 2) i ++ l) (rest ∙ ap (λ (q : ℕ). q ∷ before_choice T (next T τ p) later) read)
              ∙ sym (steps_more em (start + 2) i (before_choice T (next T τ p) later))
              ∙ ap (λ (n : ℕ). steps_from em (start + 2) n ++ before_choice T (next T τ p) later) (sym (add-one i))
              ∙ ap (λ (q : ℕ). steps_from em (start + 2) (i + 1) ++ before_choice T q later) (next_here now.walk less read is);
        }
