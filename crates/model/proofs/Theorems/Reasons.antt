-- 02, N9: the reason that is given for two paths that clash holds of them, and no other does; and whatever two paths clash, one of the
-- four holds. All of it goes by what stands behind the steps that the paths share (`Partings`).
use Rattle.std.specs.Prelude.{◌≡◌, Bool, true, false, List, [], ◌∷◌, ◌++◌, ℕ}
use Rattle.std.proofs.Math.Path.{refl, sym, subst}
use Rattle.std.proofs.Common.{ap, ◌∙◌, arith}
use Rattle.std.proofs.Math.Option.{Option, none, some}
use Rattle.model.specs.Definitions.Basics.{pick, is_there}
use Rattle.model.specs.Definitions.Table.{Kind, text, empty, sequence, choice, list, Table, kind_of, step_from, is_sequence, is_choice}
use Rattle.model.specs.Definitions.Embedding.{end_of, next, Behind, both_end, first_ends, second_ends, apart, parting}
use Rattle.model.specs.Definitions.EmbeddingChecks.{Reason, equal_paths, earlier_begins, later_begins, part_at_sequence, where_one_ends, where_paths_part, clash_reason, clash}
use Rattle.model.specs.Definitions.ValidEmbedding.{StepsExist, PartAt, NoClash}
use Rattle.model.specs.Definitions.Explanation.{ReasonHolds}
use Rattle.model.proofs.Theorems.Facts.{Walks}
use Rattle.model.proofs.Theorems.Tools.{true_false, some_none}
use Rattle.model.proofs.Theorems.Partings.{known_paths, equal_ends, beginning_ends, part_behind, apart_kind}
use Rattle.model.proofs.Theorems.Placing.{no_text_step, no_empty_step, list_step, walks_step, walks_rest}
use Rattle.model.proofs.Theorems.StepTests.{walks_exist, no_clash}

-- ---- which reason is given

-- where one path ends, the reason is the one for that
end_reason : (κ : Kind) (due : Reason) {why : Reason} → where_one_ends κ due ≡ some why → why ≡ due
unfolding where_one_ends
end_reason text due e = some_none e refl
end_reason empty due e = some_none e refl
end_reason (sequence ms) due {why} e = cc
end_reason (choice need ms) due {why} e = cc
end_reason (list m) due e = some_none e refl

-- where they part, it is given in a choice, and no choice is left there
record PartWrongly (κ left : Kind) (why : Reason) : Type 0 where
  is_due : why ≡ part_at_sequence
  chooses : is_choice κ ≡ true
  leaves_none : is_choice left ≡ false

part_reason : (κ left : Kind) {why : Reason} → where_paths_part κ left ≡ some why → PartWrongly κ left why
unfolding where_paths_part pick is_choice
part_reason text left e = some_none e refl
part_reason empty left e = some_none e refl
part_reason (sequence ms) left e = some_none e refl
part_reason (choice need ms) left {why} e = go (is_choice left) refl e
  where
    go : (b : Bool) → is_choice left ≡ b → pick b none (some part_at_sequence) ≡ some why → PartWrongly (choice need ms) left why
    go true q e = some_none e refl
    go false q e = record { is_due = cc; chooses = refl; leaves_none = q }
part_reason (list m) left e = some_none e refl

-- a parting is given as a reason in choices only
pub parting-chooses : (κ : Kind) (b : Behind) → clash_reason κ b ≡ some part_at_sequence → is_choice κ ≡ true
unfolding clash_reason
parting-chooses κ both_end e = let due = end_reason κ _ e in let z : ◌≡◌ {A = ℕ} 0 1 = cc in absurd (omega arith)
parting-chooses κ first_ends e = let due = end_reason κ _ e in let z : ◌≡◌ {A = ℕ} 0 1 = cc in absurd (omega arith)
parting-chooses κ second_ends e = let due = end_reason κ _ e in let z : ◌≡◌ {A = ℕ} 0 1 = cc in absurd (omega arith)
parting-chooses κ (apart left) e = (part_reason κ left e).chooses

-- ---- it holds

-- the steps behind a beginning of a path can be walked from where the beginning ends
walks_behind : (T : Table) (τ : ℕ) (common ps : List ℕ) → Walks T τ (common ++ ps) → Walks T (end_of T τ common) ps
unfolding end_of
walks_behind T τ [] ps w = w
walks_behind T τ (s ∷ common) ps w = walks_behind T (next T τ s) common ps (walks_rest w)

-- two steps that differ leave a choice or a sequence: from a list there is one step only
other_steps : (κ : Kind) (p q : ℕ) {m n : ℕ} → step_from κ p ≡ some m → step_from κ q ≡ some n → (p ≡ q → ⊥) → is_choice κ ≡ false → is_sequence κ ≡ true
unfolding is_choice is_sequence
other_steps text p q one other differ plain = no_text_step p one
other_steps empty p q one other differ plain = no_empty_step p one
other_steps (sequence ms) p q one other differ plain = refl
other_steps (choice need ms) p q one other differ plain = true_false refl plain
other_steps (list m) p q one other differ plain = absurd (differ (list_step m p one ∙ sym (list_step m q other)))

module _ (T : Table) (τ : ℕ) (ps qs : List ℕ) where
  -- so paths that can be walked and part, but not at a choice, part at a sequence
  parts_at_sequence : Walks T τ ps → Walks T τ qs → (left : Kind) → (parting T τ ps qs).behind ≡ apart left → is_choice left ≡ false → is_sequence left ≡ true
  parts_at_sequence walks-p walks-q left e plain =
      let r : PartAt (λ κ. true) T τ ps qs = known_paths T τ ps qs e (λ κ. true) refl in
      let same : kind_of T (end_of T τ r.shared) ≡ left = apart_kind (sym (part_behind T τ r) ∙ e) in
      let one = walks_step (walks_behind T τ r.shared (r.p ∷ r.behind_p) (rw r.one at walks-p)) in
      let other = walks_step (walks_behind T τ r.shared (r.q ∷ r.behind_q) (rw r.other at walks-q)) in
      rw (← same) (other_steps (kind_of T (end_of T τ r.shared)) r.p r.q one other r.differ_here (rw (← same) at plain))

  -- the reason that is given holds
  pub reason_holds : Walks T τ ps → Walks T τ qs → (κ : Kind) {why : Reason} → clash_reason κ (parting T τ ps qs).behind ≡ some why → ReasonHolds T τ ps qs why
  unfolding ReasonHolds clash_reason
  reason_holds walks-p walks-q κ {why} given = go (parting T τ ps qs).behind refl given
    where
      go : (b : Behind) → (parting T τ ps qs).behind ≡ b → clash_reason κ b ≡ some why → ReasonHolds T τ ps qs why
      go both_end e given = subst (ReasonHolds T τ ps qs) (sym (end_reason κ _ given)) (known_paths T τ ps qs e)
      go first_ends e given = subst (ReasonHolds T τ ps qs) (sym (end_reason κ _ given)) (known_paths T τ ps qs e)
      go second_ends e given = subst (ReasonHolds T τ ps qs) (sym (end_reason κ _ given)) (known_paths T τ ps qs e)
      go (apart left) e given =
          let wrongly = part_reason κ left given in
          subst (ReasonHolds T τ ps qs) (sym wrongly.is_due) (known_paths T τ ps qs e is_sequence (parts_at_sequence walks-p walks-q left e wrongly.leaves_none))

-- ---- and no other does

-- the reason that is due to what stands behind the shared steps
due_reason : Behind → Reason
due_reason both_end = equal_paths
due_reason first_ends = earlier_begins
due_reason second_ends = later_begins
due_reason (apart κ) = part_at_sequence

-- so a reason that is given is the one that is due
reason_due : (κ : Kind) (b : Behind) {why : Reason} → clash_reason κ b ≡ some why → why ≡ due_reason b
unfolding clash_reason due_reason
reason_due κ both_end e = end_reason κ _ e
reason_due κ first_ends e = end_reason κ _ e
reason_due κ second_ends e = end_reason κ _ e
reason_due κ (apart left) e = (part_reason κ left e).is_due

module _ (T : Table) (τ : ℕ) (ps qs : List ℕ) where
  -- a reason that holds is the one that is due to what stands behind the shared steps
  holds_due : (r : Reason) → ReasonHolds T τ ps qs r → r ≡ due_reason (parting T τ ps qs).behind
  unfolding ReasonHolds due_reason
  holds_due equal_paths h = sym (ap due_reason (equal_ends T τ ps qs h))
  holds_due earlier_begins h = sym (ap due_reason (beginning_ends T τ ps qs h).0)
  holds_due later_begins h = sym (ap due_reason (beginning_ends T τ qs ps h).1)
  holds_due part_at_sequence h = sym (ap due_reason (part_behind T τ h))

  -- so no other than the one that is given holds
  pub no_other_holds : (κ : Kind) {why : Reason} → clash_reason κ (parting T τ ps qs).behind ≡ some why → (r : Reason) → ReasonHolds T τ ps qs r → r ≡ why
  no_other_holds κ given r h = holds_due r h ∙ sym (reason_due κ (parting T τ ps qs).behind given)

  -- two paths clash exactly where a reason is given
  pub given_clash : (κ : Kind) {why : Reason} → clash_reason κ (parting T τ ps qs).behind ≡ some why → NoClash T κ τ ps qs → ⊥
  unfolding clash is_there
  given_clash κ given free = true_false ((no_clash T κ τ ps qs).1 free) (rw given refl)

  pub none_given : (κ : Kind) → clash_reason κ (parting T τ ps qs).behind ≡ none → NoClash T κ τ ps qs
  unfolding clash is_there
  none_given κ given = (no_clash T κ τ ps qs).0 (rw given refl)

-- The four cover every clash: of two paths whose steps exist and that clash, one reason holds, and no other.
pub one_holds : (T : Table) (κ : Kind) (τ : ℕ) (ps qs : List ℕ) → StepsExist T τ ps → StepsExist T τ qs → (NoClash T κ τ ps qs → ⊥)
    → (why : Reason) × ReasonHolds T τ ps qs why × ((r : Reason) → ReasonHolds T τ ps qs r → r ≡ why)
one_holds T κ τ ps qs exist-p exist-q clashes = go (clash_reason κ (parting T τ ps qs).behind) refl
  where
    go : (o : Option Reason) → clash_reason κ (parting T τ ps qs).behind ≡ o → (why : Reason) × ReasonHolds T τ ps qs why × ((r : Reason) → ReasonHolds T τ ps qs r → r ≡ why)
    go none given = absurd (clashes (none_given T τ ps qs κ given))
    go (some why) given =
        (why, reason_holds T τ ps qs ((walks_exist T τ ps).1 exist-p) ((walks_exist T τ qs).1 exist-q) κ given, no_other_holds T τ ps qs κ given)
