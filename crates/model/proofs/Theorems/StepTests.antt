-- The tests of one path and of two paths in checks 9 and 10 of an embedding decide the predicates of `ValidEmbedding`; and a path can
-- be walked exactly where `ValidEmbedding` says that its steps exist.
use Rattle.std.specs.Prelude.{◌≡◌, Bool, not, ◌&&◌, ◌||◌, ◌↔◌, ◌⊎◌, ℕ, ◌≤◌, length, eqb}
use Rattle.std.proofs.Math.Path.{refl}
use Rattle.std.proofs.Common.{sym, ap, ap₂, ◌∙◌, subst, inl, inr, arith}
use Rattle.std.proofs.Math.Bool.{true, false}
use mathlib.Core.List.Memᴰ
use mathlib.Core.List.{List, [], ◌∷◌, ◌++◌, Memᴰ}
use Rattle.std.proofs.Math.Logic.Iff as iff
use Rattle.std.proofs.Math.Option.{none, some}
use Rattle.model.specs.Definitions.Basics.{pick, some_of, is_there}
use Rattle.model.specs.Definitions.Commands.{needed, optional}
use Rattle.model.specs.Definitions.Table.{Kind, text, empty, sequence, choice, list, Table, kind_of, step_from, is_sequence, is_choice, is_optional, is_list}
use Rattle.model.specs.Definitions.Embedding.{next, leaves, Behind, both_end, first_ends, second_ends, apart, parting, before_choice, same_steps}
use Rattle.model.specs.Definitions.EmbeddingChecks.{leaves_only, sequence_or_list, optional_first, right_steps, agrees, Reason, part_at_sequence, where_one_ends, where_paths_part, clash_reason, clash}
use Rattle.model.specs.Definitions.ValidEmbedding.{StepsExist, Each, AtLeastOne, SequenceOrList, AnyWithSteps, FirstChoiceOptional, RightKinds, StepsRight, Apart, PartAt, NoClash}
use Rattle.model.proofs.Theorems.Facts.{Walks, arrived, onward}
use Rattle.model.proofs.Theorems.Tools.{true_false, pick_true, pick_false, Decides, either, both, equal, some_passes, none_passes}
use Rattle.model.proofs.Theorems.Partings.{known_paths, part_behind, apart_kind, parted_apart, apart_goes_on}
use Rattle.model.proofs.Theorems.Placing.{next_is, no_text_step, no_empty_step}

-- ---- steps that exist

-- a path can be walked exactly where each of its steps exists
pub walks_exist : (T : Table) (τ : ℕ) (ps : List ℕ) → Walks T τ ps ↔ StepsExist T τ ps
unfolding StepsExist
walks_exist T τ ps = (exist, walk τ ps)
  where
    exist : {τ : ℕ} {ps : List ℕ} → Walks T τ ps → StepsExist T τ ps
    exist arrived = tt
    exist (onward {τ = τ} {p = p} e w) = (next T τ p, e, exist w)

    walk : (τ : ℕ) (ps : List ℕ) → StepsExist T τ ps → Walks T τ ps
    walk τ [] h = arrived
    walk τ (p ∷ ps) h =
        let there = next_is T τ p h.0 refl h.1 in
        onward (h.1 ∙ ap some (sym there)) (subst (λ (m : ℕ). Walks T m ps) (sym there) (walk h.0 ps h.2))

-- ---- the kinds that steps leave

-- a test that each kind passes
each_passes : {P : Kind → Type 0} (test : Kind → Bool) → ((κ : Kind) → Decides (test κ) (P κ)) → (κs : List Kind) → Decides (leaves_only test κs) (Each P κs)
unfolding leaves_only Each
each_passes {P} test d = none_passes (λ κ. not (test κ)) (λ κ. subst (λ (b : Bool). Decides b (P κ)) (twice (test κ)) (d κ))
  where
    twice : (b : Bool) → b ≡ not (not b)
    twice true = refl
    twice false = refl

-- each is a sequence or a list
only_plain : (κs : List Kind) → Decides (leaves_only sequence_or_list κs) (Each SequenceOrList κs)
unfolding sequence_or_list
only_plain = each_passes sequence_or_list (λ κ. either (is_sequence κ) (is_list κ) iff.rfl iff.rfl)

-- some kind is one of those tested
some_kind : (test : Kind → Bool) (κs : List Kind) → Decides (some_of test κs) (AtLeastOne (λ κ. test κ ≡ true) κs)
unfolding AtLeastOne
some_kind test = some_passes test (λ κ. iff.rfl)

-- there is a kind at all
any_kind : (κs : List Kind) → Decides (some_of (λ κ. true) κs) (1 ≤ length κs)
unfolding some_of
any_kind [] = (λ h. true_false h refl, λ h. absurd (omega arith))
any_kind (κ ∷ κs) = (λ h. omega arith, λ h. refl)

-- an optional choice is a choice
optional_chooses : (κ : Kind) → is_optional κ ≡ true → is_choice κ ≡ true
unfolding is_optional is_choice
optional_chooses text e = e
optional_chooses empty e = e
optional_chooses (sequence ms) e = e
optional_chooses (choice need ms) e = refl
optional_chooses (list m) e = e

-- what holds of a kind and of each of some others holds of each
each_more : (P : Kind → Type 0) (κ : Kind) (κs : List Kind) → P κ → Each P κs → Each P (κ ∷ κs)
unfolding Each
each_more P κ κs here later κ' i = go (Memᴰ.cases_cons i)
  where
    go : (κ' ≡ κ) ⊎ Memᴰ κ' κs → P κ'
    go (inl e) = subst P (sym e) here
    go (inr j) = later κ' j

each_none : (P : Kind → Type 0) → Each P []
unfolding Each
each_none P κ i = absurd (Memᴰ.not-nil i)

-- where the test passes, the first choice is an optional one
first_optional_lem : (κs : List Kind) → optional_first κs ≡ true → FirstChoiceOptional κs
unfolding optional_first FirstChoiceOptional
first_optional_lem [] e = true_false e refl
first_optional_lem (κ ∷ κs) e = go (is_choice κ) refl (first_optional_lem κs)
  where
    go : (b : Bool) → is_choice κ ≡ b → (optional_first κs ≡ true → FirstChoiceOptional κs) → FirstChoiceOptional (κ ∷ κs)
    go true q later = ([], κ, κs, refl, each_none _, sym (pick_true (is_choice κ) _ _ q) ∙ e)
    go false q later =
        let f = later (sym (pick_false (is_choice κ) _ _ q) ∙ e) in
        (κ ∷ f.0, f.1, f.2, ap (λ (l : List Kind). κ ∷ l) f.3, each_more _ κ f.0 (λ h. true_false h q) f.4, f.5)

-- and where it is, the test passes
optional_first_lem : (before : List Kind) (κ : Kind) (behind κs : List Kind) → κs ≡ before ++ κ ∷ behind → Each (λ κ. is_choice κ ≡ true → ⊥) before → is_optional κ ≡ true
    → optional_first κs ≡ true
unfolding optional_first Each
optional_first_lem [] κ behind κs e plain opt = rw e (pick_true (is_choice κ) _ _ (optional_chooses κ opt) ∙ opt)
optional_first_lem (κ' ∷ before) κ behind κs e plain opt = rw e (go (is_choice κ') refl (optional_first_lem before κ behind (before ++ κ ∷ behind) refl))
  where
    go : (b : Bool) → is_choice κ' ≡ b → (Each (λ κ. is_choice κ ≡ true → ⊥) before → is_optional κ ≡ true → optional_first (before ++ κ ∷ behind) ≡ true)
        → optional_first (κ' ∷ before ++ κ ∷ behind) ≡ true
    go true q later = absurd (plain κ' (Memᴰ.head refl) q)
    go false q later = pick_false (is_choice κ') _ _ q ∙ later (λ κ'' i. plain κ'' (Memᴰ.tail i)) opt

-- a step that exists leaves a sequence, a choice or a list
step_leaves : (κ : Kind) (p : ℕ) {m : ℕ} → step_from κ p ≡ some m → AnyWithSteps κ
unfolding is_sequence is_choice is_list
step_leaves text p e = no_text_step p e
step_leaves empty p e = no_empty_step p e
step_leaves (sequence ms) p e = inl refl
step_leaves (choice need ms) p e = inr (inl refl)
step_leaves (list m) p e = inr (inr refl)

-- so all steps of a path that can be walked do
walks_leave : {T : Table} {τ : ℕ} {ps : List ℕ} → Walks T τ ps → Each AnyWithSteps (leaves T τ ps)
unfolding leaves
walks_leave arrived = each_none AnyWithSteps
walks_leave {T} (onward {τ = τ} {p = p} {ps = ps} e w) =
    each_more AnyWithSteps (kind_of T τ) (leaves T (next T τ p) ps) (step_leaves (kind_of T τ) p e) (walks_leave w)

-- where steps leave only what has steps, the rule for their kinds decides whether they are the right ones
right_kinds : (κ : Kind) (κs : List Kind) → Each AnyWithSteps κs → Decides (right_steps κ κs) (RightKinds κ κs)
unfolding right_steps RightKinds FirstChoiceOptional
right_kinds text κs any = only_plain κs
right_kinds empty κs any = (λ h. tt, λ h. refl)
right_kinds (sequence ms) κs any =
    let d = both _ _ (only_plain κs) (any_kind κs) in
    (λ h. ((d.0 h).1, (d.0 h).0), λ h. d.1 (h.1, h.0))
right_kinds (choice needed ms) κs any = (λ h. (any, (some_kind is_choice κs).0 h), λ h. (some_kind is_choice κs).1 h.1)
right_kinds (choice optional ms) κs any =
    (λ h. (any, first_optional_lem κs h), λ h. let f = h.1 in optional_first_lem f.0 f.1 f.2 κs f.3 f.4 f.5)
right_kinds (list m) κs any = both _ _ (only_plain κs) (some_kind is_list κs)

-- ---- the steps of one path

-- two rows of steps are the same
same_steps_lem : (ps qs : List ℕ) → Decides (same_steps ps qs) (ps ≡ qs)
unfolding same_steps
same_steps_lem [] [] = (λ h. refl, λ h. refl)
same_steps_lem [] (q ∷ qs) = (λ h. true_false h refl, λ h. let z : ◌≡◌ {A = ℕ} 0 1 = cc in absurd (omega arith))
same_steps_lem (p ∷ ps) [] = (λ h. true_false h refl, λ h. let z : ◌≡◌ {A = ℕ} 0 1 = cc in absurd (omega arith))
same_steps_lem (p ∷ ps) (q ∷ qs) =
    let d = both (eqb p q) (same_steps ps qs) (equal p q) (same_steps_lem ps qs) in
    (λ h. let e = d.0 h in ap₂ (λ (n : ℕ) (l : List ℕ). n ∷ l) e.0 e.1, λ h. d.1 (cc, cc))

-- a path of an optional choice agrees with the first up to its first choice step
path_agrees : (T : Table) (κ : Kind) (τ : ℕ) (first ps : List ℕ)
    → Decides (agrees T κ τ first ps) (is_optional κ ≡ true → before_choice T τ ps ≡ before_choice T τ first)
unfolding agrees
path_agrees T κ τ first ps = go (is_optional κ)
  where
    same : Decides (same_steps (before_choice T τ first) (before_choice T τ ps)) (before_choice T τ first ≡ before_choice T τ ps)
    same = same_steps_lem (before_choice T τ first) (before_choice T τ ps)

    go : (b : Bool)
        → Decides (not b || same_steps (before_choice T τ first) (before_choice T τ ps)) (b ≡ true → before_choice T τ ps ≡ before_choice T τ first)
    go true = (λ h e. sym (same.0 h), λ h. same.1 (sym (h refl)))
    go false = (λ h e. true_false e refl, λ h. refl)

-- the test of check 9
pub steps_right_lem : (T : Table) (κ : Kind) (τ : ℕ) (first ps : List ℕ) → Walks T τ ps
    → Decides (right_steps κ (leaves T τ ps) && agrees T κ τ first ps) (StepsRight T κ τ first ps)
steps_right_lem T κ τ first ps walks =
    let d = both _ _ (right_kinds κ (leaves T τ ps) (walks_leave walks)) (path_agrees T κ τ first ps) in
    (λ h. record { right_kinds = (d.0 h).0; agree = (d.0 h).1 }, λ r. d.1 (r.right_kinds, r.agree))

-- ---- two paths

-- the test of check 10, by what stands behind the shared steps
module _ (T : Table) (τ : ℕ) (ps qs : List ℕ) where
  -- one path ends there
  one_ends : (κ : Kind) (why : Reason) → (Apart ps qs → ⊥) → Decides (not (is_there (where_one_ends κ why))) (NoClash T κ τ ps qs)
  unfolding where_one_ends NoClash is_there
  one_ends text why joined = (λ h. tt, λ h. refl)
  one_ends empty why joined = (λ h. tt, λ h. refl)
  one_ends (sequence ms) why joined = (λ h. true_false h refl, λ a. absurd (joined a))
  one_ends (choice need ms) why joined = (λ h. true_false h refl, λ a. absurd (joined a.0))
  one_ends (list m) why joined = (λ h. tt, λ h. refl)

  -- they part
  they_part : (κ left : Kind) → (parting T τ ps qs).behind ≡ apart left → Decides (not (is_there (where_paths_part κ left))) (NoClash T κ τ ps qs)
  unfolding where_paths_part NoClash is_there pick
  they_part text left e = (λ h. tt, λ h. refl)
  they_part empty left e = (λ h. tt, λ h. refl)
  they_part (sequence ms) left e = (λ h. parted_apart T τ ps qs e, λ a. refl)
  they_part (choice need ms) left e = go (is_choice left) refl
    where
      go : (b : Bool) → is_choice left ≡ b → Decides (not (is_there (pick b none (some part_at_sequence)))) (Apart ps qs × PartAt is_choice T τ ps qs)
      go true q = (λ h. (parted_apart T τ ps qs e, known_paths T τ ps qs e is_choice q), λ h. refl)
      go false q = (
        λ h. true_false h refl,
        λ h.
            let same = apart_kind (sym (part_behind T τ h.1) ∙ e) in
            true_false (rw same at h.1.leaves_such) q,
      )
  they_part (list m) left e = (λ h. tt, λ h. refl)

pub no_clash : (T : Table) (κ : Kind) (τ : ℕ) (ps qs : List ℕ) → Decides (not (clash T κ τ ps qs)) (NoClash T κ τ ps qs)
unfolding clash clash_reason
no_clash T κ τ ps qs = go (parting T τ ps qs).behind refl
  where
    joined : Apart ps qs → (((parting T τ ps qs).behind ≡ both_end → ⊥) × ((parting T τ ps qs).behind ≡ first_ends → ⊥) × ((parting T τ ps qs).behind ≡ second_ends → ⊥))
    joined a = apart_goes_on T τ ps qs a

    go : (b : Behind) → (parting T τ ps qs).behind ≡ b → Decides (not (is_there (clash_reason κ b))) (NoClash T κ τ ps qs)
    go both_end e = one_ends T τ ps qs κ _ (λ a. (joined a).0 e)
    go first_ends e = one_ends T τ ps qs κ _ (λ a. (joined a).1 e)
    go second_ends e = one_ends T τ ps qs κ _ (λ a. (joined a).2 e)
    go (apart left) e = they_part T τ ps qs κ left e
