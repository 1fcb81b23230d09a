-- How two paths compare: by one step, by the steps that both begin with, and by what is left of each behind those. These are the
-- inductions (`behind_common`, `shared_common`, `compare`); what else is said of two paths follows from them.
use Rattle.std.specs.Prelude.{◌≡◌, Bool, true, false, ◌⊎◌, length, eqb}
use Rattle.std.proofs.Math.Path.{refl, sym, ap}
use Rattle.std.proofs.Common.{ap₂, ◌∙◌, subst, inl, inr, zero-add, suc-add, arith, length-append, eqb-true, eq-eqb, ne_eqb}
use mathlib.Core.List.{List, [], ◌∷◌, ◌++◌, append-nil}
use Prim.Native.Nat.{ℕ, suc, ◌+◌, ◌<◌}
use Rattle.std.proofs.lemmas.Bool.{eqb-false}
use Rattle.model.specs.Definitions.Table.{Kind, Table, kind_of}
use Rattle.model.specs.Definitions.Embedding.{next, end_of, Behind, both_end, first_ends, second_ends, apart, Parting, one_step_more, parting}
use Rattle.model.specs.Definitions.ValidEmbedding.{BeginningOf, Apart, PartAt}
use Rattle.model.specs.Definitions.Explanation.{ShorterBeginning, SharesSteps}
use Rattle.model.proofs.Theorems.Tools.{pick_true, pick_false}

-- ---- one step

module _ (T : Table) (τ p q : ℕ) (ps qs : List ℕ) where
  -- a step that both take is shared
  pub step_shared : eqb p q ≡ true → parting T τ (p ∷ ps) (q ∷ qs) ≡ one_step_more (parting T (next T τ p) ps qs)
  unfolding parting
  step_shared e = pick_true (eqb p q) _ _ e

  pub behind_shared : eqb p q ≡ true → (parting T τ (p ∷ ps) (q ∷ qs)).behind ≡ (parting T (next T τ p) ps qs).behind
  unfolding one_step_more
  behind_shared e = ap (λ (v : Parting). v.behind) (step_shared e)

  -- they part where their steps differ
  pub step_differs : eqb p q ≡ false → parting T τ (p ∷ ps) (q ∷ qs) ≡ record { shared = 0; behind = apart (kind_of T τ) }
  unfolding parting
  step_differs e = pick_false (eqb p q) _ _ e

  pub behind_differs : eqb p q ≡ false → (parting T τ (p ∷ ps) (q ∷ qs)).behind ≡ apart (kind_of T τ)
  behind_differs e = ap (λ (v : Parting). v.behind) (step_differs e)

-- ---- the steps that both begin with

module _ (T : Table) where
  pub behind_common : (τ : ℕ) (common ps qs : List ℕ) → (parting T τ (common ++ ps) (common ++ qs)).behind ≡ (parting T (end_of T τ common) ps qs).behind
  unfolding end_of
  behind_common τ [] ps qs = refl
  behind_common τ (s ∷ common) ps qs = behind_shared T τ s s _ _ (eq-eqb s s refl) ∙ behind_common (next T τ s) common ps qs

  shared_common : (τ : ℕ) (common ps qs : List ℕ) → (parting T τ (common ++ ps) (common ++ qs)).shared ≡ length common + (parting T (end_of T τ common) ps qs).shared
  unfolding end_of one_step_more
  shared_common τ [] ps qs = sym (zero-add _)
  shared_common τ (s ∷ common) ps qs =
      ap (λ (v : Parting). v.shared) (step_shared T τ s s _ _ (eq-eqb s s refl))
      ∙ ap suc (shared_common (next T τ s) common ps qs) ∙ sym (suc-add (length common) _)

-- ---- what is left

-- what is left of two paths behind the steps that they share, from a type of kind κ, by what stands there
abbrev LeftIs : Kind → List ℕ → List ℕ → Behind → Type 0
LeftIs κ [] [] b = b ≡ both_end
LeftIs κ [] (q ∷ qs) b = b ≡ first_ends
LeftIs κ (p ∷ ps) [] b = b ≡ second_ends
LeftIs κ (p ∷ ps) (q ∷ qs) b = (p ≡ q → ⊥) × (b ≡ apart κ)

record CommonBeginning (T : Table) (τ : ℕ) (ps qs : List ℕ) : Type 0 where
  common : List ℕ
  left_p : List ℕ
  left_q : List ℕ
  number : length common ≡ (parting T τ ps qs).shared
  one : ps ≡ common ++ left_p
  other : qs ≡ common ++ left_q
  left : LeftIs (kind_of T (end_of T τ common)) left_p left_q (parting T τ ps qs).behind

-- every two paths are so
compare : (T : Table) (τ : ℕ) (ps qs : List ℕ) → CommonBeginning T τ ps qs
unfolding parting one_step_more end_of
compare T τ [] [] = record { common = []; left_p = []; left_q = []; number = refl; one = refl; other = refl; left = refl }
compare T τ [] (q ∷ qs) = record { common = []; left_p = []; left_q = q ∷ qs; number = refl; one = refl; other = refl; left = refl }
compare T τ (p ∷ ps) [] = record { common = []; left_p = p ∷ ps; left_q = []; number = refl; one = refl; other = refl; left = refl }
compare T τ (p ∷ ps) (q ∷ qs) = go (eqb p q) refl (compare T (next T τ p) ps qs)
  where
    go : (b : Bool) → eqb p q ≡ b → CommonBeginning T (next T τ p) ps qs → CommonBeginning T τ (p ∷ ps) (q ∷ qs)
    go true e r =
        record {
          common = p ∷ r.common;
          left_p = r.left_p;
          left_q = r.left_q;
          number = ap suc r.number ∙ sym (ap (λ (v : Parting). v.shared) (step_shared T τ p q ps qs e));
          one = ap (λ (l : List ℕ). p ∷ l) r.one;
          other = ap₂ (λ (n : ℕ) (l : List ℕ). n ∷ l) (sym (eqb-true p q e)) r.other;
          left = subst (LeftIs (kind_of T (end_of T (next T τ p) r.common)) r.left_p r.left_q) (sym (behind_shared T τ p q ps qs e)) r.left;
        }
    go false e r =
        record {
          common = [];
          left_p = p ∷ ps;
          left_q = q ∷ qs;
          number = sym (ap (λ (v : Parting). v.shared) (step_differs T τ p q ps qs e));
          one = refl;
          other = refl;
          left = (eqb-false p q e, behind_differs T τ p q ps qs e);
        }

-- ---- what two paths are to each other

-- equal, one a shorter beginning of the other, or parted at a step that leaves a type of this kind
abbrev pub PathsAre : Table → ℕ → List ℕ → List ℕ → Behind → Type 0
PathsAre T τ ps qs both_end = ps ≡ qs
PathsAre T τ ps qs first_ends = ShorterBeginning ps qs
PathsAre T τ ps qs second_ends = ShorterBeginning qs ps
PathsAre T τ ps qs (apart κ) = (test : Kind → Bool) → test κ ≡ true → PartAt test T τ ps qs

-- a path that goes on behind another is longer
shorter : {ps qs : List ℕ} (common : List ℕ) (n : ℕ) (more : List ℕ) → ps ≡ common ++ [] → qs ≡ common ++ n ∷ more → ShorterBeginning ps qs
unfolding ShorterBeginning BeginningOf
shorter common n more one other =
    let here = one ∙ append-nil common in
    ((n ∷ more, other ∙ ap (λ (l : List ℕ). l ++ n ∷ more) (sym here)), omega (arith, ap length here, ap length other, length-append common (n ∷ more)))

-- what stands behind the shared steps says what they are
paths_are : (T : Table) (τ : ℕ) (ps qs : List ℕ) → PathsAre T τ ps qs (parting T τ ps qs).behind
paths_are T τ ps qs = go c.left_p c.left_q c.one c.other c.left
  where
    c : CommonBeginning T τ ps qs
    c = compare T τ ps qs

    go : (l m : List ℕ) → ps ≡ c.common ++ l → qs ≡ c.common ++ m → LeftIs (kind_of T (end_of T τ c.common)) l m (parting T τ ps qs).behind
        → PathsAre T τ ps qs (parting T τ ps qs).behind
    go [] [] one other left = subst (PathsAre T τ ps qs) (sym left) (one ∙ sym other)
    go [] (q ∷ m) one other left = subst (PathsAre T τ ps qs) (sym left) (shorter c.common q m one other)
    go (p ∷ l) [] one other left = subst (PathsAre T τ ps qs) (sym left) (shorter c.common p l other one)
    go (p ∷ l) (q ∷ m) one other left =
        subst (PathsAre T τ ps qs) (sym left.1) (λ test such. record {
          shared = c.common;
          p = p;
          q = q;
          behind_p = l;
          behind_q = m;
          one = one;
          other = other;
          differ_here = left.0;
          leaves_such = such;
        })

-- the same, where it is known what stands there
pub known_paths : (T : Table) (τ : ℕ) (ps qs : List ℕ) {b : Behind} → (parting T τ ps qs).behind ≡ b → PathsAre T τ ps qs b
known_paths T τ ps qs e = subst (PathsAre T τ ps qs) e (paths_are T τ ps qs)

-- ---- and the reverse

module _ (T : Table) (τ : ℕ) where
  -- equal paths end both
  pub equal_ends : (ps qs : List ℕ) → ps ≡ qs → (parting T τ ps qs).behind ≡ both_end
  unfolding parting
  equal_ends ps qs e =
      let whole : ps ++ [] ≡ ps = append-nil ps in
      let same : (parting T τ (ps ++ []) (ps ++ [])).behind ≡ both_end = behind_common T τ ps [] [] in
      rw (← e) (rw whole at same)

  -- a path that goes on is not at its end
  goes_on : (ps rest : List ℕ) → length ps < length (ps ++ rest) → (n : ℕ) × (more : List ℕ) × (rest ≡ n ∷ more)
  goes_on ps [] less = absurd (omega (arith, length-append ps []))
  goes_on ps (n ∷ more) less = (n, more, refl)

  -- of a path and a shorter beginning of it the beginning ends
  pub beginning_ends : (ps qs : List ℕ) → ShorterBeginning ps qs → ((parting T τ ps qs).behind ≡ first_ends) × ((parting T τ qs ps).behind ≡ second_ends)
  unfolding parting ShorterBeginning BeginningOf
  beginning_ends ps qs b =
      let rest = b.0.0 in
      let on = goes_on ps rest (rw b.0.1 at b.1) in
      let longer : qs ≡ ps ++ on.0 ∷ on.1 = b.0.1 ∙ ap (λ (l : List ℕ). ps ++ l) on.2 in
      let whole : ps ++ [] ≡ ps = append-nil ps in
      let one : (parting T τ (ps ++ []) (ps ++ on.0 ∷ on.1)).behind ≡ first_ends = behind_common T τ ps [] (on.0 ∷ on.1) in
      let other : (parting T τ (ps ++ on.0 ∷ on.1) (ps ++ [])).behind ≡ second_ends = behind_common T τ ps (on.0 ∷ on.1) [] in
      rw longer (rw whole at one, rw whole at other)

  -- paths part at the first step where they differ
  pub part_behind : {test : Kind → Bool} {ps qs : List ℕ} (r : PartAt test T τ ps qs) → (parting T τ ps qs).behind ≡ apart (kind_of T (end_of T τ r.shared))
  part_behind r =
      rw (r.one, r.other) (behind_common T τ r.shared (r.p ∷ r.behind_p) (r.q ∷ r.behind_q)
      ∙ behind_differs T (end_of T τ r.shared) r.p r.q r.behind_p r.behind_q (ne_eqb r.p r.q r.differ_here))

-- ---- the number of shared steps

pub shares : (T : Table) (τ : ℕ) (ps qs : List ℕ) → SharesSteps (parting T τ ps qs).shared ps qs
unfolding BeginningOf
shares T τ ps qs =
    record {
      common = c.common;
      number = c.number;
      begins_one = (c.left_p, c.one);
      begins_other = (c.left_q, c.other);
      longest = λ other one two.
          let counted = shared_common T τ other one.0 two.0 in
          let here : (parting T τ ps qs).shared ≡ length other + (parting T (end_of T τ other) one.0 two.0).shared = rw (one.1, two.1) counted in
          omega (arith, here);
    }
  where
    c : CommonBeginning T τ ps qs
    c = compare T τ ps qs

-- ---- paths that are apart

-- they part in one way only
pub apart_kind : {κ κ' : Kind} → apart κ ≡ apart κ' → κ ≡ κ'
apart_kind {κ} {κ'} e = cc

-- what stands behind the shared steps is one thing only
ends_apart {ℓ} : {X : Type ℓ} {κ : Kind} {b : Behind} → (b ≡ both_end) ⊎ (b ≡ first_ends) ⊎ (b ≡ second_ends) → b ≡ apart κ → X
ends_apart {κ = κ} {b} (inl p) q = let z : ◌≡◌ {A = ℕ} 0 1 = cc in absurd (omega arith)
ends_apart {κ = κ} {b} (inr (inl p)) q = let z : ◌≡◌ {A = ℕ} 0 1 = cc in absurd (omega arith)
ends_apart {κ = κ} {b} (inr (inr p)) q = let z : ◌≡◌ {A = ℕ} 0 1 = cc in absurd (omega arith)

-- a path parts from none that it begins, and none that it begins from it
begun_apart : (T : Table) (τ : ℕ) (ps qs : List ℕ) {κ : Kind} → BeginningOf ps qs
    → ((parting T τ ps qs).behind ≡ apart κ → ⊥) × ((parting T τ qs ps).behind ≡ apart κ → ⊥)
unfolding BeginningOf
begun_apart T τ ps qs {κ} b = go b.0 b.1
  where
    go : (rest : List ℕ) → qs ≡ ps ++ rest → ((parting T τ ps qs).behind ≡ apart κ → ⊥) × ((parting T τ qs ps).behind ≡ apart κ → ⊥)
    go [] e =
        let same : qs ≡ ps = e ∙ append-nil ps in
        (ends_apart (inl (equal_ends T τ ps qs (sym same))), ends_apart (inl (equal_ends T τ qs ps same)))
    go (n ∷ more) e =
        let ends = beginning_ends T τ ps qs (shorter ps n more (sym (append-nil ps)) e) in
        (ends_apart (inr (inl ends.0)), ends_apart (inr (inr ends.1)))

-- so two paths that part are apart
pub parted_apart : (T : Table) (τ : ℕ) (ps qs : List ℕ) {κ : Kind} → (parting T τ ps qs).behind ≡ apart κ → Apart ps qs
parted_apart T τ ps qs parts =
    record {
      not_beginning = λ b. (begun_apart T τ ps qs b).0 parts;
      not_continuation = λ b. (begun_apart T τ qs ps b).1 parts;
      differ = λ same. ends_apart (inl (equal_ends T τ ps qs same)) parts;
    }

-- and of two paths that are apart neither is at its end
pub apart_goes_on {ℓ} : {X : Type ℓ} (T : Table) (τ : ℕ) (ps qs : List ℕ) → Apart ps qs
    → ((parting T τ ps qs).behind ≡ both_end → X) × ((parting T τ ps qs).behind ≡ first_ends → X) × ((parting T τ ps qs).behind ≡ second_ends → X)
unfolding ShorterBeginning
apart_goes_on T τ ps qs a = (
  λ e. absurd (a.differ (known_paths T τ ps qs e)),
  λ e. absurd (a.not_beginning (known_paths T τ ps qs e).0),
  λ e. absurd (a.not_continuation (known_paths T τ ps qs e).0),
)
