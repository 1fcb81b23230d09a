-- Reading an image gives back the source: following the paths in an image finds what was placed there, the path of a
-- choice's member that was not taken is not there, and so every element is read as it was.
use Rattle.std.proofs.Math.Path.{◌≡◌, refl, sym, ap, subst}
use Rattle.std.proofs.Common.{◌∙◌, inl, inr, add-zero, add-suc, suc-add, arith}
use Rattle.std.specs.Prelude.{Bool, ◌⊎◌, length}
use Rattle.std.proofs.Math.Bool.{true, false}
use mathlib.Core.List.Memᴰ
use mathlib.Core.List.{List, [], ◌∷◌, Memᴰ}
use Rattle.std.proofs.Math.Option.{Option, none, some}
use Prim.Native.Nat.{ℕ, zero, suc, ◌+◌, ◌≤◌, ◌<◌}
use Rattle.std.proofs.Math.Dec.{eqb}
use borrow.Author.Tests.{eqb-true, eqb-false, eq-eqb, ne_eqb}
use Rattle.model.specs.Definitions.Basics.{entry, pick, and_then, is_there}
use Rattle.model.specs.Definitions.Commands.{Need, needed, optional}
use Rattle.model.specs.Definitions.Table.{Kind, text, empty, sequence, choice, list, Table, kind_of, members_of, step_from, is_choice}
use Rattle.model.specs.Definitions.Content.{Content, end, char, elem, levels}
use Rattle.model.specs.Definitions.Conformance.{Holds, nothing, no_member, one_member, chosen, left_out, no_item, one_item}
use Rattle.model.specs.Definitions.Embedding.{target_of, first_path, next, leaves, divide, Divided, Behind, both_end, first_ends, second_ends, apart, parting, before_choice}
use Rattle.model.specs.Definitions.EmbeddingChecks.{max_steps, optional_first, right_steps, where_one_ends, where_paths_part, clash_reason, clash}
use Rattle.model.specs.Definitions.Filler.{content}
use Rattle.model.specs.Definitions.Image.{Setting, Placement, placed, under, beyond, grow_members, grow_kind, grow, place, Child, children, image_of_element, placements, along_paths, along_choice, path_of_member, items_of, along_list}
use Rattle.model.specs.Definitions.Inverse.{child_at, child_of_type, first_item, enter, follow}
use Rattle.model.proofs.Theorems.PlainReading.{plain_one, plain_members, plain_if_there, plain_choice, plain_unless_empty, plain_items, plain_list, plain_kind, plain_to}
use Rattle.model.proofs.Theorems.Facts.{WellFormed, Walks, MemberPath, Along, along_none, along_both, All, all_none, all_more, Pairs, pairs_none, pairs_more, Compatible, ValidEdges, text_edge, no_edge, sequence_edges, choice_edges, list_edge, Valid, Starts, starts_none, starts_more, Fits, nothing_placed, right_here, below_sequence, below_choice, below_list}
use Rattle.model.proofs.Theorems.Tools.{true_false, some_none, pick_true, pick_false, one_plus}
use Rattle.model.proofs.Theorems.Partings.{behind_shared, behind_differs, apart_kind}
use Rattle.model.proofs.Theorems.Placing.{entry_next, item_next, under_same, single_fits, placements_fit, GoodParts, divide_good, walks_step, walks_rest, member_walks, path_of_member_lem, shared_walks}
use Rattle.model.proofs.Theorems.ByElements.{Each, each_end, each_char, each_elem, by_elements}
use Rattle.model.proofs.Theorems.ImageConforms.{letters_back}

-- ---- one step into what was grown

-- member number p of a sequence
child_of_members : (inside : ℕ → List (Placement Content) → Content) (ps : List (Placement Content)) (i p : ℕ) (ms : List ℕ) (m : ℕ)
    → entry (suc p) ms ≡ some m → child_at (grow_members content inside ps i ms) (suc p) ≡ some (inside m (under (i + p) ps))
unfolding grow_members content entry child_at
child_of_members inside ps i zero [] m e = some_none e refl
child_of_members inside ps i (suc p) [] m e = some_none e refl
child_of_members inside ps i zero (n ∷ ms) m e = let same : n ≡ m = cc in rw (add-zero i, same)
child_of_members inside ps i (suc p) (n ∷ ms) m e = rw (add-suc i p, ← suc-add i p) (child_of_members inside ps (suc i) p ms m e)

-- a placement's first step, and what is under it
pub first_step : {A : Type 0} {ok : ℕ → Type 0} {ps : List (Placement A)} {path : List ℕ} {a : A} → Starts ok ps → Memᴰ (placed path a) ps
    → (q : ℕ) × (rest : List ℕ) × (path ≡ q ∷ rest) × ok q
first_step starts_none h = absurd (Memᴰ.not-nil h)
first_step {A} {ok} {path = path} {a = a} (starts_more {q = q} {path = other} {a = b} f st) h = go (Memᴰ.cases_cons h) (first_step st)
  where
    go : {ps : List (Placement A)} → (placed path a ≡ placed (q ∷ other) b) ⊎ Memᴰ (placed path a) ps
        → (Memᴰ (placed path a) ps → (q : ℕ) × (rest : List ℕ) × (path ≡ q ∷ rest) × ok q) → (q : ℕ) × (rest : List ℕ) × (path ≡ q ∷ rest) × ok q
    go (inl e) rec = (q, other, (let same : path ≡ q ∷ other = cc in same), f)
    go (inr there) rec = rec there

pub under_member : {A : Type 0} (q : ℕ) (path : List ℕ) (a : A) (ps : List (Placement A)) → Memᴰ (placed (q ∷ path) a) ps → Memᴰ (placed path a) (under q ps)
unfolding under beyond
under_member q path a [] h = absurd (Memᴰ.not-nil h)
under_member {A} q path a (placed [] b ∷ ps) h = go (Memᴰ.cases_cons h) (under_member q path a ps)
  where
    go : (placed (q ∷ path) a ≡ placed [] b) ⊎ Memᴰ (placed (q ∷ path) a) ps
        → (Memᴰ (placed (q ∷ path) a) ps → Memᴰ (placed path a) (under q ps)) → Memᴰ (placed path a) (under q ps)
    go (inl e) rec = let z : ◌≡◌ {A = ℕ} 0 1 = cc in absurd (omega arith)
    go (inr there) rec = rec there
under_member {A} q path a (placed (p ∷ other) b ∷ ps) h = go (eqb q p) refl (Memᴰ.cases_cons h) (under_member q path a ps)
  where
    go : (t : Bool) → eqb q p ≡ t → (placed (q ∷ path) a ≡ placed (p ∷ other) b) ⊎ Memᴰ (placed (q ∷ path) a) ps
        → (Memᴰ (placed (q ∷ path) a) ps → Memᴰ (placed path a) (under q ps)) → Memᴰ (placed path a) (under q (placed (p ∷ other) b ∷ ps))
    go true t (inl e) rec = rw (pick_true (eqb q p) (placed other b ∷ under q ps) (under q ps) t) (let same : placed path a ≡ placed other b = cc in Memᴰ.head same)
    go true t (inr there) rec = rw (pick_true (eqb q p) (placed other b ∷ under q ps) (under q ps) t) (Memᴰ.tail (rec there))
    go false t (inl e) rec = let same : q ≡ p = cc in absurd (eqb-false q p t same)
    go false t (inr there) rec = rw (pick_false (eqb q p) (placed other b ∷ under q ps) (under q ps) t) (rec there)

under_nil : {A : Type 0} (p : ℕ) → under {A = A} p [] ≡ []
unfolding under
under_nil p = refl

pub under_one : {A : Type 0} (p : ℕ) (path : List ℕ) (a : A) → under p (placed (p ∷ path) a ∷ []) ≡ placed path a ∷ []
under_one {A} p path a = under_same p path a [] ∙ ap (λ (ps : List (Placement A)). placed path a ∷ ps) (under_nil p)

child_of_sequence : (inside : ℕ → List (Placement Content) → Content) (ps : List (Placement Content)) (q : ℕ) (ms : List ℕ) (m : ℕ)
    → entry q ms ≡ some m → child_at (grow_members content inside ps 1 ms) q ≡ some (inside m (under q ps))
unfolding entry
child_of_sequence inside ps zero ms m e = some_none e refl
child_of_sequence inside ps (suc p) ms m e = child_of_members inside ps 1 p ms m e ∙ ap (λ (i : ℕ). some (inside m (under i ps))) (one_plus p)

-- the first element is found by its type
child_of_its_type : (t : ℕ) (k r : Content) → child_of_type (elem t k r) t ≡ some k
unfolding child_of_type
child_of_its_type t k r = pick_true (eqb t t) (some k) none (eq-eqb t t refl)

-- a kind that is a choice of either kind
pub is_choice_lem : (κ : Kind) → is_choice κ ≡ true → (need : Need) × (κ ≡ choice need (members_of κ))
unfolding is_choice members_of
is_choice_lem text e = true_false refl (sym e)
is_choice_lem empty e = true_false refl (sym e)
is_choice_lem (sequence ms) e = true_false refl (sym e)
is_choice_lem (choice need ms) e = (need, refl)
is_choice_lem (list m) e = true_false refl (sym e)

no_first_step : {X : Type 0} {q : ℕ} {rest : List ℕ} → [] ≡ q ∷ rest → X
no_first_step e = let z : ◌≡◌ {A = ℕ} 0 1 = cc in absurd (omega arith)

-- what stands right at an element is under no step
pub not_right_here : {A X : Type 0} {q : ℕ} {path : List ℕ} {a b : A} → Memᴰ (placed (q ∷ path) a) (placed [] b ∷ []) → X
not_right_here {A} {X} {q} {path} {a} {b} h = go (Memᴰ.cases_cons h)
  where
    go : (placed (q ∷ path) a ≡ placed [] b) ⊎ Memᴰ (placed (q ∷ path) a) [] → X
    go (inl e) = let z : ◌≡◌ {A = ℕ} 0 1 = cc in absurd (omega arith)
    go (inr there) = absurd (Memᴰ.not-nil there)

-- paths are shorter than what bounds them
pub no_fit : {A X : Type 0} {T : Table} {τ : ℕ} {ps : List (Placement A)} → Fits T zero τ ps → X
no_fit h = elim h [ ]

-- where a first step finds nothing, the path isn't there
follow_none : (T : Table) (τ q : ℕ) (qs : List ℕ) (k : Content) → enter (kind_of T τ) q (next T τ q) k ≡ none → follow T τ (q ∷ qs) k ≡ none
unfolding follow and_then
follow_none T τ q qs k e = rw e refl

-- where it finds something, the path goes on in that
pub follow_some : (T : Table) (τ q : ℕ) (qs : List ℕ) (k j : Content) → enter (kind_of T τ) q (next T τ q) k ≡ some j
    → follow T τ (q ∷ qs) k ≡ follow T (next T τ q) qs j
unfolding follow and_then
follow_some T τ q qs k j e = rw e refl

-- the first item of a list is followed, and an empty list has none
pub first_item_lem : (T : Table) (τ m p : ℕ) (ps : List ℕ) → kind_of T τ ≡ list m
    → ((t : ℕ) (k r : Content) → follow T τ (p ∷ ps) (elem t k r) ≡ follow T (next T τ p) ps k) × (follow T τ (p ∷ ps) end ≡ none)
unfolding enter first_item
first_item_lem T τ m p ps e = (λ t k r. follow_some T τ p ps (elem t k r) k (rw e refl), follow_none T τ p ps end (rw e refl))

module _ (T : Table) (fs : List Content) where
  -- entering by step q, one finds what was grown from what is placed under it, and that fits
  abbrev pub Entered : ℕ → ℕ → List (Placement Content) → ℕ → Type 0
  Entered n τ ps q =
      (enter (kind_of T τ) q (next T τ q) (grow content T fs (suc n) τ ps) ≡ some (grow content T fs n (next T τ q) (under q ps)))
      × Fits T n (next T τ q) (under q ps)

  -- a step into a sequence
  enter_sequence : (n τ q m : ℕ) (path : List ℕ) (a : Content) (ps : List (Placement Content)) (ms : List ℕ) (p : ℕ)
      → kind_of T τ ≡ sequence ms → entry q ms ≡ some m → Fits T n m (under q (placed (p ∷ path) a ∷ ps)) → Entered n τ (placed (p ∷ path) a ∷ ps) q
  unfolding enter grow grow_kind
  enter_sequence n τ q m path a ps ms p e at fits =
      let found : child_at (grow_members content (λ t qs. grow content T fs n t qs) (placed (p ∷ path) a ∷ ps) 1 ms) q ≡ some (grow content T fs n m (under q (placed (p ∷ path) a ∷ ps))) =
      child_of_sequence (λ t qs. grow content T fs n t qs) (placed (p ∷ path) a ∷ ps) q ms m at in
      rw (entry_next T τ q m e at, e) (found, fits)

  -- a step into a choice, to the member that was taken
  enter_choice : (n τ q : ℕ) (path : List ℕ) (a : Content) (ps : List (Placement Content)) (need : Need) (ms : List ℕ)
      → kind_of T τ ≡ choice need ms → Fits T n (next T τ q) (under q (placed (q ∷ path) a ∷ ps)) → Entered n τ (placed (q ∷ path) a ∷ ps) q
  unfolding enter grow grow_kind content
  enter_choice n τ q path a ps need ms e fits = rw e (child_of_its_type (next T τ q) _ end, fits)

  -- a step into a list
  enter_list : (n τ m : ℕ) (path : List ℕ) (a : Content) (ps : List (Placement Content))
      → kind_of T τ ≡ list m → Fits T n m (under 1 (placed (1 ∷ path) a ∷ ps)) → Entered n τ (placed (1 ∷ path) a ∷ ps) 1
  unfolding enter grow grow_kind content first_item
  enter_list n τ m path a ps e fits = rw (item_next T τ m e, e) (refl, fits)

  pub enter_placed : {n τ q : ℕ} {path : List ℕ} {a : Content} {ps : List (Placement Content)} → Fits T (suc n) τ ps → Memᴰ (placed (q ∷ path) a) ps → Entered n τ ps q
  unfolding step_from members_of
  enter_placed nothing_placed h = absurd (Memᴰ.not-nil h)
  enter_placed right_here h = not_right_here h
  enter_placed {n} {τ} {q} {path} {a} (below_sequence {q = p} {path = other} {a = b} {ps = ps} ms e st sub) h =
      let found = first_step st h in
      let same : q ∷ path ≡ found.0 ∷ found.1 = found.2 in
      let q-is : q ≡ found.0 = cc in
      let at : entry q ms ≡ some found.3.0 = subst (λ (i : ℕ). entry i ms ≡ some found.3.0) (sym q-is) found.3.1 in
      enter_sequence n τ q found.3.0 other b ps ms p e at (sub q found.3.0 at)
  enter_placed {n} {τ} {q} {path} {a} (below_choice {q = p} {path = other} {a = b} {ps = ps} need ms e w st sub) h =
      let found = first_step st h in
      let same : q ∷ path ≡ found.0 ∷ found.1 = found.2 in
      let r-is : found.0 ≡ p = found.3 in
      let q-is : p ≡ q = cc in
      subst (λ (i : ℕ). Entered n τ (placed (p ∷ other) b ∷ ps) i) q-is (enter_choice n τ p other b ps need ms e sub)
  enter_placed {n} {τ} {q} {path} {a} (below_list {path = other} {a = b} {ps = ps} m e st sub) h =
      let found = first_step st h in
      let same : q ∷ path ≡ found.0 ∷ found.1 = found.2 in
      let r-is : found.0 ≡ 1 = found.3 in
      let q-is : 1 ≡ q = cc in
      subst (λ (i : ℕ). Entered n τ (placed (1 ∷ other) b ∷ ps) i) q-is (enter_list n τ m other b ps e sub)

  -- ---- along a whole path

  -- what stands right here is the whole
  pub found_here : {n τ : ℕ} {a : Content} {ps : List (Placement Content)} → Fits T n τ ps → Memᴰ (placed [] a) ps → grow content T fs n τ ps ≡ a
  unfolding grow
  found_here nothing_placed h = absurd (Memᴰ.not-nil h)
  found_here {a = a} (right_here {a = b}) h = go (Memᴰ.cases_cons h)
    where
      go : (placed [] a ≡ placed [] b) ⊎ Memᴰ (placed [] a) [] → b ≡ a
      go (inl e) = cc
      go (inr there) = absurd (Memᴰ.not-nil there)
  found_here (below_sequence ms e st sub) h = no_first_step (first_step st h).2
  found_here (below_choice need ms e w st sub) h = no_first_step (first_step st h).2
  found_here (below_list m e st sub) h = no_first_step (first_step st h).2

  -- following the path of a placement finds what was placed
  pub follow_placed : (n τ : ℕ) (path : List ℕ) (a : Content) (ps : List (Placement Content)) → Fits T n τ ps → Memᴰ (placed path a) ps
      → follow T τ path (grow content T fs n τ ps) ≡ some a
  unfolding follow and_then
  follow_placed n τ [] a ps fits h = ap some (found_here fits h)
  follow_placed zero τ (q ∷ path) a ps fits h = no_fit fits
  follow_placed (suc n) τ (q ∷ path) a ps fits h =
      let entered : Entered n τ ps q = enter_placed fits h in
      rw entered.0 (follow_placed n (next T τ q) path a (under q ps) entered.1 (under_member q path a ps h))

  -- ---- the path of a member that was not taken

  -- two steps of a choice lead to different types
  pub other_member : WellFormed T → (τ p q : ℕ) (need : Need) (ms : List ℕ) → kind_of T τ ≡ choice need ms → step_from (kind_of T τ) p ≡ some (next T τ p) → step_from (kind_of T τ) q ≡ some (next T τ q)
      → eqb q p ≡ false → eqb (next T τ q) (next T τ p) ≡ false
  unfolding step_from members_of
  other_member wf τ p q need ms e wp wq d =
      ne_eqb (next T τ q) (next T τ p)
      (λ same.
      let at_p : entry p ms ≡ some (next T τ p) = rw e at wp in
      let at-q : entry q ms ≡ some (next T τ p) = rw same at (rw e at wq) in
      eqb-false q p d (wf.choices_distinct τ need ms e q p (next T τ p) at-q at_p))

  -- what following finds, one step further on
  follow_single : (n τ p : ℕ) (ps qs : List ℕ) (a : Content) → Walks T τ (p ∷ ps) → length (p ∷ ps) ≤ suc n
      → follow T τ (p ∷ qs) (grow content T fs (suc (suc n)) τ (placed (p ∷ ps) a ∷ [])) ≡ follow T (next T τ p) qs (grow content T fs (suc n) (next T τ p) (placed ps a ∷ []))
  unfolding follow and_then
  follow_single n τ p ps qs a w h =
      let entered : Entered (suc n) τ (placed (p ∷ ps) a ∷ []) p = enter_placed (single_fits T (suc n) a w h) (Memᴰ.head refl) in
      let beyond-it : under p (placed (p ∷ ps) a ∷ []) ≡ placed ps a ∷ [] = under_one p ps a in
      rw (entered.0, beyond-it) refl

  -- the child of a choice is not of another member's type
  enter_other : (n τ p q : ℕ) (ps : List ℕ) (a : Content) (need : Need) (ms : List ℕ) → kind_of T τ ≡ choice need ms → eqb (next T τ q) (next T τ p) ≡ false
      → enter (kind_of T τ) q (next T τ q) (grow content T fs (suc n) τ (placed (p ∷ ps) a ∷ [])) ≡ none
  unfolding enter grow grow_kind content child_of_type pick
  enter_other n τ p q ps a need ms e d = rw (e, d) refl

  -- a path that parts at a choice from the only one placed isn't there
  pub not_there : WellFormed T → (n τ : ℕ) (ps qs : List ℕ) (a : Content) (κ : Kind) → Walks T τ ps → Walks T τ qs → length ps ≤ n
      → (parting T τ qs ps).behind ≡ apart κ → is_choice κ ≡ true → follow T τ qs (grow content T fs (suc n) τ (placed ps a ∷ [])) ≡ none
  unfolding parting
  not_there wf n τ [] [] a κ wp wq h e c = let z : ◌≡◌ {A = ℕ} 0 1 = cc in absurd (omega arith)
  not_there wf n τ (p ∷ ps) [] a κ wp wq h e c = let z : ◌≡◌ {A = ℕ} 0 1 = cc in absurd (omega arith)
  not_there wf n τ [] (q ∷ qs) a κ wp wq h e c = let z : ◌≡◌ {A = ℕ} 0 1 = cc in absurd (omega arith)
  not_there wf zero τ (p ∷ ps) (q ∷ qs) a κ wp wq h e c = absurd (omega arith)
  not_there wf (suc n) τ (p ∷ ps) (q ∷ qs) a κ wp wq h e c =
      go (eqb q p) refl (λ w. not_there wf n (next T τ p) ps qs a κ (walks_rest wp) w (omega arith))
    where
      K : Content
      K = grow content T fs (suc (suc n)) τ (placed (p ∷ ps) a ∷ [])

      go : (b : Bool) → eqb q p ≡ b
          → (Walks T (next T τ p) qs → (parting T (next T τ p) qs ps).behind ≡ apart κ → is_choice κ ≡ true
          → follow T (next T τ p) qs (grow content T fs (suc n) (next T τ p) (placed ps a ∷ [])) ≡ none)
          → follow T τ (q ∷ qs) K ≡ none
      go true d rec =
          let same : q ≡ p = eqb-true q p d in
          let parts : (parting T (next T τ q) qs ps).behind ≡ apart κ = sym (behind_shared T τ q p qs ps d) ∙ e in
          subst (λ (i : ℕ). follow T τ (i ∷ qs) K ≡ none) (sym same)
          (follow_single n τ p ps qs a wp h
          ∙ rec (subst (λ (i : ℕ). Walks T (next T τ i) qs) same (walks_rest wq)) (subst (λ (i : ℕ). (parting T (next T τ i) qs ps).behind ≡ apart κ) same parts) c)
      go false d rec =
          let here : kind_of T τ ≡ κ = apart_kind (sym (behind_differs T τ q p qs ps d) ∙ e) in
          let choosing : is_choice (kind_of T τ) ≡ true = rw here c in
          let ms : List ℕ = members_of (kind_of T τ) in
          let is : (need : Need) × (kind_of T τ ≡ choice need ms) = is_choice_lem (kind_of T τ) choosing in
          follow_none T τ q qs K (enter_other (suc n) τ p q ps a is.0 ms is.1 (other_member wf τ p q is.0 ms is.1 (walks_step wp) (walks_step wq) d))

-- ---- the optional choice that paths share

-- a choice that holds nothing has no child
enter_nothing : (κ : Kind) (p τ : ℕ) → is_choice κ ≡ true → enter κ p τ end ≡ none
unfolding enter is_choice child_of_type
enter_nothing text p τ e = refl
enter_nothing empty p τ e = refl
enter_nothing (sequence ms) p τ e = true_false refl (sym e)
enter_nothing (choice need ms) p τ e = refl
enter_nothing (list m) p τ e = true_false refl (sym e)

-- a path of no steps stays where it is
follow_here : (T : Table) (τ : ℕ) (k j : Content) → follow T τ [] k ≡ some j → k ≡ j
unfolding follow
follow_here T τ k j e = cc

-- the first choice left by a path of an optional choice is an optional one
pub left_optional : (ms : List ℕ) (κs : List Kind) → right_steps (choice optional ms) κs ≡ true → optional_first κs ≡ true
unfolding right_steps
left_optional ms κs e = e

-- where a path is there, the first choice on it isn't empty
pub not_empty : (T : Table) (τ : ℕ) (ps : List ℕ) (k a : Content) → optional_first (leaves T τ ps) ≡ true → follow T τ ps k ≡ some a
    → follow T τ (before_choice T τ ps) k ≡ some end → ⊥
unfolding optional_first leaves before_choice
not_empty T τ [] k a e there empty-there = true_false refl (sym e)
not_empty T τ (p ∷ ps) k a e there empty-there = go (is_choice (kind_of T τ)) refl (not_empty T (next T τ p) ps)
  where
    go : (b : Bool) → is_choice (kind_of T τ) ≡ b
        → ((j b : Content) → optional_first (leaves T (next T τ p) ps) ≡ true → follow T (next T τ p) ps j ≡ some b
        → follow T (next T τ p) (before_choice T (next T τ p) ps) j ≡ some end → ⊥)
        → ⊥
    go true q later =
        let here : follow T τ [] k ≡ some end = sym (ap (λ (path : List ℕ). follow T τ path k) (pick_true (is_choice (kind_of T τ)) [] (p ∷ before_choice T (next T τ p) ps) q)) ∙ empty-there in
        let k-is : k ≡ end = follow_here T τ k end here in
        let missing : enter (kind_of T τ) p (next T τ p) k ≡ none = rw k-is (enter_nothing (kind_of T τ) p (next T τ p) q) in
        some_none there (follow_none T τ p ps k missing)
    go false q later = within (enter (kind_of T τ) p (next T τ p) k) refl
      where
        further : follow T τ (p ∷ before_choice T (next T τ p) ps) k ≡ some end
        further = sym (ap (λ (path : List ℕ). follow T τ path k) (pick_false (is_choice (kind_of T τ)) [] (p ∷ before_choice T (next T τ p) ps) q)) ∙ empty-there

        within : (o : Option Content) → enter (kind_of T τ) p (next T τ p) k ≡ o → ⊥
        within none f = some_none there (follow_none T τ p ps k f)
        within (some j) f =
            later j a (sym (pick_false (is_choice (kind_of T τ)) _ _ q) ∙ e)
            (sym (follow_some T τ p ps k j f) ∙ there)
            (sym (follow_some T τ p (before_choice T (next T τ p) ps) k j f) ∙ further)

-- ---- one source element

-- an element read, before what was read after it
read_one : (read : ℕ → Content → Option Content) (m : ℕ) (found rest : Option Content) (a k r : Content)
    → found ≡ some a → read m a ≡ some k → rest ≡ some r → plain_one read m found rest ≡ some (elem m k r)
unfolding plain_one and_then
read_one read m found rest a k r e f g = rw (e, f, g) refl

-- the path of a member is one of the paths
pub path_in_lem : {R : ℕ → List ℕ → Type 0} (t : ℕ) {ms : List ℕ} {pss : List (List ℕ)} → Along R ms pss → Memᴰ t ms → Memᴰ (path_of_member t ms pss) pss
unfolding path_of_member
path_in_lem t along_none h = absurd (Memᴰ.not-nil h)
path_in_lem t (along_both {a = m} {b = ps} {xs = ms} {ys = pss} r al) h = go (eqb t m) refl (path_in_lem t al) (Memᴰ.cases_cons h)
  where
    go : (b : Bool) → eqb t m ≡ b → (Memᴰ t ms → Memᴰ (path_of_member t ms pss) pss) → (t ≡ m) ⊎ Memᴰ t ms
        → Memᴰ (path_of_member t (m ∷ ms) (ps ∷ pss)) (ps ∷ pss)
    go true e rec c = Memᴰ.head (pick_true (eqb t m) ps (path_of_member t ms pss) e)
    go false e rec (inl same) = absurd (eqb-false t m e same)
    go false e rec (inr there) = rw (pick_false (eqb t m) ps (path_of_member t ms pss) e) (Memᴰ.tail (rec there))

-- what holds of all entries holds of each
pub all_member : {A : Type 0} {P : A → Type 0} {x : A} {xs : List A} → All P xs → Memᴰ x xs → P x
all_member all_none h = absurd (Memᴰ.not-nil h)
all_member {P = P} {x = x} (all_more {a = y} {xs = xs} p al) h = go (Memᴰ.cases_cons h) (all_member al)
  where
    go : (x ≡ y) ⊎ Memᴰ x xs → (Memᴰ x xs → P x) → P x
    go (inl e) rec = subst P (sym e) p
    go (inr there) rec = rec there

-- where two paths of a choice part without a clash, a choice is left
leaves_choice : (need : Need) (ms : List ℕ) (left : Kind) → is_there (where_paths_part (choice need ms) left) ≡ false → is_choice left ≡ true
unfolding where_paths_part is_there pick
leaves_choice need ms left e = go (is_choice left) refl
  where
    go : (b : Bool) → is_choice left ≡ b → is_choice left ≡ true
    go true q = q
    go false q = true_false refl (rw q at e)

-- two paths of a choice that don't clash part at a choice
pub choice_apart : (T : Table) (τ : ℕ) (need : Need) (ms ps qs : List ℕ) → clash T (choice need ms) τ ps qs ≡ false → (κ : Kind) × ((parting T τ ps qs).behind ≡ apart κ) × (is_choice κ ≡ true)
unfolding clash clash_reason where_one_ends is_there
choice_apart T τ need ms ps qs e = go (parting T τ ps qs).behind refl
  where
    go : (b : Behind) → (parting T τ ps qs).behind ≡ b → (κ : Kind) × ((parting T τ ps qs).behind ≡ apart κ) × (is_choice κ ≡ true)
    go both_end f = true_false refl (rw f at e)
    go first_ends f = true_false refl (rw f at e)
    go second_ends f = true_false refl (rw f at e)
    go (apart κ) f = (κ, f, leaves_choice need ms κ (rw f at e))

-- so they take the same steps before their first choice step
part_agree : (T : Table) (τ : ℕ) (ps qs : List ℕ) (κ : Kind) → (parting T τ ps qs).behind ≡ apart κ → is_choice κ ≡ true → before_choice T τ ps ≡ before_choice T τ qs
unfolding parting before_choice
part_agree T τ [] [] κ e c = refl
part_agree T τ [] (q ∷ qs) κ e c = let z : ◌≡◌ {A = ℕ} 0 1 = cc in absurd (omega arith)
part_agree T τ (p ∷ ps) [] κ e c = let z : ◌≡◌ {A = ℕ} 0 1 = cc in absurd (omega arith)
part_agree T τ (p ∷ ps) (q ∷ qs) κ e c = go (eqb p q) refl (part_agree T (next T τ p) ps qs κ)
  where
    go : (b : Bool) → eqb p q ≡ b → ((parting T (next T τ p) ps qs).behind ≡ apart κ → is_choice κ ≡ true → before_choice T (next T τ p) ps ≡ before_choice T (next T τ p) qs)
        → pick (is_choice (kind_of T τ)) [] (p ∷ before_choice T (next T τ p) ps) ≡ pick (is_choice (kind_of T τ)) [] (q ∷ before_choice T (next T τ q) qs)
    go true d rec =
        ap (λ (later : List ℕ). pick (is_choice (kind_of T τ)) [] (p ∷ later)) (rec (sym (behind_shared T τ p q ps qs d) ∙ e) c)
        ∙ ap (λ (i : ℕ). pick (is_choice (kind_of T τ)) [] (i ∷ before_choice T (next T τ i) qs)) (eqb-true p q d)
    go false d rec =
        let here : kind_of T τ ≡ κ = apart_kind (sym (behind_differs T τ p q ps qs d) ∙ e) in
        let choosing : is_choice (kind_of T τ) ≡ true = rw here c in
        pick_true (is_choice (kind_of T τ)) [] _ choosing ∙ sym (pick_true (is_choice (kind_of T τ)) [] _ choosing)

-- and all paths of a choice do
pub paths_agree : (X : Setting) (τ : ℕ) (need : Need) (ms : List ℕ) {pss : List (List ℕ)} → Pairs (Compatible X τ (choice need ms)) pss
    → All (λ ps. before_choice X.target τ (first_path pss) ≡ before_choice X.target τ ps) pss
unfolding first_path
paths_agree X τ need ms pairs_none = all_none
paths_agree X τ need ms (pairs_more {a = first} al pr) = all_more refl (each al)
  where
    each : {qss : List (List ℕ)} → All (Compatible X τ (choice need ms) first) qss → All (λ ps. before_choice X.target τ first ≡ before_choice X.target τ ps) qss
    each all_none = all_none
    each (all_more {a = qs} f rest) =
        let apart-at = choice_apart X.target τ need ms first qs f in
        all_more (part_agree X.target τ first qs apart-at.0 apart-at.1 apart-at.2) (each rest)

module _ (X : Setting) (fs : List Content) (read : ℕ → Content → Option Content) where
  -- an element is read from its image as it was
  abbrev Reads : ℕ → Content → Type 0
  Reads t k = read t (image_of_element content X fs t (children content X fs k)) ≡ some k

  members_back : {R : ℕ → List ℕ → Type 0} (at : List ℕ → Option Content) {ms : List ℕ} {pss : List (List ℕ)} {k : Content} → Along R ms pss
      → Holds X.source (sequence ms) k → Each Reads k
      → ((path : List ℕ) (a : Content) → Memᴰ (placed path a) (along_paths pss (children content X fs k)) → at path ≡ some a)
      → plain_members read at ms pss ≡ some k
  unfolding plain_members along_paths children
  members_back at along_none no_member ea f = refl
  members_back at (along_both {b = ps} {xs = ms} {ys = pss} r al) (one_member {m = m} {k = k} {r = rest} hk hr) (each_elem p ea) f =
      read_one read m (at ps) (plain_members read at ms pss) (image_of_element content X fs m (children content X fs k)) k rest
      (f ps _ (Memᴰ.head refl)) p (members_back at al hr ea (λ path a there. f path a (Memᴰ.tail there)))

  items_back : (inside : List (Placement Content) → Content) (d : Divided) (beyond-it : Content → Option Content) (m : ℕ) {k : Content}
      → ((a : Content) → beyond-it (inside (placed d.rest a ∷ [])) ≡ some a) → Holds X.source (list m) k → Each Reads k
      → plain_items read beyond-it m (items_of content inside d (children content X fs k)) ≡ some k
  unfolding plain_items items_of children content
  items_back inside d beyond-it m f no_item ea = refl
  items_back inside d beyond-it m f (one_item {k = k} {r = rest} hk hr) (each_elem p ea) =
      read_one read m (beyond-it (inside (placed d.rest (image_of_element content X fs m (children content X fs k)) ∷ []))) _ (image_of_element content X fs m (children content X fs k)) k rest
      (f _) p (items_back inside d beyond-it m f hr ea)

  -- the member that was taken is read, since no path before its own is there
  choice_back : (τ t : ℕ) (κ : Kind) (at : List ℕ → Option Content) (a k : Content) {ms : List ℕ} {pss : List (List ℕ)} → read t a ≡ some k
      → Along (MemberPath X τ κ) ms pss → Pairs (Compatible X τ κ) pss → Memᴰ t ms → at (path_of_member t ms pss) ≡ some a
      → ((qs : List ℕ) → Walks X.target τ qs → Compatible X τ κ qs (path_of_member t ms pss) → at qs ≡ none)
      → plain_choice read at ms pss ≡ some (elem t k end)
  unfolding plain_choice path_of_member plain_if_there
  choice_back τ t κ at a k e along_none pr h found absent = absurd (Memᴰ.not-nil h)
  choice_back τ t κ at a k e (along_both {a = m} {b = ps} {xs = ms} {ys = pss} g al) (pairs_more apart_from pr) h found absent =
      go (eqb t m) refl (choice_back τ t κ at a k e al pr) (Memᴰ.cases_cons h)
    where
      go : (b : Bool) → eqb t m ≡ b
          → (Memᴰ t ms → at (path_of_member t ms pss) ≡ some a → ((qs : List ℕ) → Walks X.target τ qs → Compatible X τ κ qs (path_of_member t ms pss) → at qs ≡ none)
          → plain_choice read at ms pss ≡ some (elem t k end))
          → (t ≡ m) ⊎ Memᴰ t ms → plain_choice read at (m ∷ ms) (ps ∷ pss) ≡ some (elem t k end)
      go true d rec c =
          let same : m ≡ t = sym (eqb-true t m d) in
          let here : at ps ≡ some a = sym (ap at (pick_true (eqb t m) ps (path_of_member t ms pss) d)) ∙ found in
          rw (here, same) (read_one read t (some a) (some end) a k end refl e refl)
      go false d rec (inl same) = absurd (eqb-false t m d same)
      go false d rec (inr there) =
          let later : path_of_member t (m ∷ ms) (ps ∷ pss) ≡ path_of_member t ms pss = pick_false (eqb t m) ps (path_of_member t ms pss) d in
          let compatible : Compatible X τ κ ps (path_of_member t ms pss) = all_member apart_from (path_in_lem t al there) in
          let none_here : at ps ≡ none = absent ps g.good.walks (rw later compatible) in
          rw none_here (rec there (rw later at found) (λ qs w f. absent qs w (rw later f)))

-- ---- all elements

module _ (X : Setting) (wf : WellFormed X.target) (fs : List Content) (read : ℕ → Content → Option Content) where
  -- what is placed below an element's image is found there
  placed_found : (τ : ℕ) {κ : Kind} {pss : List (List ℕ)} (ks : List (Child Content)) → ValidEdges X τ κ pss
      → (path : List ℕ) (a : Content) → Memᴰ (placed path a) (placements content X.target fs κ τ pss ks)
      → follow X.target τ path (place content X.target fs τ (placements content X.target fs κ τ pss ks)) ≡ some a
  unfolding place
  placed_found τ {κ} {pss} ks edges path a h =
      follow_placed X.target fs (suc max_steps) τ path a (placements content X.target fs κ τ pss ks) (placements_fit content X fs τ κ pss ks edges) h

  -- what is placed alone at the end of a path is found there
  one_found : (τ : ℕ) (path : List ℕ) (a : Content) → Walks X.target τ path → length path ≤ max_steps
      → follow X.target τ path (place content X.target fs τ (placed path a ∷ [])) ≡ some a
  unfolding place
  one_found τ path a w h = follow_placed X.target fs (suc max_steps) τ path a (placed path a ∷ []) (single_fits X.target max_steps a w h) (Memᴰ.head refl)

  text_back : (τ : ℕ) (ps : List ℕ) {k : Content} → ValidEdges X τ text (ps ∷ []) → Holds X.source text k
      → plain_kind read X.target text τ (ps ∷ []) (place content X.target fs τ (placements content X.target fs text τ (ps ∷ []) (children content X fs k))) ≡ some k
  unfolding plain_kind placements first_path
  text_back τ ps {k} edges h = placed_found τ (children content X fs k) edges ps _ (Memᴰ.head refl) ∙ ap some (letters_back X fs h)

  sequence_back : (τ : ℕ) {ms : List ℕ} {pss : List (List ℕ)} {k : Content} → Along (MemberPath X τ (sequence ms)) ms pss → Pairs (Compatible X τ (sequence ms)) pss
      → Holds X.source (sequence ms) k → Each (Reads X fs read) k
      → plain_kind read X.target (sequence ms) τ pss (place content X.target fs τ (placements content X.target fs (sequence ms) τ pss (children content X fs k))) ≡ some k
  unfolding plain_kind placements
  sequence_back τ {ms} {pss} {k} al pr h ea = members_back X fs read _ al h ea (λ path a there. placed_found τ (children content X fs k) (sequence_edges al pr) path a there)

  -- where the shared optional choice is empty, nothing is read
  reads_nothing : (τ : ℕ) (ms : List ℕ) (pss : List (List ℕ)) (K : Content) → follow X.target τ (before_choice X.target τ (first_path pss)) K ≡ some end
      → plain_kind read X.target (choice optional ms) τ pss K ≡ some end
  unfolding plain_kind plain_unless_empty
  reads_nothing τ ms pss K e = rw e refl

  -- a choice is read by its members, an optional one where the optional choice that its paths share isn't empty
  by_members : (need : Need) (τ : ℕ) (ms : List ℕ) (pss : List (List ℕ)) (K j : Content)
      → (need ≡ optional → follow X.target τ (before_choice X.target τ (first_path pss)) K ≡ some end → ⊥)
      → plain_choice read (λ p. follow X.target τ p K) ms pss ≡ some j → plain_kind read X.target (choice need ms) τ pss K ≡ some j
  unfolding plain_kind
  by_members needed τ ms pss K j full e = e
  by_members optional τ ms pss K j full e = go (follow X.target τ (before_choice X.target τ (first_path pss)) K) refl
    where
      go : (o : Option Content) → follow X.target τ (before_choice X.target τ (first_path pss)) K ≡ o
          → plain_unless_empty o (plain_choice read (λ p. follow X.target τ p K) ms pss) ≡ some j
      go none f = unfold plain_unless_empty in e
      go (some end) f = absurd (full refl f)
      go (some (char c r)) f = unfold plain_unless_empty in e
      go (some (elem t k r)) f = unfold plain_unless_empty in e

  -- a choice of either kind is read back from the image of what it holds
  choice_read : (τ : ℕ) (need : Need) {ms : List ℕ} {pss : List (List ℕ)} {k : Content} → Along (MemberPath X τ (choice need ms)) ms pss
      → Pairs (Compatible X τ (choice need ms)) pss → Holds X.source (choice need ms) k → Each (Reads X fs read) k
      → plain_kind read X.target (choice need ms) τ pss (place content X.target fs τ (placements content X.target fs (choice need ms) τ pss (children content X fs k))) ≡ some k
  unfolding placements along_choice children content
  choice_read τ need {ms} {pss} al pr left_out ea =
      let walks = shared_walks X τ (choice need ms) al in
      reads_nothing τ ms pss _ (one_found τ (before_choice X.target τ (first_path pss)) end walks.0 walks.1)
  choice_read τ need {ms} {pss} al pr (chosen {m = m} {k = k} there hk) (each_elem p ea) =
      by_members need τ ms pss _ (elem m k end)
      (λ same empty-there. not_empty X.target τ path _ image (optional-left same) found (rw agrees-with-first at empty-there))
      (choice_back X fs read τ m (choice need ms) _ image k p al pr there found
      (λ qs w f.
      let apart-at : (κ : Kind) × ((parting X.target τ qs path).behind ≡ apart κ) × (is_choice κ ≡ true) = choice_apart X.target τ need ms qs path f in
      absent qs apart-at.0 w apart-at.1 apart-at.2))
    where
      image : Content
      image = image_of_element content X fs m (children content X fs k)

      path : List ℕ
      path = path_of_member m ms pss

      walks : Walks X.target τ path × (length path ≤ max_steps)
      walks = member_walks X τ m (choice need ms) ms pss al

      found : follow X.target τ path (place content X.target fs τ (placed path image ∷ [])) ≡ some image
      found = one_found τ path image walks.0 walks.1

      absent : (qs : List ℕ) (κ : Kind) → Walks X.target τ qs → (parting X.target τ qs path).behind ≡ apart κ → is_choice κ ≡ true
          → follow X.target τ qs (place content X.target fs τ (placed path image ∷ [])) ≡ none
      absent qs κ w parts choosing = unfold place in not_there X.target fs wf max_steps τ path qs image κ walks.0 w walks.1 parts choosing

      agrees-with-first : before_choice X.target τ (first_path pss) ≡ before_choice X.target τ path
      agrees-with-first = all_member (paths_agree X τ need ms pr) (path_in_lem m al there)

      optional-left : need ≡ optional → optional_first (leaves X.target τ path) ≡ true
      optional-left same =
          left_optional ms (leaves X.target τ path) (subst (λ (d : Need). right_steps (choice d ms) (leaves X.target τ path) ≡ true) same (path_of_member_lem m there al).right)

  list_read : (τ m : ℕ) (ps : List ℕ) {k : Content} → MemberPath X τ (list m) m ps → Holds X.source (list m) k → Each (Reads X fs read) k
      → plain_kind read X.target (list m) τ (ps ∷ []) (place content X.target fs τ (placements content X.target fs (list m) τ (ps ∷ []) (children content X fs k))) ≡ some k
  unfolding plain_kind plain_list placements first_path along_list and_then
  list_read τ m ps {k} g h ea =
      let d : Divided = divide X.target τ ps in
      let parts : GoodParts X.target τ max_steps d = divide_good X.target τ max_steps ps g.good.walks g.good.short in
      rw (placed_found τ (children content X fs k) (list_edge g) d.before _ (Memᴰ.head refl))
      (items_back X fs read (place content X.target fs d.item) d (follow X.target d.item d.rest) m
      (λ a. one_found d.item d.rest a parts.rest_walks parts.rest_short) h ea)

  -- what a source element of a kind holds is read back, if what its elements hold is
  kind_back : (τ : ℕ) {κ : Kind} {pss : List (List ℕ)} {k : Content} → ValidEdges X τ κ pss → Holds X.source κ k → Each (Reads X fs read) k
      → plain_kind read X.target κ τ pss (place content X.target fs τ (placements content X.target fs κ τ pss (children content X fs k))) ≡ some k
  unfolding plain_kind
  kind_back τ (text_edge {ps = ps} g e) h ea = text_back τ ps (text_edge g e) h
  kind_back τ no_edge nothing ea = refl
  kind_back τ (sequence_edges al pr) h ea = sequence_back τ al pr h ea
  kind_back τ (choice_edges {need = need} al pr sh) h ea = choice_read τ need al pr h ea
  kind_back τ (list_edge {m = m} {ps = ps} g) h ea = list_read τ m ps g h ea

-- what the elements of content hold is read with a bound that the content's levels don't reach
each_read : (X : Setting) (fs : List Content) (n : ℕ) {k : Content}
    → Each (λ (t : ℕ) (j : Content). (b : ℕ) → levels j < b → plain_to X b t (image_of_element content X fs t (children content X fs j)) ≡ some j) k
    → levels k < suc n → Each (Reads X fs (λ t j. plain_to X n t j)) k
unfolding levels
each_read X fs n each_end h = each_end
each_read X fs n (each_char ea) h = each_char (each_read X fs n ea h)
each_read X fs n (each_elem p ea) h = each_elem (p n (omega arith)) (each_read X fs n ea (omega arith))

-- Reading the image of an element of a conforming source document gives back what the element holds.
pub read_back_lem : (X : Setting) → Valid X → (fs : List Content) (s : ℕ) (k : Content) → s < length X.source → Holds X.source (kind_of X.source s) k
    → (n : ℕ) → levels k < n → plain_to X n s (image_of_element content X fs s (children content X fs k)) ≡ some k
read_back_lem X v fs =
    by_elements X.source v.source_sound.well_formed
    (λ s k. (n : ℕ) → levels k < n → plain_to X n s (image_of_element content X fs s (children content X fs k)) ≡ some k) step
  where
    step : (s : ℕ) (k : Content) → s < length X.source → Holds X.source (kind_of X.source s) k
        → Each (λ (t : ℕ) (j : Content). (b : ℕ) → levels j < b → plain_to X b t (image_of_element content X fs t (children content X fs j)) ≡ some j) k
        → (n : ℕ) → levels k < n → plain_to X n s (image_of_element content X fs s (children content X fs k)) ≡ some k
    step s k exists holds ea zero h = absurd (omega arith)
    step s k exists holds ea (suc n) h =
        unfold plain_to image_of_element in
        kind_back X v.target_sound.well_formed fs (λ t j. plain_to X n t j) (target_of X.embedding s) (v.edges s exists) holds (each_read X fs n ea h)
