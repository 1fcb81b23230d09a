-- Images without their filler: two source documents whose images differ in filler alone are one document
-- (`bare_injective`); and a source document has at most the levels and the bytes that paths build.
use Rattle.std.proofs.Math.Path.{◌≡◌, refl, sym, ap, ap₂}
use Rattle.std.proofs.Common.{◌∙◌, subst, inl, inr, add-zero, add-suc, arith, eqb-true, ne_eqb}
use Rattle.std.specs.Prelude.{Bool, ◌⊎◌, length}
use Rattle.std.proofs.Math.Bool.{true, false}
use mathlib.Core.List.{List, [], ◌∷◌, map, Memᴰ}
use Rattle.std.proofs.Math.Option.{some}
use Prim.Native.Nat.{ℕ, zero, suc, ◌+◌, ◌≤◌, ◌<◌, max}
use Rattle.std.proofs.Math.Nat.{suc-add}
use Rattle.std.proofs.Math.Dec.{eqb}
use Rattle.std.proofs.lemmas.Bool.{eqb-false}
use Rattle.model.specs.Definitions.Basics.{entry, pick}
use Rattle.model.specs.Definitions.Commands.{Need, optional}
use Rattle.model.specs.Definitions.Table.{Kind, text, empty, sequence, choice, list, Table, kind_of, members_of, step_from, is_choice}
use Rattle.model.specs.Definitions.Content.{Content, end, char, elem, bytes, levels, elements}
use Rattle.model.specs.Definitions.Conformance.{Holds, no_character, one_character, nothing, no_member, one_member, chosen, left_out, no_item, one_item}
use Rattle.model.specs.Definitions.Embedding.{target_of, first_path, next, leaves, divide, Divided, apart, parting, before_choice}
use Rattle.model.specs.Definitions.EmbeddingChecks.{max_steps, optional_first}
use Rattle.model.specs.Definitions.Filler.{Builder, known, fillers}
use Rattle.model.specs.Definitions.Image.{Setting, Placement, placed, under, is_placed, grow_members, grow_kind, grow, place, Child, letter, element, letters_of, along_paths, along_choice, path_of_member, items_of, along_list, placements, image_of_element, children, image_by}
use Rattle.model.proofs.Theorems.Facts.{WellFormed, Walks, MemberPath, Along, along_none, along_both, Pairs, pairs_more, Compatible, ValidEdges, text_edge, no_edge, sequence_edges, choice_edges, list_edge, Valid, Fits, nothing_placed, right_here, below_sequence, below_choice, below_list}
use Rattle.model.proofs.Theorems.Tools.{true_false, some_none, pick_true, pick_false, one_plus}
use Rattle.model.proofs.Theorems.Measures.{Hom, on_placement, under-map, image_hom, size, size_elem}
use Rattle.model.proofs.Theorems.Partings.{behind_shared, behind_differs, apart_kind}
use Rattle.model.proofs.Theorems.Placing.{list_step, no_text_step, no_empty_step, under_other, item_next, single_fits, placements_fit, GoodParts, divide_good, walks_step, walks_rest, member_walks, path_of_member_lem}
use Rattle.model.proofs.Theorems.ByElements.{Each, each_elem, by_elements}
use Rattle.model.proofs.Theorems.ReadBack.{first_step, under_member, under_one, is_choice_lem, other_member, choice_apart, path_in_lem, all_member, paths_agree, left_optional}
use Rattle.model.proofs.Theorems.NeverLonger.{levels_measure, size_measure, measure_never_more}
use Rattle.model.proofs.Theorems.WithoutFiller.{joined, built_element, without_filler, bare_image, built_of}
use Rattle.model.proofs.Theorems.Kept.{filler_without_filler}

-- ---- the elements that paths build

elements-joined : (k r : Content) → elements (joined k r) ≡ elements k + elements r
unfolding joined elements
elements-joined end r = omega arith
elements-joined (char c k) r = elements-joined k r
elements-joined (elem t j k) r = omega (arith, elements-joined k r)

elements_built : (built : Bool) (t : ℕ) (k r : Content) → elements (built_element built t k r) ≡ pick built 1 0 + elements k + elements r
unfolding built_element elements pick
elements_built true t k r = omega arith
elements_built false t k r = omega (arith, elements-joined k r)

pub built_hom : Hom without_filler built_of elements
unfolding without_filler built_of elements
built_hom = record { on_none = refl; on_letter = λ c r. refl; on_element = elements_built }

-- they are the elements of the image without its filler
pub bare_elements : (X : Setting) (k : Content) → elements (bare_image X k) ≡ image_by built_of X k
unfolding bare_image
bare_elements X k = image_hom without_filler built_of elements built_hom X k

-- ---- what is grown, without its filler

-- one and the other of two contents
abbrev One : Content × Content → Content
One r = r.0

abbrev Other : Content × Content → Content
Other r = r.1

-- what the same elements hold is the same
elem_same : {t u : ℕ} {j k r s : Content} → elem t j r ≡ elem u k s → (t ≡ u) × (j ≡ k) × (r ≡ s)
elem_same e = (cc, cc, cc)

no_elem : {X : Type 0} {t : ℕ} {k r : Content} → end ≡ elem t k r → X
no_elem e = let z : ◌≡◌ {A = ℕ} 0 1 = cc in absurd (omega arith)

module _ (inside : ℕ → List (Placement Content) → Content) (nothing-inside : (m : ℕ) → inside m [] ≡ end) where
  -- a member of a sequence with nothing placed under it leaves nothing
  member_left_out : (p q : ℕ) (path : List ℕ) (a : Content) (m : ℕ) (ms : List ℕ) → eqb p q ≡ false
      → grow_members without_filler inside (placed (q ∷ path) a ∷ []) p (m ∷ ms) ≡ grow_members without_filler inside (placed (q ∷ path) a ∷ []) (suc p) ms
  unfolding grow_members without_filler built_element joined is_placed under
  member_left_out p q path a m ms d = rw (under_other p q path a [] d, nothing-inside m) refl

  -- nor do the members behind the only one that is built
  members_behind : (p q : ℕ) (path : List ℕ) (a : Content) (ms : List ℕ) → q < p → grow_members without_filler inside (placed (q ∷ path) a ∷ []) p ms ≡ end
  unfolding grow_members without_filler
  members_behind p q path a [] h = refl
  members_behind p q path a (m ∷ ms) h = member_left_out p q path a m ms (ne_eqb p q (λ same. omega arith)) ∙ members_behind (suc p) q path a ms (omega arith)

  member_first : (p : ℕ) (path : List ℕ) (a : Content) (ms : List ℕ) (m : ℕ)
      → grow_members without_filler inside (placed (p ∷ path) a ∷ []) p (m ∷ ms) ≡ elem m (inside m (placed path a ∷ [])) end
  unfolding grow_members without_filler built_element is_placed
  member_first p path a ms m = rw (under_one p path a) (ap (elem m (inside m (placed path a ∷ []))) (members_behind (suc p) p path a ms (omega arith)))

  member_built : (p j : ℕ) (path : List ℕ) (a : Content) (ms : List ℕ) (m : ℕ) → entry (suc j) ms ≡ some m
      → grow_members without_filler inside (placed ((p + j) ∷ path) a ∷ []) p ms ≡ elem m (inside m (placed path a ∷ [])) end
  unfolding grow_members without_filler built_element is_placed entry
  member_built p zero path a [] m e = some_none e refl
  member_built p (suc j) path a [] m e = some_none e refl
  member_built p zero path a (n ∷ ms) m e =
      let same : n ≡ m = cc in
      subst (λ (q : ℕ). grow_members without_filler inside (placed (q ∷ path) a ∷ []) p (n ∷ ms) ≡ elem m (inside m (placed path a ∷ [])) end) (sym (add-zero p))
      (rw same (member_first p path a ms m))
  member_built p (suc j) path a (n ∷ ms) m e =
      member_left_out p (p + suc j) path a n ms (ne_eqb p (p + suc j) (λ same. omega arith))
      ∙ rw (add-suc p j, ← suc-add p j) (member_built (suc p) j path a ms m e)

  -- of all members of a sequence the one that a path goes to is left
  only_built : (q : ℕ) (path : List ℕ) (a : Content) (ms : List ℕ) (m : ℕ) → entry q ms ≡ some m
      → grow_members without_filler inside (placed (q ∷ path) a ∷ []) 1 ms ≡ elem m (inside m (placed path a ∷ [])) end
  unfolding entry
  only_built zero path a ms m e = some_none e refl
  only_built (suc j) path a ms m e = rw (← one_plus j) (member_built 1 j path a ms m e)

  module _ {A : Type 0} (f g : A → Content) where
    -- two members that hold something of the same placements are both there or both not
    member-same : (m : ℕ) (qs : List (Placement A)) (r s : Content)
        → built_element (is_placed (map (on_placement f) qs)) m (inside m (map (on_placement f) qs)) r ≡ built_element (is_placed (map (on_placement g) qs)) m (inside m (map (on_placement g) qs)) s
        → (inside m (map (on_placement f) qs) ≡ inside m (map (on_placement g) qs)) × (r ≡ s)
    unfolding built_element is_placed joined
    member-same m [] r s e = (refl, rw (nothing-inside m) at e)
    member-same m (q ∷ qs) r s e = (cc, cc)

    members-same : (rs : List (Placement A)) (p j : ℕ) (ms : List ℕ) (m : ℕ)
        → grow_members without_filler inside (map (on_placement f) rs) p ms ≡ grow_members without_filler inside (map (on_placement g) rs) p ms
        → entry (suc j) ms ≡ some m → inside m (map (on_placement f) (under (p + j) rs)) ≡ inside m (map (on_placement g) (under (p + j) rs))
    unfolding grow_members without_filler entry
    members-same rs p zero [] m e at = some_none at refl
    members-same rs p (suc j) [] m e at = some_none at refl
    members-same rs p zero (n ∷ ms) m e at =
        let same : n ≡ m = cc in
        rw (add-zero p, ← same) (member-same n (under p rs) _ _ (rw (under-map f p rs, under-map g p rs) at e)).0
    members-same rs p (suc j) (n ∷ ms) m e at =
        rw (add-suc p j, ← suc-add p j) (members-same rs (suc p) j ms m (member-same n (under p rs) _ _ (rw (under-map f p rs, under-map g p rs) at e)).1 at)

    -- where the members of a sequence are the same, each is
    each-member-same : (rs : List (Placement A)) (q : ℕ) (ms : List ℕ) (m : ℕ)
        → grow_members without_filler inside (map (on_placement f) rs) 1 ms ≡ grow_members without_filler inside (map (on_placement g) rs) 1 ms
        → entry q ms ≡ some m → inside m (map (on_placement f) (under q rs)) ≡ inside m (map (on_placement g) (under q rs))
    unfolding entry
    each-member-same rs zero ms m e at = some_none at refl
    each-member-same rs (suc j) ms m e at = rw (← one_plus j) (members-same rs 1 j ms m e at)

module _ (T : Table) (fs : List Content) (bare : (t : ℕ) → known without_filler fs t ≡ end) where
  abbrev Grown : ℕ → ℕ → List (Placement Content) → Content
  Grown n τ ps = grow without_filler T fs n τ ps

  grown_nothing : (n τ : ℕ) → Grown n τ [] ≡ end
  unfolding grow without_filler
  grown_nothing zero τ = refl
  grown_nothing (suc n) τ = bare τ

  -- ---- the same paths

  -- two elements that hold what is placed under a step
  element_same : {A : Type 0} (f g : A → Content) (n q t : ℕ) (rs : List (Placement A))
      → elem t (Grown n t (under q (map (on_placement f) rs))) end ≡ elem t (Grown n t (under q (map (on_placement g) rs))) end
      → Grown n t (map (on_placement f) (under q rs)) ≡ Grown n t (map (on_placement g) (under q rs))
  element_same f g n q t rs e = rw (under-map f q rs, under-map g q rs) at (elem_same e).1

  -- Where what is grown along the same paths is the same, so is what is placed at the end of each.
  same_placed : {A : Type 0} (f g : A → Content) {n τ : ℕ} {rs : List (Placement A)} → Fits T n τ rs
      → Grown n τ (map (on_placement f) rs) ≡ Grown n τ (map (on_placement g) rs) → (path : List ℕ) (a : A) → Memᴰ (placed path a) rs → f a ≡ g a
  unfolding grow grow_kind on_placement without_filler built_element step_from members_of
  same_placed f g nothing_placed e path a h = absurd (mathlib.Core.List.Memᴰ.not-nil h)
  same_placed f g (right_here {a = b}) e path a h = go (mathlib.Core.List.Memᴰ.cases_cons h)
    where
      go : (placed path a ≡ placed [] b) ⊎ Memᴰ (placed path a) [] → f a ≡ g a
      go (inl same) = let here : a ≡ b = cc in rw here e
      go (inr there) = absurd (mathlib.Core.List.Memᴰ.not-nil there)
  same_placed {A} f g (below_sequence {n = n} {q = q} {path = first} {a = b} {ps = rs} ms k st sub) e path a h =
      let found = first_step st h in
      let there : Memᴰ (placed (found.0 ∷ found.1) a) (placed (q ∷ first) b ∷ rs) = rw found.2 at h in
      same_placed f g (sub found.0 found.3.0 found.3.1)
      (each-member-same (λ m qs. Grown n m qs) (grown_nothing n) f g (placed (q ∷ first) b ∷ rs) found.0 ms found.3.0 (rw k at e) found.3.1)
      found.1 a (under_member found.0 found.1 a (placed (q ∷ first) b ∷ rs) there)
  same_placed {A} f g (below_choice {n = n} {τ = τ} {q = q} {path = first} {a = b} {ps = rs} need ms k w st sub) e path a h =
      let found = first_step st h in
      let there : Memᴰ (placed (q ∷ found.1) a) (placed (q ∷ first) b ∷ rs) = rw (found.2, found.3) at h in
      same_placed f g sub (element_same f g n q (next T τ q) (placed (q ∷ first) b ∷ rs) (rw k at e))
      found.1 a (under_member q found.1 a (placed (q ∷ first) b ∷ rs) there)
  same_placed {A} f g (below_list {n = n} {path = first} {a = b} {ps = rs} m k st sub) e path a h =
      let found = first_step st h in
      let there : Memᴰ (placed (1 ∷ found.1) a) (placed (1 ∷ first) b ∷ rs) = rw (found.2, found.3) at h in
      same_placed f g sub (element_same f g n 1 m (placed (1 ∷ first) b ∷ rs) (rw k at e))
      found.1 a (under_member 1 found.1 a (placed (1 ∷ first) b ∷ rs) there)

  -- one thing at the end of one path
  same_alone : (n τ : ℕ) (path : List ℕ) (a b : Content) → Walks T τ path → length path ≤ n
      → Grown (suc n) τ (placed path a ∷ []) ≡ Grown (suc n) τ (placed path b ∷ []) → a ≡ b
  unfolding on_placement
  same_alone n τ path a b w h e =
      same_placed One Other (single_fits T n (a, b) w h) e path (a, b) (mathlib.Core.List.Memᴰ.head refl)

  -- ---- different paths of a choice

  grown_at : (n τ p : ℕ) (path : List ℕ) (a : Content) (κ : Kind) → kind_of T τ ≡ κ → step_from κ p ≡ some (next T τ p)
      → grow_kind without_filler (λ m qs. Grown n m qs) (placed (p ∷ path) a ∷ []) p (next T τ p) κ ≡ elem (next T τ p) (Grown n (next T τ p) (placed path a ∷ [])) end
  unfolding grow_kind without_filler built_element step_from members_of
  grown_at n τ p path a text k w = no_text_step p w
  grown_at n τ p path a empty k w = no_empty_step p w
  grown_at n τ p path a (sequence ms) k w = only_built (λ m qs. Grown n m qs) (grown_nothing n) p path a ms (next T τ p) w
  grown_at n τ p path a (choice need ms) k w = rw (under_one p path a) refl
  grown_at n τ p path a (list m) k w =
      let one : p ≡ 1 = list_step m p w in
      let item : next T τ p ≡ m = ap (next T τ) one ∙ item_next T τ m k in
      rw (item, under_one p path a) refl

  grown_here : (n τ : ℕ) (a : Content) → Grown (suc n) τ (placed [] a ∷ []) ≡ a
  unfolding grow
  grown_here n τ a = refl

  -- one path builds one element at each of its steps
  grown_alone : (n τ p : ℕ) (path : List ℕ) (a : Content) → step_from (kind_of T τ) p ≡ some (next T τ p)
      → Grown (suc n) τ (placed (p ∷ path) a ∷ []) ≡ elem (next T τ p) (Grown n (next T τ p) (placed path a ∷ [])) end
  unfolding grow
  grown_alone n τ p path a w = grown_at n τ p path a (kind_of T τ) refl w

  -- what one path builds is not what another builds that parts from it at a choice
  apart_differ : WellFormed T → (n τ : ℕ) (ps qs : List ℕ) (a b : Content) (κ : Kind) → Walks T τ ps → Walks T τ qs → length ps ≤ n
      → (parting T τ qs ps).behind ≡ apart κ → is_choice κ ≡ true → Grown (suc n) τ (placed ps a ∷ []) ≡ Grown (suc n) τ (placed qs b ∷ []) → ⊥
  unfolding parting
  apart_differ wf n τ [] [] a b κ wp wq h e c same = let z : ◌≡◌ {A = ℕ} 0 1 = cc in absurd (omega arith)
  apart_differ wf n τ (p ∷ ps) [] a b κ wp wq h e c same = let z : ◌≡◌ {A = ℕ} 0 1 = cc in absurd (omega arith)
  apart_differ wf n τ [] (q ∷ qs) a b κ wp wq h e c same = let z : ◌≡◌ {A = ℕ} 0 1 = cc in absurd (omega arith)
  apart_differ wf zero τ (p ∷ ps) (q ∷ qs) a b κ wp wq h e c same = absurd (omega arith)
  apart_differ wf (suc n) τ (p ∷ ps) (q ∷ qs) a b κ wp wq h e c same =
      go (eqb q p) refl (λ w. apart_differ wf n (next T τ p) ps qs a b κ (walks_rest wp) w (omega arith))
    where
      built : elem (next T τ p) (Grown (suc n) (next T τ p) (placed ps a ∷ [])) end ≡ elem (next T τ q) (Grown (suc n) (next T τ q) (placed qs b ∷ [])) end
      built = sym (grown_alone (suc n) τ p ps a (walks_step wp)) ∙ same ∙ grown_alone (suc n) τ q qs b (walks_step wq)

      go : (t : Bool) → eqb q p ≡ t
          → (Walks T (next T τ p) qs → (parting T (next T τ p) qs ps).behind ≡ apart κ → is_choice κ ≡ true
          → Grown (suc n) (next T τ p) (placed ps a ∷ []) ≡ Grown (suc n) (next T τ p) (placed qs b ∷ []) → ⊥)
          → ⊥
      go true d rec =
          let one : q ≡ p = eqb-true q p d in
          let parts : (parting T (next T τ p) qs ps).behind ≡ apart κ = ap (λ (i : ℕ). (parting T (next T τ i) qs ps).behind) (sym one) ∙ sym (behind_shared T τ q p qs ps d) ∙ e in
          rec (subst (λ (i : ℕ). Walks T (next T τ i) qs) one (walks_rest wq)) parts c
          ((elem_same built).1 ∙ ap (λ (i : ℕ). Grown (suc n) (next T τ i) (placed qs b ∷ [])) one)
      go false d rec =
          let here : kind_of T τ ≡ κ = apart_kind (sym (behind_differs T τ q p qs ps d) ∙ e) in
          let choosing : is_choice (kind_of T τ) ≡ true = rw here c in
          let ms : List ℕ = members_of (kind_of T τ) in
          let is : (need : Need) × (kind_of T τ ≡ choice need ms) = is_choice_lem (kind_of T τ) choosing in
          eqb-false (next T τ q) (next T τ p) (other_member T fs wf τ p q is.0 ms is.1 (walks_step wp) (walks_step wq) d) (sym (elem_same built).0)

  -- nor is it what the steps before its first choice build
  nothing_differs : (n τ : ℕ) (ps : List ℕ) (a : Content) → Walks T τ ps → length ps ≤ n → optional_first (leaves T τ ps) ≡ true
      → Grown (suc n) τ (placed (before_choice T τ ps) end ∷ []) ≡ Grown (suc n) τ (placed ps a ∷ []) → ⊥
  unfolding optional_first leaves before_choice
  nothing_differs n τ [] a w h e same = true_false refl (sym e)
  nothing_differs zero τ (p ∷ ps) a w h e same = absurd (omega arith)
  nothing_differs (suc n) τ (p ∷ ps) a w h e same = go (is_choice (kind_of T τ)) refl (nothing_differs n (next T τ p) ps a (walks_rest w) (omega arith))
    where
      go : (t : Bool) → is_choice (kind_of T τ) ≡ t
          → (optional_first (leaves T (next T τ p) ps) ≡ true
          → Grown (suc n) (next T τ p) (placed (before_choice T (next T τ p) ps) end ∷ []) ≡ Grown (suc n) (next T τ p) (placed ps a ∷ []) → ⊥)
          → ⊥
      go true t rec =
          let before : before_choice T τ (p ∷ ps) ≡ [] = pick_true (is_choice (kind_of T τ)) [] (p ∷ before_choice T (next T τ p) ps) t in
          no_elem (sym (grown_here (suc n) τ end) ∙ sym (ap (λ (path : List ℕ). Grown (suc (suc n)) τ (placed path end ∷ [])) before) ∙ same ∙ grown_alone (suc n) τ p ps a (walks_step w))
      go false t rec =
          let before : before_choice T τ (p ∷ ps) ≡ p ∷ before_choice T (next T τ p) ps = pick_false (is_choice (kind_of T τ)) [] (p ∷ before_choice T (next T τ p) ps) t in
          let built : elem (next T τ p) (Grown (suc n) (next T τ p) (placed (before_choice T (next T τ p) ps) end ∷ [])) end ≡ elem (next T τ p) (Grown (suc n) (next T τ p) (placed ps a ∷ [])) end =
          sym (grown_alone (suc n) τ p (before_choice T (next T τ p) ps) end (walks_step w)) ∙ sym (ap (λ (path : List ℕ). Grown (suc (suc n)) τ (placed path end ∷ [])) before)
          ∙ same ∙ grown_alone (suc n) τ p ps a (walks_step w) in
          rec (sym (pick_false (is_choice (kind_of T τ)) _ _ t) ∙ e) (elem_same built).1

-- ---- one source element

-- two paths don't clash, in this order or in the other
abbrev EitherOrder : Setting → ℕ → Kind → List ℕ → List ℕ → Type 0
EitherOrder X τ κ ps qs = Compatible X τ κ ps qs ⊎ Compatible X τ κ qs ps

-- the paths of two members of a choice don't clash
members_compatible : (X : Setting) (τ : ℕ) (κ : Kind) (t u : ℕ) {ms : List ℕ} {pss : List (List ℕ)} → Along (MemberPath X τ κ) ms pss → Pairs (Compatible X τ κ) pss
    → Memᴰ t ms → Memᴰ u ms → (t ≡ u → ⊥) → EitherOrder X τ κ (path_of_member t ms pss) (path_of_member u ms pss)
unfolding path_of_member
members_compatible X τ κ t u along_none pr ht hu d = absurd (mathlib.Core.List.Memᴰ.not-nil ht)
members_compatible X τ κ t u (along_both {a = m} {b = ps} {xs = ms} {ys = pss} g al) (pairs_more beside pr) ht hu d =
    go (eqb t m) refl (eqb u m) refl (λ it iu. members_compatible X τ κ t u al pr it iu d)
  where
    in_tail : (v : ℕ) → Memᴰ v (m ∷ ms) → eqb v m ≡ false → Memᴰ v ms
    in_tail v h e = later (mathlib.Core.List.Memᴰ.cases_cons h)
      where
        later : (v ≡ m) ⊎ Memᴰ v ms → Memᴰ v ms
        later (inl same) = absurd (eqb-false v m e same)
        later (inr there) = there

    go : (b : Bool) → eqb t m ≡ b → (c : Bool) → eqb u m ≡ c
        → (Memᴰ t ms → Memᴰ u ms → EitherOrder X τ κ (path_of_member t ms pss) (path_of_member u ms pss))
        → EitherOrder X τ κ (pick (eqb t m) ps (path_of_member t ms pss)) (pick (eqb u m) ps (path_of_member u ms pss))
    go true e true f rec = absurd (d (eqb-true t m e ∙ sym (eqb-true u m f)))
    go true e false f rec =
        rw (pick_true (eqb t m) ps (path_of_member t ms pss) e, pick_false (eqb u m) ps (path_of_member u ms pss) f) (inl (all_member beside (path_in_lem u al (in_tail u hu f))))
    go false e true f rec =
        rw (pick_false (eqb t m) ps (path_of_member t ms pss) e, pick_true (eqb u m) ps (path_of_member u ms pss) f) (inr (all_member beside (path_in_lem t al (in_tail t ht e))))
    go false e false f rec =
        rw (pick_false (eqb t m) ps (path_of_member t ms pss) e, pick_false (eqb u m) ps (path_of_member u ms pss) f) (rec (in_tail t ht e) (in_tail u hu f))

-- the elements among two rows of children, side by side
side_by_side : List (Child Content) → List (Child Content) → List (Child (Content × Content))
side_by_side [] ls = []
side_by_side (letter c ∷ ks) ls = []
side_by_side (element t a ∷ ks) [] = []
side_by_side (element t a ∷ ks) (letter c ∷ ls) = []
side_by_side (element t a ∷ ks) (element u b ∷ ls) = element t (a, b) ∷ side_by_side ks ls

module _ (X : Setting) (fs : List Content) where
  -- what the image of an element holds, without its filler
  abbrev Bare : ℕ → Content → Content
  Bare s k = image_of_element without_filler X fs s (children without_filler X fs k)

  -- what an element of a type holds is told by its image, whatever other content of that type there is
  abbrev Told : ℕ → Content → Type 0
  Told s k = (l : Content) → Holds X.source (kind_of X.source s) l → Bare s k ≡ Bare s l → k ≡ l

  -- the letters among the children of a text are its content
  letters_kept : {k : Content} → Holds X.source text k → letters_of without_filler (children without_filler X fs k) ≡ k
  unfolding letters_of children without_filler
  letters_kept no_character = refl
  letters_kept (one_character {c = c} a h) = ap (char c) (letters_kept h)

  -- what two elements of the same members place, side by side, is what each places
  sides : {R : ℕ → List ℕ → Type 0} {ms : List ℕ} {pss : List (List ℕ)} {k l : Content} → Along R ms pss → Holds X.source (sequence ms) k → Holds X.source (sequence ms) l
      → (map (on_placement One) (along_paths pss (side_by_side (children without_filler X fs k) (children without_filler X fs l))) ≡ along_paths pss (children without_filler X fs k))
      × (map (on_placement Other) (along_paths pss (side_by_side (children without_filler X fs k) (children without_filler X fs l))) ≡ along_paths pss (children without_filler X fs l))
  unfolding along_paths children side_by_side on_placement
  sides along_none no_member no_member = (refl, refl)
  sides (along_both r al) (one_member hk hr) (one_member hl hs) =
      let rest = sides al hr hs in
      (rw rest.0 refl, rw rest.1 refl)

  -- where the members' images are the same, so are the members
  members_told : {R : ℕ → List ℕ → Type 0} {ms : List ℕ} {pss : List (List ℕ)} {k l : Content} → Along R ms pss
      → Holds X.source (sequence ms) k → Holds X.source (sequence ms) l → Each Told k
      → ((path : List ℕ) (r : Content × Content) → Memᴰ (placed path r) (along_paths pss (side_by_side (children without_filler X fs k) (children without_filler X fs l))) → One r ≡ Other r)
      → k ≡ l
  unfolding along_paths children side_by_side
  members_told along_none no_member no_member ea f = refl
  members_told (along_both {b = ps} r al) (one_member {m = m} hk hr) (one_member {k = l} hl hs) (each_elem p ea) f =
      ap₂ (elem m) (p l hl (f ps _ (mathlib.Core.List.Memᴰ.head refl))) (members_told al hr hs ea (λ path a there. f path a (mathlib.Core.List.Memᴰ.tail there)))

  -- where the items' images are the same, so are the items
  items_told : (inside : List (Placement Content) → Content) (d : Divided) (m : ℕ) {k l : Content}
      → ((a b : Content) → inside (placed d.rest a ∷ []) ≡ inside (placed d.rest b ∷ []) → a ≡ b)
      → Holds X.source (list m) k → Holds X.source (list m) l → Each Told k
      → items_of without_filler inside d (children without_filler X fs k) ≡ items_of without_filler inside d (children without_filler X fs l) → k ≡ l
  unfolding items_of children without_filler built_element
  items_told inside d m f no_item no_item ea e = refl
  items_told inside d m f no_item (one_item hl hs) ea e = no_elem e
  items_told inside d m f (one_item hk hr) no_item ea e = no_elem (sym e)
  items_told inside d m f (one_item hk hr) (one_item {k = l} hl hs) (each_elem p ea) e =
      let same = elem_same e in
      ap₂ (elem m) (p l hl (f _ _ same.1)) (items_told inside d m f hr hs ea same.2)

  module _ (wf : WellFormed X.target) (bare : (t : ℕ) → known without_filler fs t ≡ end) where
    -- what is placed alone at the end of a path
    alone-told : (τ : ℕ) (path : List ℕ) (a b : Content) → Walks X.target τ path → length path ≤ max_steps
        → place without_filler X.target fs τ (placed path a ∷ []) ≡ place without_filler X.target fs τ (placed path b ∷ []) → a ≡ b
    unfolding place
    alone-told τ path a b w h e = same_alone X.target fs bare max_steps τ path a b w h e

    sequence-told : (τ : ℕ) {ms : List ℕ} {pss : List (List ℕ)} {k l : Content} → Along (MemberPath X τ (sequence ms)) ms pss → Pairs (Compatible X τ (sequence ms)) pss
        → Holds X.source (sequence ms) k → Holds X.source (sequence ms) l → Each Told k
        → place without_filler X.target fs τ (along_paths pss (children without_filler X fs k)) ≡ place without_filler X.target fs τ (along_paths pss (children without_filler X fs l)) → k ≡ l
    unfolding place placements
    sequence-told τ {ms} {pss} {k} {l} al pr hk hl ea e =
        let both : List (Child (Content × Content)) = side_by_side (children without_filler X fs k) (children without_filler X fs l) in
        let two : Builder (Content × Content) = record { none = (end, end); letter = λ c r. r; element = λ built t j r. r } in
        members_told al hk hl ea
        (same_placed X.target fs bare One Other (placements_fit two X [] τ (sequence ms) pss both (sequence_edges al pr))
        (rw ((sides al hk hl).0, (sides al hk hl).1) e))

    -- nothing in an optional choice is not a member of it
    nothing-told : (τ m : ℕ) (a : Content) {ms : List ℕ} {pss : List (List ℕ)} → Along (MemberPath X τ (choice optional ms)) ms pss
        → Pairs (Compatible X τ (choice optional ms)) pss → Memᴰ m ms
        → place without_filler X.target fs τ (placed (before_choice X.target τ (first_path pss)) end ∷ []) ≡ place without_filler X.target fs τ (placed (path_of_member m ms pss) a ∷ []) → ⊥
    unfolding place
    nothing-told τ m a {ms} {pss} al pr there e =
        let walks = member_walks X τ m (choice optional ms) ms pss al in
        let agrees-with-first : before_choice X.target τ (first_path pss) ≡ before_choice X.target τ (path_of_member m ms pss) = all_member (paths_agree X τ optional ms pr) (path_in_lem m al there) in
        nothing_differs X.target fs bare max_steps τ (path_of_member m ms pss) a walks.0 walks.1 (left_optional ms _ (path_of_member_lem m there al).right) (rw agrees-with-first at e)

    -- two members of a choice are told apart
    member-told : (τ t u : ℕ) (need : Need) (a b : Content) {ms : List ℕ} {pss : List (List ℕ)} → Along (MemberPath X τ (choice need ms)) ms pss
        → Pairs (Compatible X τ (choice need ms)) pss → Memᴰ t ms → Memᴰ u ms → (t ≡ u → ⊥)
        → place without_filler X.target fs τ (placed (path_of_member t ms pss) a ∷ []) ≡ place without_filler X.target fs τ (placed (path_of_member u ms pss) b ∷ []) → ⊥
    unfolding place
    member-told τ t u need a b {ms} {pss} al pr ht hu d e = go (members_compatible X τ (choice need ms) t u al pr ht hu d)
      where
        differ : (v w : ℕ) (j k : Content) → Compatible X τ (choice need ms) (path_of_member w ms pss) (path_of_member v ms pss)
            → grow without_filler X.target fs (suc max_steps) τ (placed (path_of_member v ms pss) j ∷ []) ≡ grow without_filler X.target fs (suc max_steps) τ (placed (path_of_member w ms pss) k ∷ []) → ⊥
        differ v w j k c same =
            let parts = choice_apart X.target τ need ms (path_of_member w ms pss) (path_of_member v ms pss) c in
            let walks = member_walks X τ v (choice need ms) ms pss al in
            apart_differ X.target fs bare wf max_steps τ (path_of_member v ms pss) (path_of_member w ms pss) j k parts.0 walks.0 (member_walks X τ w (choice need ms) ms pss al).0 walks.1 parts.1 parts.2 same

        go : EitherOrder X τ (choice need ms) (path_of_member t ms pss) (path_of_member u ms pss) → ⊥
        go (inl c) = differ u t b a c (sym e)
        go (inr c) = differ t u a b c e

    choice_told : (τ : ℕ) {need : Need} {ms : List ℕ} {pss : List (List ℕ)} {k l : Content} → Along (MemberPath X τ (choice need ms)) ms pss
        → Pairs (Compatible X τ (choice need ms)) pss → Holds X.source (choice need ms) k → Holds X.source (choice need ms) l → Each Told k
        → place without_filler X.target fs τ (along_choice without_filler (before_choice X.target τ (first_path pss)) ms pss (children without_filler X fs k))
        ≡ place without_filler X.target fs τ (along_choice without_filler (before_choice X.target τ (first_path pss)) ms pss (children without_filler X fs l)) → k ≡ l
    unfolding along_choice children without_filler
    choice_told τ al pr left_out left_out ea e = refl
    choice_told τ al pr left_out (chosen {m = u} there hl) ea e = absurd (nothing-told τ u _ al pr there e)
    choice_told τ al pr (chosen {m = t} there hk) left_out ea e = absurd (nothing-told τ t _ al pr there (sym e))
    choice_told τ {need} {ms} {pss} al pr (chosen {m = t} {k = k} here hk) (chosen {m = u} {k = l} there hl) (each_elem p ea) e = go (eqb t u) refl
      where
        go : (b : Bool) → eqb t u ≡ b → elem t k end ≡ elem u l end
        go true d =
            let same : u ≡ t = sym (eqb-true t u d) in
            let walks = member_walks X τ t (choice need ms) ms pss al in
            rw same (ap (λ (j : Content). elem t j end) (p l (rw same at hl) (alone-told τ (path_of_member t ms pss) _ _ walks.0 walks.1 (rw same at e))))
        go false d = absurd (member-told τ t u need _ _ al pr here there (eqb-false t u d) e)

    list_told : (τ m : ℕ) (ps : List ℕ) {k l : Content} → MemberPath X τ (list m) m ps → Holds X.source (list m) k → Holds X.source (list m) l → Each Told k
        → place without_filler X.target fs τ (along_list without_filler X.target fs (divide X.target τ ps) (children without_filler X fs k))
        ≡ place without_filler X.target fs τ (along_list without_filler X.target fs (divide X.target τ ps) (children without_filler X fs l)) → k ≡ l
    unfolding along_list
    list_told τ m ps g hk hl ea e =
        let d : Divided = divide X.target τ ps in
        let parts : GoodParts X.target τ max_steps d = divide_good X.target τ max_steps ps g.good.walks g.good.short in
        items_told (place without_filler X.target fs d.item) d m (λ a b same. alone-told d.item d.rest a b parts.rest_walks parts.rest_short same) hk hl ea
        (alone-told τ d.before _ _ parts.before_walks parts.before_short e)

    -- what a source element of a kind holds is told by its image, if what its elements hold is told by theirs
    kind_told : (τ : ℕ) {κ : Kind} {pss : List (List ℕ)} {k l : Content} → ValidEdges X τ κ pss → Holds X.source κ k → Holds X.source κ l → Each Told k
        → place without_filler X.target fs τ (placements without_filler X.target fs κ τ pss (children without_filler X fs k))
        ≡ place without_filler X.target fs τ (placements without_filler X.target fs κ τ pss (children without_filler X fs l)) → k ≡ l
    unfolding placements first_path
    kind_told τ (text_edge {ps = ps} g t) hk hl ea e = sym (letters_kept hk) ∙ alone-told τ ps _ _ g.walks g.short e ∙ letters_kept hl
    kind_told τ no_edge nothing nothing ea e = refl
    kind_told τ (sequence_edges al pr) hk hl ea e = sequence-told τ al pr hk hl ea e
    kind_told τ (choice_edges al pr sh) hk hl ea e = choice_told τ al pr hk hl ea e
    kind_told τ (list_edge {m = m} {ps = ps} g) hk hl ea e = list_told τ m ps g hk hl ea e

-- Two source documents whose images are the same without their filler are the same.
pub bare_injective : (X : Setting) → Valid X → (k l : Content) → Holds X.source (kind_of X.source 0) k → Holds X.source (kind_of X.source 0) l
    → bare_image X k ≡ bare_image X l → k ≡ l
unfolding bare_image image_by
bare_injective X v k l hk hl e =
    by_elements X.source v.source_sound.well_formed (Told X (fillers without_filler X.target)) step 0 k v.source_sound.well_formed.has_root hk l hl e
  where
    step : (s : ℕ) (j : Content) → s < length X.source → Holds X.source (kind_of X.source s) j → Each (Told X (fillers without_filler X.target)) j
        → Told X (fillers without_filler X.target) s j
    step s j exists hj ea i hi same =
        unfold image_of_element in
        kind_told X (fillers without_filler X.target) v.target_sound.well_formed (filler_without_filler X.target) (target_of X.embedding s) (v.edges s exists) hj hi ea same

-- ---- levels and bytes

-- levels that count no filler
levels_built_lem : Builder ℕ
levels_built_lem = record { none = 0; letter = λ c r. r; element = λ built t k r. max (pick built (suc k) k) r }

-- and bytes
bytes_built : Builder ℕ
bytes_built = record { none = 0; letter = λ c r. 2 + r; element = λ built t k r. pick built 3 0 + k + r }

max_joined : (a b c : ℕ) → max a (max b c) ≡ max (max a b) c
max_joined a b c = omega arith

levels-joined : (k r : Content) → levels (joined k r) ≡ max (levels k) (levels r)
unfolding joined levels
levels-joined end r = omega arith
levels-joined (char c k) r = levels-joined k r
levels-joined (elem t j k) r = ap (max (suc (levels j))) (levels-joined k r) ∙ max_joined _ _ _

size-joined : (k r : Content) → size (joined k r) ≡ size k + size r
unfolding joined bytes
size-joined end r = omega arith
size-joined (char c k) r = omega (arith, size-joined k r)
size-joined (elem t j k) r = omega (arith, size_elem t j (joined k r), size_elem t j k, size-joined k r)

levels_built : (built : Bool) (t : ℕ) (k r : Content) → levels (built_element built t k r) ≡ max (pick built (suc (levels k)) (levels k)) (levels r)
unfolding built_element levels pick
levels_built true t k r = refl
levels_built false t k r = levels-joined k r

size_built : (built : Bool) (t : ℕ) (k r : Content) → size (built_element built t k r) ≡ pick built 3 0 + size k + size r
unfolding built_element pick
size_built true t k r = size_elem t k r
size_built false t k r = omega (arith, size-joined k r)

-- a source document has at most the levels that paths build
pub bare_levels : (X : Setting) → Valid X → (k : Content) → Holds X.source (kind_of X.source 0) k → levels k ≤ levels (bare_image X k)
unfolding bare_image without_filler levels_built_lem levels pick
bare_levels X valid k held =
    rw (image_hom without_filler levels_built_lem levels (record { on_none = refl; on_letter = λ c r. refl; on_element = levels_built }) X k)
    (measure_never_more levels_built_lem levels (levels_measure refl (λ c r. refl) (λ t j r. refl) (λ t j r. omega arith)) X valid k held)

-- and what its root holds has at most the bytes
pub bare_bytes : (X : Setting) → Valid X → (k : Content) → Holds X.source (kind_of X.source 0) k → length (bytes k) ≤ length (bytes (bare_image X k))
unfolding bare_image without_filler bytes_built bytes pick
bare_bytes X valid k held =
    rw (image_hom without_filler bytes_built size (record { on_none = refl; on_letter = λ c r. omega arith; on_element = size_built }) X k)
    (measure_never_more bytes_built size (size_measure refl (λ c r. refl) (λ t j r. refl) (λ t j r. omega arith)) X valid k held)
