-- Along the paths that an image is built by, each list that a step leaves holds exactly one item.
use Rattle.std.specs.Prelude.{◌≡◌, Bool, true, not, ◌||◌, length}
use Rattle.std.proofs.Math.Path.{refl}
use Rattle.std.proofs.Common.{ap, subst}
use mathlib.Core.List.Memᴰ
use mathlib.Core.List.{List, [], ◌∷◌, Memᴰ}
use Prim.Native.Nat.{ℕ, zero, suc, ◌<◌}
use Rattle.model.specs.Definitions.Table.{Kind, Table, kind_of, is_list}
use Rattle.model.specs.Definitions.Content.{Content}
use Rattle.model.specs.Definitions.Conformance.{Holds}
use Rattle.model.specs.Definitions.Embedding.{target_of, paths_of, first_path, next, divide, Divided}
use Rattle.model.specs.Definitions.EmbeddingChecks.{max_steps}
use Rattle.model.specs.Definitions.Filler.{content, fillers}
use Rattle.model.specs.Definitions.Image.{Setting, Placement, placed, under, grow_kind, grow, place, Child, letter, element, along_paths, path_of_member, along_choice, items_of, along_list, placements, image_of_element, children, image_by, image}
use Rattle.model.specs.Definitions.SingleItems.{holds_one, found_passes, single_along, unasked, single_items_of, followed_paths, all_single, single_element, single_children, single_items}
use Rattle.model.proofs.Theorems.Facts.{Along, along_none, along_both, ValidEdges, text_edge, no_edge, sequence_edges, choice_edges, list_edge, Valid, Fits, nothing_placed, right_here, below_sequence, below_choice, below_list}
use Rattle.model.proofs.Theorems.Tools.{and_both}
use Rattle.model.proofs.Theorems.Placing.{single_fits, placements_fit, GoodParts, divide_good}
use Rattle.model.proofs.Theorems.ByElements.{Each, each_end, each_char, each_elem, by_elements}
use Rattle.model.proofs.Theorems.ReadBack.{Entered, enter_placed, found_here, no_fit, not_right_here, under_member}

-- ---- what is placed, and the tests that it passes

-- a test at the end of the same path, and passed by what stands there
abbrev Passes : Placement Content → Placement (Content → Bool) → Type 0
Passes (placed path a) (placed other test) = (path ≡ other) × (test a ≡ true)

-- one placement more, and the test at its place
one_passes : {path other : List ℕ} {a : Content} {test : Content → Bool} {ps : List (Placement Content)} {ts : List (Placement (Content → Bool))}
    → path ≡ other → test a ≡ true → Along Passes ps ts → Along Passes (placed path a ∷ ps) (placed other test ∷ ts)
one_passes {path} {other} {a} {test} same e later = along_both {a = placed path a} {b = placed other test} (same, e) later

-- the children of a source element, each element with a test that what its image holds passes
data ChildrenPass : List (Child Content) → List (Child (Content → Bool)) → Type 0 where
  no_child_left : ChildrenPass [] []
  letter_passes : {c d : ℕ} {ks : List (Child Content)} {ts : List (Child (Content → Bool))}
      → ChildrenPass ks ts → ChildrenPass (letter c ∷ ks) (letter d ∷ ts)
  element_passes : {t u : ℕ} {a : Content} {test : Content → Bool} {ks : List (Child Content)} {ts : List (Child (Content → Bool))}
      → t ≡ u → test a ≡ true → ChildrenPass ks ts → ChildrenPass (element t a ∷ ks) (element u test ∷ ts)

-- ---- one path, and all paths of an element

module _ (T : Table) (fs : List Content) where
  -- a list below which something is placed holds exactly one item
  list_holds_one : {n τ q : ℕ} {path : List ℕ} {a : Content} {ps : List (Placement Content)} → Fits T (suc n) τ ps → Memᴰ (placed (q ∷ path) a) ps
      → (not (is_list (kind_of T τ)) || holds_one (grow content T fs (suc n) τ ps)) ≡ true
  unfolding is_list holds_one grow grow_kind content
  list_holds_one nothing_placed h = absurd (Memᴰ.not-nil h)
  list_holds_one right_here h = not_right_here h
  list_holds_one (below_sequence ms e st sub) h = rw e refl
  list_holds_one (below_choice need ms e w st sub) h = rw e refl
  list_holds_one (below_list m e st sub) h = rw e refl

  -- so the path of a placement leaves lists of exactly one item, and leads to what was placed
  single_placed : (n τ : ℕ) (path : List ℕ) (a : Content) (test : Content → Bool) (ps : List (Placement Content))
      → Fits T n τ ps → Memᴰ (placed path a) ps → test a ≡ true → single_along T τ path test (grow content T fs n τ ps) ≡ true
  unfolding single_along found_passes
  single_placed n τ [] a test ps fits h e = rw (found_here T fs fits h) e
  single_placed zero τ (q ∷ path) a test ps fits h e = no_fit fits
  single_placed (suc n) τ (q ∷ path) a test ps fits h e =
      let entered : Entered T fs n τ ps q = enter_placed T fs fits h in
      and_both (list_holds_one fits h)
      (rw entered.0 (single_placed n (next T τ q) path a test (under q ps) entered.1 (under_member q path a ps h) e))

  -- and so do all paths of some of the placements
  all_placed : (n τ : ℕ) (all ps : List (Placement Content)) (ts : List (Placement (Content → Bool)))
      → Fits T n τ all → ((x : Placement Content) → Memᴰ x ps → Memᴰ x all) → Along Passes ps ts
      → all_single T τ ts (grow content T fs n τ all) ≡ true
  unfolding all_single
  all_placed n τ all [] [] fits within along_none = refl
  all_placed n τ all [] (_ ∷ ts) fits within x7 = elim x7 [ ]
  all_placed n τ all (placed path a ∷ ps) [] fits within x7 = elim x7 [ ]
  all_placed n τ all (placed path a ∷ ps) (placed other test ∷ ts) fits within (along_both passes later) =
      and_both
      (subst (λ (qs : List ℕ). single_along T τ qs test (grow content T fs n τ all) ≡ true) passes.0
      (single_placed n τ path a test all fits (within (placed path a) (Memᴰ.head refl)) passes.1))
      (all_placed n τ all ps ts fits (λ x h. within x (Memᴰ.tail h)) later)

  -- ---- what a source element places passes the tests along its paths

  -- the items of a list
  items_pass : (d : Divided) {τ : ℕ} {ks : List (Child Content)} {ts : List (Child (Content → Bool))} → GoodParts T τ max_steps d → ChildrenPass ks ts
      → single_items_of T d ts (items_of content (place content T fs d.item) d ks) ≡ true
  unfolding single_items_of items_of content place
  items_pass d parts no_child_left = refl
  items_pass d parts (letter_passes later) = items_pass d parts later
  items_pass d parts (element_passes {a = a} {test = test} same e later) =
      and_both
      (single_placed (suc max_steps) d.item d.rest a test (placed d.rest a ∷ [])
      (single_fits T max_steps a parts.rest_walks parts.rest_short) (Memᴰ.head refl) e)
      (items_pass d parts later)

-- the members of a sequence
members_pass : (pss : List (List ℕ)) {ks : List (Child Content)} {ts : List (Child (Content → Bool))} → ChildrenPass ks ts
    → Along Passes (along_paths pss ks) (along_paths pss ts)
unfolding along_paths
members_pass [] pass = along_none
members_pass (p ∷ pss) no_child_left = along_none
members_pass (p ∷ pss) (letter_passes later) = along_none
members_pass (p ∷ pss) (element_passes same e later) = one_passes refl e (members_pass pss later)

-- the member of a choice of either kind, or nothing
choice_passes : (shared ms : List ℕ) (pss : List (List ℕ)) {ks : List (Child Content)} {ts : List (Child (Content → Bool))} → ChildrenPass ks ts
    → Along Passes (along_choice content shared ms pss ks) (along_choice unasked shared ms pss ts)
unfolding along_choice unasked
choice_passes shared ms pss no_child_left = one_passes refl refl along_none
choice_passes shared ms pss (letter_passes later) = one_passes refl refl along_none
choice_passes shared ms pss (element_passes same e later) = one_passes (ap (λ (t : ℕ). path_of_member t ms pss) same) e along_none

-- kind by kind
placements_pass : (X : Setting) (fs : List Content) (τ : ℕ) {κ : Kind} {pss : List (List ℕ)} {ks : List (Child Content)} {ts : List (Child (Content → Bool))}
    → ValidEdges X τ κ pss → ChildrenPass ks ts
    → Along Passes (placements content X.target fs κ τ pss ks) (followed_paths X.target κ τ pss ts)
unfolding placements followed_paths along_list first_path
placements_pass X fs τ (text_edge g e) pass = one_passes refl (unfold unasked in refl) along_none
placements_pass X fs τ no_edge pass = along_none
placements_pass X fs τ (sequence_edges al pr) pass = members_pass _ pass
placements_pass X fs τ (choice_edges al pr sh) pass = choice_passes _ _ _ pass
placements_pass X fs τ (list_edge {ps = ps} g) pass =
    one_passes refl (items_pass X.target fs (divide X.target τ ps) (divide_good X.target τ max_steps ps g.good.walks g.good.short) pass) along_none

-- ---- all elements

module _ (X : Setting) (v : Valid X) where
  abbrev fs : List Content
  fs = fillers content X.target

  -- the test of an element, passed by what its image holds
  abbrev Single : ℕ → Content → Type 0
  Single s k = single_element X s (single_children X k) (image_of_element content X fs s (children content X fs k)) ≡ true

  -- where the elements of some content pass, so do the children that it stands for
  children_pass : {k : Content} → Each Single k → ChildrenPass (children content X fs k) (single_children X k)
  unfolding children single_children
  children_pass each_end = no_child_left
  children_pass (each_char later) = letter_passes (children_pass later)
  children_pass (each_elem single later) = element_passes refl single (children_pass later)

  -- an element passes where those right below it do
  single_step : (s : ℕ) (k : Content) → s < length X.source → Holds X.source (kind_of X.source s) k → Each Single k → Single s k
  unfolding single_element image_of_element place
  single_step s k exists held below =
      let τ = target_of X.embedding s in
      all_placed X.target fs (suc max_steps) τ _ _ _
      (placements_fit content X fs τ (kind_of X.source s) (paths_of X.embedding s) (children content X fs k) (v.edges s exists))
      (λ x h. h)
      (placements_pass X fs τ (v.edges s exists) (children_pass below))

  -- In the image of a conforming document each list that a step of a followed path leaves holds exactly one item.
  pub image_single : (k : Content) → Holds X.source (kind_of X.source 0) k → single_items X k (image X k) ≡ true
  unfolding single_items image image_by
  image_single k held =
      by_elements X.source v.source_sound.well_formed Single single_step 0 k v.source_sound.well_formed.has_root held
