-- What `place` makes of holes: a shape of elements that paths build, of filler elements that each hold what filler of their
-- type holds, and of the holes.
use Rattle.std.specs.Prelude.{◌≡◌, true, false, ℕ, suc, ◌+◌, ◌<◌}
use Rattle.std.proofs.Math.Path.{refl, ap}
use Rattle.std.proofs.Common.{sym, ap₂, ◌∙◌, subst, suc-add, add-suc, arith}
use Rattle.std.proofs.Math.Option.{Option, none, some}
use mathlib.Core.List.{List, [], ◌∷◌, map, Memᴰ}
use Rattle.std.proofs.Math.Nat.{zero-add}
use Rattle.std.proofs.Math.Numerals.{add-one}
use Rattle.std.proofs.Math.ListN.{length}
use Rattle.model.specs.Definitions.Basics.{entry}
use Rattle.model.specs.Definitions.Table.{Kind, text, empty, sequence, choice, list, Table, kind_of, members_of, step_from}
use Rattle.model.specs.Definitions.Heights.{heights}
use Rattle.model.specs.Definitions.Embedding.{first_path, target_of, paths_of, next, divide, divide_at, Divided}
use Rattle.model.specs.Definitions.EmbeddingChecks.{max_steps}
use Rattle.model.specs.Definitions.Filler.{Builder, known, fill_members, fillers}
use Rattle.model.specs.Definitions.Image.{Setting, Placement, placed, under, is_placed, grow_members, grow_kind, grow, place, Child, element, along_paths, placements}
use Rattle.model.specs.Definitions.Templates.{Hole, characters, child, items, holes_along, choice_hole, holes_of, template_by, divided_of, item_by, Shape, bare, lettered, gap, framed, shaped}
use Rattle.model.proofs.Theorems.Facts.{WellFormed, SoundTable, All, all_none, all_more, MemberPath, Along, along_none, along_both, ValidEdges, text_edge, no_edge, sequence_edges, choice_edges, list_edge, Valid, Fits, nothing_placed, right_here, below_sequence, below_choice, below_list}
use Rattle.model.proofs.Theorems.Tools.{entry_member}
use Rattle.model.proofs.Theorems.FillerLaws.{filled, fill_filled, filled_members, fill_step}
use Rattle.model.proofs.Theorems.Measures.{Hom, on_placement, known_hom, fillers_hom, place_hom}
use Rattle.model.proofs.Theorems.Placing.{under_all, single_fits, placements_fit, member_walks, shared_walks, GoodParts, divide_good}
use Rattle.model.proofs.Theorems.NeverLonger.{rest_always_fits}

-- ---- a shape, and a builder's content of the same parts

-- what a builder makes of a shape, given what stands in its holes
unfoldable pub folded : {A : Type 0} → Builder A → (Hole → A) → Shape → A
folded B held bare = B.none
folded B held (lettered c r) = B.letter c (folded B held r)
folded B held (gap h) = held h
folded B held (framed built t k r) = B.element built t (folded B held k) (folded B held r)

folded_hom : {A : Type 0} (B : Builder A) (held : Hole → A) → Hom shaped B (folded B held)
unfolding shaped folded
folded_hom B held = record { on_none = refl; on_letter = λ c r. refl; on_element = λ built t k r. refl }

-- a map that respects two builders takes filler to filler
pub filler_hom : {A A' : Type 0} (B : Builder A) (B' : Builder A') (h : A → A') → Hom B B' h
    → (T : Table) (t : ℕ) → h (known B (fillers B T) t) ≡ known B' (fillers B' T) t
filler_hom B B' h H T t = known_hom B B' h H (fillers B T) t ∙ ap (λ fs. known B' fs t) (fillers_hom B B' h H T)

pub folded_filler : {A : Type 0} (B : Builder A) (held : Hole → A) (T : Table) (t : ℕ)
    → folded B held (known shaped (fillers shaped T) t) ≡ known B (fillers B T) t
folded_filler B held T t = filler_hom shaped B (folded B held) (folded_hom B held) T t

holes_along-map : {A A' : Type 0} (h : A → A') (σ : ℕ → A) (σ' : ℕ → A') → ((i : ℕ) → h (σ i) ≡ σ' i) → (pss : List (List ℕ))
    → map (on_placement h) (holes_along σ pss) ≡ holes_along σ' pss
unfolding holes_along on_placement
holes_along-map h σ σ' e [] = refl
holes_along-map {A} {A'} h σ σ' e (p ∷ pss) =
    ap₂ (λ (a : A') (qs : List (Placement A')). placed p a ∷ qs) (e 0) (holes_along-map h (λ i. σ (suc i)) (λ i. σ' (suc i)) (λ i. e (suc i)) pss)

-- a map on what stands in the holes
pub holes_of-map : {A A' : Type 0} (h : A → A') (σ : Hole → A) (σ' : Hole → A') → ((i : Hole) → h (σ i) ≡ σ' i)
    → (T : Table) (κ : Kind) (τ : ℕ) (pss : List (List ℕ)) (t : Option ℕ) → map (on_placement h) (holes_of σ T κ τ pss t) ≡ holes_of σ' T κ τ pss t
unfolding holes_of choice_hole on_placement
holes_of-map h σ σ' e T text τ pss t = rw (e characters)
holes_of-map h σ σ' e T empty τ pss t = refl
holes_of-map h σ σ' e T (sequence ms) τ pss t = holes_along-map h (λ i. σ (child i)) (λ i. σ' (child i)) (λ i. e (child i)) pss
holes_of-map h σ σ' e T (choice need ms) τ pss none = rw (e characters)
holes_of-map h σ σ' e T (choice need ms) τ pss (some t) = rw (e (child 0))
holes_of-map h σ σ' e T (list m) τ pss t = rw (e items)

-- a template's shape gives what every builder makes of the same holes
pub folded-template : {A : Type 0} (B : Builder A) (held : Hole → A) (X : Setting) (s : ℕ) (t : Option ℕ)
    → folded B held (template_by shaped gap X s t) ≡ template_by B held X s t
unfolding template_by
folded-template B held X s t =
    let H = folded_hom B held in
    rw (place_hom shaped B (folded B held) H, fillers_hom shaped B (folded B held) H, holes_of-map (folded B held) gap held (λ h. unfold folded in refl))

-- so does an item's
pub folded_item : {A : Type 0} (B : Builder A) (held : Hole → A) (X : Setting) (s : ℕ)
    → folded B held (item_by shaped X s (gap (child 0)) bare) ≡ item_by B X s (held (child 0)) B.none
unfolding item_by on_placement
folded_item B held X s =
    let H = folded_hom B held in
    rw (H.on_element, place_hom shaped B (folded B held) H, fillers_hom shaped B (folded B held) H) (unfold folded in refl)

-- ---- shapes that are built of paths and of settled filler

-- Types exist, filler holds what filler of its type holds, and all holes are of some kind.
pub data Regular (T : Table) (Ok : Hole → Type 0) : Shape → Type 0 where
  regular_none : Regular T Ok bare
  regular_gap : {h : Hole} → Ok h → Regular T Ok (gap h)
  regular_built : {t : ℕ} {k r : Shape} → t < length T → Regular T Ok k → Regular T Ok r → Regular T Ok (framed true t k r)
  regular_filler : {t : ℕ} {k r : Shape} → t < length T → k ≡ known shaped (fillers shaped T) t → Regular T Ok r → Regular T Ok (framed false t k r)

-- the type to which a step leads exists
step_exists : (T : Table) → WellFormed T → (τ p m : ℕ) (κ : Kind) → kind_of T τ ≡ κ → step_from κ p ≡ some m → m < length T
unfolding step_from
step_exists T wf τ p m κ e f = wf.members_exist τ m (rw e (entry_member p (members_of κ) f))

-- the members of filler exist
pub filler_members_exist : (T : Table) → WellFormed T → (t m : ℕ) → Memᴰ m (filled (heights T) (kind_of T t)) → m < length T
filler_members_exist T wf t m here = wf.members_exist t m (filled_members (heights T) (kind_of T t) (wf.choices_choose t) m here)

module _ (T : Table) (sound : SoundTable T) (Ok : Hole → Type 0) where
  abbrev filling : List Shape
  filling = fillers shaped T

  members_regular : (ms : List ℕ) → ((m : ℕ) → Memᴰ m ms → m < length T) → Regular T Ok (fill_members shaped filling ms)
  unfolding fill_members shaped
  members_regular [] exist = regular_none
  members_regular (m ∷ ms) exist = regular_filler (exist m (Memᴰ.head refl)) refl (members_regular ms (λ n here. exist n (Memᴰ.tail here)))

  -- filler
  pub filler_regular : (t : ℕ) → t < length T → Regular T Ok (known shaped filling t)
  filler_regular t exists =
      subst (Regular T Ok) (sym (fill_step T sound shaped t exists ∙ fill_filled shaped (heights T) filling (kind_of T t)))
      (members_regular (filled (heights T) (kind_of T t)) (filler_members_exist T sound.well_formed t))

  -- a member of a sequence: built where something is placed below it, else filler
  member_regular : (m : ℕ) (qs : List (Placement Shape)) (k r : Shape) → m < length T → (qs ≡ [] → k ≡ known shaped filling m)
      → Regular T Ok k → Regular T Ok r → Regular T Ok (framed (is_placed qs) m k r)
  unfolding is_placed
  member_regular m [] k r exists vacant below after = regular_filler exists (vacant refl) after
  member_regular m (q ∷ qs) k r exists vacant below after = regular_built exists below after

  grown_regular : (inside : ℕ → List (Placement Shape) → Shape) (ps : List (Placement Shape)) (p : ℕ) (ms : List ℕ)
      → ((i m : ℕ) → entry (suc i) ms ≡ some m → (m < length T) × (inside m [] ≡ known shaped filling m) × Regular T Ok (inside m (under (i + p) ps)))
      → Regular T Ok (grow_members shaped inside ps p ms)
  unfolding grow_members shaped entry
  grown_regular inside ps p [] each = regular_none
  grown_regular inside ps p (m ∷ ms) each =
      let here : (m < length T) × (inside m [] ≡ known shaped filling m) × Regular T Ok (inside m (under p ps)) = rw zero-add at (each 0 m refl) in
      member_regular m (under p ps) (inside m (under p ps)) _ here.0 (λ e. ap (inside m) e ∙ here.1) here.2
      (grown_regular inside ps (suc p) ms (λ i m' e. rw (add-suc, ← suc-add) (each (suc i) m' e)))

  abbrev PlacedRegular : Placement Shape → Type 0
  PlacedRegular (placed path a) = Regular T Ok a

  below : (p : ℕ) (ps : List (Placement Shape)) → All PlacedRegular ps → All PlacedRegular (under p ps)
  below p ps all = under_all PlacedRegular PlacedRegular p (λ path a h. h) ps all

  -- where something fits, filler is known
  fits_known : {n τ : ℕ} {ps : List (Placement Shape)} → Fits T n τ ps → (m : ℕ) → grow shaped T filling n m [] ≡ known shaped filling m
  unfolding grow
  fits_known nothing_placed m = refl
  fits_known right_here m = refl
  fits_known (below_sequence ms e starts fits) m = refl
  fits_known (below_choice need ms e leads starts fits) m = refl
  fits_known (below_list n e starts fits) m = refl

  -- the member of a choice, the item of a list
  alone_regular : (t : ℕ) {k : Shape} → t < length T → Regular T Ok k → Regular T Ok (shaped.element true t k shaped.none)
  unfolding shaped
  alone_regular t exists inner = regular_built exists inner regular_none

  -- what grows
  grow_regular : {n τ : ℕ} {ps : List (Placement Shape)} → Fits T n τ ps → τ < length T → All PlacedRegular ps → Regular T Ok (grow shaped T filling n τ ps)
  unfolding grow grow_kind
  grow_regular (nothing_placed {τ = τ}) exists all = filler_regular τ exists
  grow_regular right_here exists (all_more h later) = h
  grow_regular (below_sequence {n} {τ} {q} {path} {a} {ps} ms e starts fits) exists all =
      rw e
      (grown_regular (λ m qs. grow shaped T filling n m qs) (placed (q ∷ path) a ∷ ps) 1 ms
      (λ i m at.
      let there : m < length T = (unfold step_from members_of in step_exists T sound.well_formed τ (suc i) m (sequence ms) e at) in
      (there, fits_known (fits (suc i) m at) m, rw add-one (grow_regular (fits (suc i) m at) there (below (suc i) (placed (q ∷ path) a ∷ ps) all)))))
  grow_regular (below_choice {n} {τ} {q} {path} {a} {ps} need ms e leads starts fits) exists all =
      let there : next T τ q < length T = step_exists T sound.well_formed τ q (next T τ q) (choice need ms) e leads in
      rw e (alone_regular (next T τ q) there (grow_regular fits there (below q (placed (q ∷ path) a ∷ ps) all)))
  grow_regular (below_list {n} {τ} {path} {a} {ps} m e starts fits) exists all =
      let there : m < length T = (unfold step_from members_of entry in step_exists T sound.well_formed τ 1 m (list m) e refl) in
      rw e (alone_regular m there (grow_regular fits there (below 1 (placed (1 ∷ path) a ∷ ps) all)))

-- ---- the holes of a template

-- the holes of a source type of a kind whose first child, if there is one, has type t
abbrev pub HoleIn : Kind → Option ℕ → Hole → Type 0
HoleIn text t characters = Unit {0}
HoleIn text t (child i) = ⊥
HoleIn text t items = ⊥
HoleIn empty t h = ⊥
HoleIn (sequence ms) t characters = ⊥
HoleIn (sequence ms) t (child i) = i < length ms
HoleIn (sequence ms) t items = ⊥
HoleIn (choice need ms) none characters = Unit {0}
HoleIn (choice need ms) none (child i) = ⊥
HoleIn (choice need ms) none items = ⊥
HoleIn (choice need ms) (some t) characters = ⊥
HoleIn (choice need ms) (some t) (child i) = i ≡ 0
HoleIn (choice need ms) (some t) items = ⊥
HoleIn (list m) t characters = ⊥
HoleIn (list m) t (child i) = ⊥
HoleIn (list m) t items = Unit {0}

-- the one hole of an item's row
abbrev pub HoleOfItem : Hole → Type 0
HoleOfItem characters = ⊥
HoleOfItem (child i) = i ≡ 0
HoleOfItem items = ⊥

along-length : {A B : Type 0} {R : A → B → Type 0} {xs : List A} {ys : List B} → Along R xs ys → length ys ≡ length xs
along-length along_none = refl
along-length (along_both r al) = ap suc (along-length al)

-- a source sequence has a path for each member
pub member_paths : {X : Setting} {τ : ℕ} {ms : List ℕ} {pss : List (List ℕ)} → ValidEdges X τ (sequence ms) pss → Along (MemberPath X τ (sequence ms)) ms pss
member_paths (sequence_edges al pr) = al

along_regular : (T : Table) (sound : SoundTable T) (Ok : Hole → Type 0) (held : ℕ → Shape) (pss : List (List ℕ)) → ((i : ℕ) → i < length pss → Regular T Ok (held i))
    → All (PlacedRegular T sound Ok) (holes_along held pss)
unfolding holes_along
along_regular T sound Ok held [] each = all_none
along_regular T sound Ok held (p ∷ pss) each = all_more (each 0 (omega arith)) (along_regular T sound Ok (λ i. held (suc i)) pss (λ i less. each (suc i) (omega arith)))

holes_regular : (X : Setting) (sound : SoundTable X.target) (κ : Kind) (τ : ℕ) (pss : List (List ℕ)) (t : Option ℕ) → ValidEdges X τ κ pss
    → All (PlacedRegular X.target sound (HoleIn κ t)) (holes_of gap X.target κ τ pss t)
unfolding holes_of choice_hole
holes_regular X sound text τ pss t edges = all_more (regular_gap tt) all_none
holes_regular X sound empty τ pss t edges = all_none
holes_regular X sound (sequence ms) τ pss t edges =
    along_regular X.target sound (HoleIn (sequence ms) t) (λ i. gap (child i)) pss (λ i less. regular_gap (rw (along-length (member_paths edges)) at less))
holes_regular X sound (choice need ms) τ pss none edges = all_more (regular_gap tt) all_none
holes_regular X sound (choice need ms) τ pss (some t) edges = all_more (regular_gap refl) all_none
holes_regular X sound (list m) τ pss t edges = all_more (regular_gap tt) all_none

-- each hole has a place of its own: children that hold what stands in the holes of a sequence
in_places_lem : {A : Type 0} → (ℕ → A) → List (List ℕ) → List (Child A)
in_places_lem σ [] = []
in_places_lem σ (p ∷ pss) = element 0 (σ 0) ∷ in_places_lem (λ i. σ (suc i)) pss

in_places : {A : Type 0} (σ : ℕ → A) (pss : List (List ℕ)) → along_paths pss (in_places_lem σ pss) ≡ holes_along σ pss
unfolding along_paths holes_along in_places_lem
in_places σ [] = refl
in_places σ (p ∷ pss) = rw (in_places (λ i. σ (suc i)) pss)

-- so what stands in the holes of a template fits
pub holes_fit : {A : Type 0} (B : Builder A) (X : Setting) (τ : ℕ) (t : Option ℕ) {κ : Kind} {pss : List (List ℕ)} (σ : Hole → A)
    → ValidEdges X τ κ pss → Fits X.target (suc max_steps) τ (holes_of σ X.target κ τ pss t)
unfolding holes_of choice_hole first_path
holes_fit B X τ t σ (text_edge g e) = single_fits X.target max_steps _ g.walks g.short
holes_fit B X τ t σ no_edge = nothing_placed
holes_fit B X τ t σ (sequence_edges {ms} {pss} al pr) =
    subst (Fits X.target (suc max_steps) τ) (in_places (λ i. σ (child i)) pss)
    (unfold placements in placements_fit B X [] τ (sequence ms) pss (in_places_lem (λ i. σ (child i)) pss) (sequence_edges al pr))
holes_fit B X τ none σ (choice_edges {need} {ms} al pr sh) =
    let walks = shared_walks X τ (choice need ms) al in
    single_fits X.target max_steps _ walks.0 walks.1
holes_fit B X τ (some t) σ (choice_edges {need} {ms} {pss} al pr sh) =
    let walks = member_walks X τ t (choice need ms) ms pss al in
    single_fits X.target max_steps _ walks.0 walks.1
holes_fit B X τ t σ (list_edge {ps = ps} g) =
    let parts : GoodParts X.target τ max_steps (divide X.target τ ps) = divide_good X.target τ max_steps ps g.good.walks g.good.short in
    single_fits X.target max_steps _ parts.before_walks parts.before_short

-- the item type at which a path is divided exists
item_at_exists : (T : Table) → WellFormed T → (τ p : ℕ) (ps : List ℕ) (d : Divided) (κ : Kind) → kind_of T τ ≡ κ → d.item < length T → (divide_at κ p ps d).item < length T
unfolding divide_at
item_at_exists T wf τ p ps d text e later = later
item_at_exists T wf τ p ps d empty e later = later
item_at_exists T wf τ p ps d (sequence ms) e later = later
item_at_exists T wf τ p ps d (choice need ms) e later = later
item_at_exists T wf τ p ps d (list m) e later = unfold step_from members_of entry in step_exists T wf τ 1 m (list m) e refl

item_exists : (T : Table) → WellFormed T → (τ : ℕ) (ps : List ℕ) → (divide T τ ps).item < length T
unfolding divide
item_exists T wf τ [] = wf.has_root
item_exists T wf τ (p ∷ ps) = item_at_exists T wf τ p ps (divide T (next T τ p) ps) (kind_of T τ) refl (item_exists T wf (next T τ p) ps)

module _ (X : Setting) (valid : Valid X) where
  -- a template's shape
  pub template_regular : (s : ℕ) (t : Option ℕ) → s < length X.source → Regular X.target (HoleIn (kind_of X.source s) t) (template_by shaped gap X s t)
  unfolding template_by place
  template_regular s t exists =
      grow_regular X.target valid.target_sound (HoleIn (kind_of X.source s) t) (holes_fit shaped X _ t gap (valid.edges s exists)) (valid.target_exists s exists)
      (holes_regular X valid.target_sound (kind_of X.source s) _ _ t (valid.edges s exists))

  -- an item's shape
  pub item_regular : (s m : ℕ) → s < length X.source → kind_of X.source s ≡ list m → Regular X.target HoleOfItem (item_by shaped X s (gap (child 0)) bare)
  unfolding item_by place divided_of shaped
  item_regular s m exists e =
      let there = item_exists X.target valid.target_sound.well_formed (target_of X.embedding s) (first_path (paths_of X.embedding s)) in
      regular_built there
      (grow_regular X.target valid.target_sound HoleOfItem (rest_always_fits X valid s m exists e (gap (child 0))) there (all_more (regular_gap refl) all_none))
      regular_none
