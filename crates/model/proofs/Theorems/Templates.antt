-- The image of a source document is written from templates; what filler is written from; which symbols rows have.
use Rattle.std.specs.Prelude.{◌≡◌, true, false, ℕ, zero, suc, ◌<◌, length}
use Rattle.std.proofs.Math.Path.{refl, sym, ap}
use Rattle.std.proofs.Common.{ap₂, ◌∙◌}
use Rattle.std.proofs.Math.Option.{Option, none, some}
use mathlib.Core.List.{List, [], ◌∷◌, ◌++◌, map, append_assoc, append-nil, Memᴰ}
use Rattle.model.specs.Definitions.Commands.{Need}
use Rattle.model.specs.Definitions.Table.{Kind, text, empty, sequence, choice, list, Table, kind_of}
use Rattle.model.specs.Definitions.Heights.{heights, height_of}
use Rattle.model.specs.Definitions.Content.{Content, end, char, elem, bytes}
use Rattle.model.specs.Definitions.Conformance.{Holds, no_character, one_character, no_member, one_member, chosen, left_out}
use Rattle.model.specs.Definitions.Embedding.{target_of, paths_of, first_path, divide}
use Rattle.model.specs.Definitions.Filler.{Builder, content, known, fill_members, fillers}
use Rattle.model.specs.Definitions.Image.{Setting, placed, place, Child, letter, element, letters_of, along_paths, along_choice, along_list, items_of, placements, image_of_element, children, image_by, image}
use Rattle.model.specs.Definitions.Templates.{Hole, characters, child, items, holes_along, choice_hole, holes_of, template_by, divided_of, item_by, held_by_child, first_type, items_by, in_holes, Shape, shaped, Symbol, opening, closing, filler, hole, row_of, template, item_template, filler_row, filler_bytes, filled_row, bytes_of, written_item, written_element, written_children, writes, first_in, at_child, over_children, characters_of, held_by}
use Rattle.model.proofs.Theorems.Facts.{SoundTable, All, all_none, all_more, Along, along_none, along_both, ValidEdges, Valid}
use Rattle.model.proofs.Theorems.FillerLaws.{filled, fill_filled, filled_lower, fill_step}
use Rattle.model.proofs.Theorems.Measures.{Hom, element_hom}
use Rattle.model.proofs.Theorems.TemplateShapes.{folded, filler_hom, folded_filler, folded-template, folded_item, Regular, regular_none, regular_gap, regular_built, regular_filler, filler_members_exist, filler_regular, HoleIn, HoleOfItem, member_paths, template_regular, item_regular}
use Rattle.model.proofs.Theorems.ByElements.{Each, each_end, each_char, each_elem, by_elements}

-- ---- the image of an element is what its holes make of its children

-- the children of a sequence stand along its paths, as its holes do
members_in_holes : {A : Type 0} {R : ℕ → List ℕ → Type 0} (B : Builder A) (X : Setting) (fs : List A) {ms : List ℕ} {pss : List (List ℕ)} {k : Content}
    → Along R ms pss → Holds X.source (sequence ms) k → along_paths pss (children B X fs k) ≡ holes_along (held_by_child B (children B X fs k)) pss
unfolding along_paths holes_along held_by_child children
members_in_holes B X fs along_none no_member = refl
members_in_holes B X fs (along_both r al) (one_member held later) = rw (members_in_holes B X fs al later)

items_same : {A : Type 0} (B : Builder A) (X : Setting) (s : ℕ) (ks : List (Child A))
    → items_of B (place B X.target (fillers B X.target) (divided_of X s).item) (divided_of X s) ks ≡ items_by B (item_by B X s) ks
unfolding items_of items_by item_by
items_same B X s [] = refl
items_same B X s (letter c ∷ ks) = items_same B X s ks
items_same B X s (element t a ∷ ks) = ap (B.element true _ _) (items_same B X s ks)

list_in_holes : {A : Type 0} (B : Builder A) (X : Setting) (s : ℕ) (ks : List (Child A))
    → along_list B X.target (fillers B X.target) (divide X.target (target_of X.embedding s) (first_path (paths_of X.embedding s))) ks
    ≡ placed (divide X.target (target_of X.embedding s) (first_path (paths_of X.embedding s))).before (items_by B (item_by B X s) ks) ∷ []
unfolding along_list divided_of
list_in_holes {A} B X s ks = ap (λ (a : A). placed (divided_of X s).before a ∷ []) (items_same B X s ks)

-- what a choice of either kind places is what stands in its hole
choice_in_holes : {A : Type 0} (B : Builder A) (X : Setting) (fs : List A) (item : A → A → A) (shared : List ℕ) {need : Need} {ms : List ℕ} (pss : List (List ℕ)) {k : Content}
    → Holds X.source (choice need ms) k
    → along_choice B shared ms pss (children B X fs k) ≡ choice_hole (in_holes B item (children B X fs k)) shared ms pss (first_type (children B X fs k)) ∷ []
unfolding along_choice choice_hole children first_type in_holes
choice_in_holes B X fs item shared pss (chosen mem held) = unfold held_by_child in refl
choice_in_holes B X fs item shared pss left_out = unfold letters_of in refl

-- what is placed for an element is what stands in its holes
placed_in_holes : {A : Type 0} (B : Builder A) (X : Setting) (s : ℕ) (κ : Kind) {k : Content}
    → ValidEdges X (target_of X.embedding s) κ (paths_of X.embedding s) → Holds X.source κ k
    → placements B X.target (fillers B X.target) κ (target_of X.embedding s) (paths_of X.embedding s) (children B X (fillers B X.target) k)
    ≡ holes_of (in_holes B (item_by B X s) (children B X (fillers B X.target) k)) X.target κ (target_of X.embedding s) (paths_of X.embedding s)
    (first_type (children B X (fillers B X.target) k))
unfolding placements holes_of in_holes
placed_in_holes B X s text edges held = refl
placed_in_holes B X s empty edges held = refl
placed_in_holes B X s (sequence ms) edges held = members_in_holes B X _ (member_paths edges) held
placed_in_holes B X s (choice need ms) edges held = choice_in_holes B X _ (item_by B X s) _ _ held
placed_in_holes B X s (list m) {k} edges held = list_in_holes B X s (children B X (fillers B X.target) k)

-- What the image of a source element holds is what its holes make of its children, for every builder.
pub element_template : {A : Type 0} (B : Builder A) (X : Setting) (s : ℕ) (k : Content)
    → ValidEdges X (target_of X.embedding s) (kind_of X.source s) (paths_of X.embedding s) → Holds X.source (kind_of X.source s) k
    → image_of_element B X (fillers B X.target) s (children B X (fillers B X.target) k)
    ≡ template_by B (in_holes B (item_by B X s) (children B X (fillers B X.target) k)) X s (first_type (children B X (fillers B X.target) k))
unfolding image_of_element template_by
element_template B X s k edges held = ap (place B _ _ _) (placed_in_holes B X s (kind_of X.source s) edges held)

-- ---- rows, filled

filled-append : (T : Table) (σ : Hole → List ℕ) (r q : List Symbol) → filled_row T σ (r ++ q) ≡ filled_row T σ r ++ filled_row T σ q
unfolding filled_row
filled-append T σ [] q = refl
filled-append T σ (opening t ∷ r) q = ap (λ (x : List ℕ). 0x30 ∷ t ∷ x) (filled-append T σ r q)
filled-append T σ (closing ∷ r) q = ap (λ (x : List ℕ). 0x32 ∷ x) (filled-append T σ r q)
filled-append T σ (filler t ∷ r) q = rw (filled-append T σ r q) (sym (append_assoc (filler_bytes T t) (filled_row T σ r) (filled_row T σ q)))
filled-append T σ (hole i ∷ r) q = rw (filled-append T σ r q) (sym (append_assoc (σ i) (filled_row T σ r) (filled_row T σ q)))

bytes_hom : Hom content bytes_of bytes
unfolding content bytes_of bytes
bytes_hom = record { on_none = refl; on_letter = λ c r. refl; on_element = λ built t k r. refl }

-- the bytes of a filler element and of what comes after it
filler_then : (T : Table) (t : ℕ) (r : List ℕ) → filler_bytes T t ++ r ≡ bytes_of.element false t (known bytes_of (fillers bytes_of T) t) r
unfolding filler_bytes
filler_then T t r =
    rw (← filler_hom content bytes_of bytes bytes_hom T t)
    (unfold bytes_of in ap (λ (x : List ℕ). 0x30 ∷ t ∷ x) (append_assoc (bytes (known content (fillers content T) t)) (0x32 ∷ []) r))

-- those of an element that a path builds
built_filled : (T : Table) (held : Hole → List ℕ) (t : ℕ) (k r : List Symbol)
    → filled_row T held (opening t ∷ (k ++ closing ∷ r)) ≡ bytes_of.element true t (filled_row T held k) (filled_row T held r)
unfolding filled_row bytes_of
built_filled T held t k r = ap (λ (x : List ℕ). 0x30 ∷ t ∷ x) (filled-append T held k (closing ∷ r))

-- A row, filled, is the bytes of its shape with the same in the holes.
filled_regular : {T : Table} {Ok : Hole → Type 0} {sh : Shape} (held σ : Hole → List ℕ) → ((h : Hole) → Ok h → held h ≡ σ h)
    → Regular T Ok sh → filled_row T held (row_of sh) ≡ folded bytes_of σ sh
unfolding filled_row row_of folded
filled_regular held σ same regular_none = unfold bytes_of in refl
filled_regular held σ same (regular_gap {h} ok) = append-nil (held h) ∙ same h ok
filled_regular {T} held σ same (regular_built {t} {k} {r} less below after) =
    built_filled T held t (row_of k) (row_of r) ∙ ap₂ (bytes_of.element true t) (filled_regular held σ same below) (filled_regular held σ same after)
filled_regular {T} held σ same (regular_filler {t} {k} {r} less e after) =
    filler_then T t (filled_row T held (row_of r))
    ∙ ap₂ (bytes_of.element false t) (sym (ap (folded bytes_of σ) e ∙ folded_filler bytes_of σ T t)) (filled_regular held σ same after)

-- ---- what filler is written from

members_row : (fs : List Shape) (ms : List ℕ) → row_of (fill_members shaped fs ms) ≡ map filler ms
unfolding fill_members shaped row_of
members_row fs [] = refl
members_row fs (m ∷ ms) = ap (λ (row : List Symbol). filler m ∷ row) (members_row fs ms)

module _ (T : Table) (sound : SoundTable T) (t : ℕ) (exists : t < length T) where
  -- the bytes of a filler element: it opens, the row of its type is written, whatever is said of holes, and it closes
  pub filler_written : (held : Hole → List ℕ) → filler_bytes T t ≡ 0x30 ∷ t ∷ (filled_row T held (filler_row T t) ++ 0x32 ∷ [])
  unfolding filler_bytes filler_row
  filler_written held =
      rw
      (filled_regular held held (λ h ok. refl) (filler_regular T sound (λ h. ⊥) t exists), folded_filler bytes_of held T t, ← filler_hom content bytes_of bytes bytes_hom T t)

  -- this row is a filler element for each member of the type's filler
  pub filler_row_of : filler_row T t ≡ map filler (filled (heights T) (kind_of T t))
  unfolding filler_row
  filler_row_of =
      ap row_of (fill_step T sound shaped t exists ∙ fill_filled shaped (heights T) (fillers shaped T) (kind_of T t))
      ∙ members_row (fillers shaped T) (filled (heights T) (kind_of T t))

  -- these members exist, and are lower than the type
  pub filler_members : (m : ℕ) → Memᴰ m (filled (heights T) (kind_of T t)) → (m < length T) × (height_of T m < height_of T t)
  filler_members m here =
      (filler_members_exist T sound.well_formed t m here, filled_lower T sound.well_formed t exists (sound.finite t exists) m here)

-- ---- which symbols rows have

pub all_append : {A : Type 0} {P : A → Type 0} {xs ys : List A} → All P xs → All P ys → All P (xs ++ ys)
all_append all_none q = q
all_append (all_more h p) q = all_more h (all_append p q)

-- what holds of the symbols of existing types, of closing, and of the holes, holds of all symbols of a row
regular_row : {T : Table} {Ok : Hole → Type 0} {sh : Shape} (P : Symbol → Type 0)
    → ((t : ℕ) → t < length T → P (opening t)) → P closing → ((t : ℕ) → t < length T → P (filler t)) → ((h : Hole) → Ok h → P (hole h))
    → Regular T Ok sh → All P (row_of sh)
unfolding row_of
regular_row P opens closes fills holes regular_none = all_none
regular_row P opens closes fills holes (regular_gap {h} ok) = all_more (holes h ok) all_none
regular_row P opens closes fills holes (regular_built {t} less below after) =
    all_more (opens t less) (all_append (regular_row P opens closes fills holes below) (all_more closes (regular_row P opens closes fills holes after)))
regular_row P opens closes fills holes (regular_filler {t} less e after) = all_more (fills t less) (regular_row P opens closes fills holes after)

-- no hole, or one that a source type of kind κ has whose first child, if there is one, is of a type
abbrev pub HoleOf : Kind → Option ℕ → Symbol → Type 0
HoleOf κ first (opening t) = Unit {0}
HoleOf κ first closing = Unit {0}
HoleOf κ first (filler t) = Unit {0}
HoleOf κ first (hole h) = HoleIn κ first h

-- no hole, or the one of an item's row
abbrev pub ItemHole : Symbol → Type 0
ItemHole (opening t) = Unit {0}
ItemHole closing = Unit {0}
ItemHole (filler t) = Unit {0}
ItemHole (hole h) = HoleOfItem h

-- a type that is named is one of n
abbrev pub TypeBelow : ℕ → Symbol → Type 0
TypeBelow n (opening t) = t < n
TypeBelow n closing = Unit {0}
TypeBelow n (filler t) = t < n
TypeBelow n (hole h) = Unit {0}

types_below : {T : Table} {Ok : Hole → Type 0} {sh : Shape} → Regular T Ok sh → All (TypeBelow (length T)) (row_of sh)
types_below {T} good = regular_row (TypeBelow (length T)) (λ t less. less) tt (λ t less. less) (λ h ok. tt) good

-- a row of filler names types that exist
pub filler_types : (T : Table) → SoundTable T → (t : ℕ) → t < length T → All (TypeBelow (length T)) (filler_row T t)
unfolding filler_row
filler_types T sound t exists = types_below (filler_regular T sound (λ h. ⊥) t exists)

module _ (X : Setting) (valid : Valid X) where
  -- a template has no holes but those of its source type, and names types that exist
  pub template_holes : (s : ℕ) (t : Option ℕ) → s < length X.source → All (HoleOf (kind_of X.source s) t) (template X s t)
  unfolding template
  template_holes s t exists = regular_row (HoleOf (kind_of X.source s) t) (λ t less. tt) tt (λ t less. tt) (λ h ok. ok) (template_regular X valid s t exists)

  pub template_types : (s : ℕ) (t : Option ℕ) → s < length X.source → All (TypeBelow (length X.target)) (template X s t)
  unfolding template
  template_types s t exists = types_below (template_regular X valid s t exists)

  -- an item's row has no hole but child 0, and names types that exist
  pub item_holes : (s m : ℕ) → s < length X.source → kind_of X.source s ≡ list m → All ItemHole (item_template X s)
  unfolding item_template
  item_holes s m exists e = regular_row ItemHole (λ t less. tt) tt (λ t less. tt) (λ h ok. ok) (item_regular X valid s m exists e)

  pub item_types : (s m : ℕ) → s < length X.source → kind_of X.source s ≡ list m → All (TypeBelow (length X.target)) (item_template X s)
  unfolding item_template
  item_types s m exists e = types_below (item_regular X valid s m exists e)

-- ---- the image of a document

items_by-same : {A : Type 0} (B : Builder A) (f g : A → A → A) → ((a r : A) → f a r ≡ g a r) → (ks : List (Child A)) → items_by B f ks ≡ items_by B g ks
unfolding items_by
items_by-same B f g e [] = refl
items_by-same B f g e (letter c ∷ ks) = items_by-same B f g e ks
items_by-same B f g e (element t a ∷ ks) = rw (items_by-same B f g e ks) (e a (items_by B g ks))

-- only a list has items in a hole
in_holes-same : {A : Type 0} (B : Builder A) (f g : A → A → A) (κ : Kind) (t : Option ℕ) → ((m : ℕ) → κ ≡ list m → (a r : A) → f a r ≡ g a r) → (ks : List (Child A)) (h : Hole)
    → HoleIn κ t h → in_holes B f ks h ≡ in_holes B g ks h
unfolding in_holes
in_holes-same B f g κ t e ks characters ok = refl
in_holes-same B f g κ t e ks (child i) ok = refl
in_holes-same B f g text t e ks items ok = absurd ok
in_holes-same B f g empty t e ks items ok = absurd ok
in_holes-same B f g (sequence ms) t e ks items ok = absurd ok
in_holes-same B f g (choice need ms) none e ks items ok = absurd ok
in_holes-same B f g (choice need ms) (some t) e ks items ok = absurd ok
in_holes-same B f g (list m) t e ks items ok = items_by-same B f g (e m refl) ks

-- an element and what comes after it
element_then : (t : ℕ) (k r : List ℕ) → bytes_of.element true t k bytes_of.none ++ r ≡ bytes_of.element true t k r
unfolding bytes_of
element_then t k r = ap (λ (x : List ℕ). 0x30 ∷ t ∷ x) (append_assoc k (0x32 ∷ []) r)

item_then : (X : Setting) (s : ℕ) (a r : List ℕ) → item_by bytes_of X s a bytes_of.none ++ r ≡ item_by bytes_of X s a r
unfolding item_by
item_then X s a r = element_then _ _ r

module _ (X : Setting) (valid : Valid X) where
  -- an item's row, filled, and what comes after it
  filled_item : (s m : ℕ) → s < length X.source → kind_of X.source s ≡ list m → (a r : List ℕ) → written_item X s a r ≡ item_by bytes_of X s a r
  unfolding written_item item_template
  filled_item s m exists e a r =
      ap (λ (x : List ℕ). x ++ r) (filled_regular (λ h. a) (λ h. a) (λ h ok. refl) (item_regular X valid s m exists e) ∙ folded_item bytes_of (λ h. a) X s) ∙ item_then X s a r

  -- what is written for an element is what its holes make of the bytes of its children, whatever the children
  written_element_lem : (s : ℕ) → s < length X.source → (ks : List (Child (List ℕ)))
      → written_element X s ks ≡ template_by bytes_of (in_holes bytes_of (item_by bytes_of X s) ks) X s (first_type ks)
  unfolding written_element template
  written_element_lem s exists ks =
      filled_regular (in_holes bytes_of (written_item X s) ks) (in_holes bytes_of (item_by bytes_of X s) ks)
      (in_holes-same bytes_of (written_item X s) (item_by bytes_of X s) (kind_of X.source s) (first_type ks) (λ m e. filled_item s m exists e) ks)
      (template_regular X valid s (first_type ks) exists)
      ∙ folded-template bytes_of _ X s (first_type ks)

  abbrev fs : List (List ℕ)
  fs = fillers bytes_of X.target

  -- what is written for an element is the bytes of what its image holds
  Writes : ℕ → Content → Type 0
  Writes s k = image_of_element bytes_of X fs s (children bytes_of X fs k) ≡ writes X s k

  children_written : {k : Content} → Each Writes k → children bytes_of X fs k ≡ written_children X k
  unfolding children written_children writes Writes
  children_written each_end = refl
  children_written (each_char e) = rw (children_written e)
  children_written (each_elem h e) = rw (h, children_written e)

  element_writes : (s : ℕ) (k : Content) → s < length X.source → Holds X.source (kind_of X.source s) k → Each Writes k → Writes s k
  unfolding Writes writes
  element_writes s k exists held each =
      element_template bytes_of X s k (valid.edges s exists) held ∙ sym (written_element_lem s exists (children bytes_of X fs k)) ∙ ap (written_element X s) (children_written each)

  -- What is written for a source element is the bytes of what its image holds.
  pub writes_element : (s : ℕ) (k : Content) → s < length X.source → Holds X.source (kind_of X.source s) k
      → writes X s k ≡ bytes (image_of_element content X (fillers content X.target) s (children content X (fillers content X.target) k))
  unfolding Writes
  writes_element s k exists held =
      sym (by_elements X.source valid.source_sound.well_formed Writes element_writes s k exists held)
      ∙ sym (element_hom content bytes_of bytes bytes_hom X s k)

  -- What is written for a document is the bytes of its image.
  pub write_image : (k : Content) → Holds X.source (kind_of X.source 0) k → writes X 0 k ≡ bytes (image X k)
  unfolding image image_by
  write_image k held = writes_element 0 k valid.source_sound.well_formed.has_root held

-- ---- what the holes hold

-- hole child i holds what is written for element number i
child_written : (X : Setting) (k : Content) (i : ℕ) → held_by_child bytes_of (written_children X k) i ≡ at_child [] (writes X) k i
unfolding held_by_child written_children at_child writes bytes_of
child_written X end i = refl
child_written X (char c r) i = child_written X r i
child_written X (elem t k r) zero = refl
child_written X (elem t k r) (suc i) = child_written X r i

-- the hole of a list holds its item's row, filled, for each item
items_written : (X : Setting) (s : ℕ) (k : Content)
    → items_by bytes_of (written_item X s) (written_children X k) ≡ over_children (λ t l. filled_row X.target (λ h. writes X t l) (item_template X s)) k
unfolding items_by written_children over_children writes written_item bytes_of
items_written X s end = refl
items_written X s (char c r) = items_written X s r
items_written X s (elem t k r) =
    ap (λ (x : List ℕ). filled_row X.target (λ h. written_element X t (written_children X k)) (item_template X s) ++ x) (items_written X s r)

-- the hole of a text holds its characters
characters_written : (X : Setting) (k : Content) → letters_of bytes_of (written_children X k) ≡ characters_of k
unfolding letters_of written_children characters_of bytes_of
characters_written X end = refl
characters_written X (char c r) = ap (λ (x : List ℕ). 0x31 ∷ c ∷ x) (characters_written X r)
characters_written X (elem t k r) = characters_written X r

first_written : (X : Setting) (k : Content) → first_type (written_children X k) ≡ first_in k
unfolding first_type written_children first_in
first_written X end = refl
first_written X (char c r) = first_written X r
first_written X (elem t k r) = refl

held-written : (X : Setting) (s : ℕ) (k : Content) (h : Hole) → in_holes bytes_of (written_item X s) (written_children X k) h ≡ held_by X s k h
unfolding in_holes held_by
held-written X s k characters = characters_written X k
held-written X s k (child i) = child_written X k i
held-written X s k items = items_written X s k

filled-same : (T : Table) (f g : Hole → List ℕ) → ((h : Hole) → f h ≡ g h) → (row : List Symbol) → filled_row T f row ≡ filled_row T g row
unfolding filled_row
filled-same T f g e [] = refl
filled-same T f g e (opening t ∷ row) = ap (λ (x : List ℕ). 0x30 ∷ t ∷ x) (filled-same T f g e row)
filled-same T f g e (closing ∷ row) = ap (λ (x : List ℕ). 0x32 ∷ x) (filled-same T f g e row)
filled-same T f g e (filler t ∷ row) = ap (λ (x : List ℕ). filler_bytes T t ++ x) (filled-same T f g e row)
filled-same T f g e (hole h ∷ row) = ap₂ (λ (x y : List ℕ). x ++ y) (e h) (filled-same T f g e row)

-- The recursion that a function can follow: what is written for an element is its template, filled with what is written
-- for its children; for every setting and every content.
pub writes_again : (X : Setting) (s : ℕ) (k : Content) → writes X s k ≡ filled_row X.target (held_by X s k) (template X s (first_in k))
unfolding writes written_element
writes_again X s k = rw (first_written X k) (filled-same X.target _ _ (held-written X s k) (template X s (first_in k)))

-- the hole of a text holds its bytes
pub text_characters : {S : Table} {k : Content} → Holds S text k → characters_of k ≡ bytes k
unfolding characters_of bytes
text_characters no_character = refl
text_characters (one_character {c} ok later) = ap (λ (x : List ℕ). 0x31 ∷ c ∷ x) (text_characters later)
