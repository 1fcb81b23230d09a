-- Measures of an image that don't build it agree with the image that is built: its levels, its length in bytes and its
-- number of filler elements. Filler and images are defined for every builder; a map from one builder to another that
-- respects their three operations takes the image by the first to the image by the second.
use Rattle.std.specs.Prelude.{◌≡◌, Bool, true, false, length, eqb}
use Rattle.std.proofs.Math.Path.{refl}
use Rattle.std.proofs.Common.{sym, ap, ◌∙◌, arith, length-append}
use mathlib.Core.List.{List, [], ◌∷◌, map}
use Prim.Native.Nat.{ℕ, zero, suc, ◌+◌}
use Rattle.std.proofs.Math.ListN.{get_or-map}
use Rattle.model.specs.Definitions.Basics.{pick}
use Rattle.model.specs.Definitions.Commands.{needed, optional}
use Rattle.model.specs.Definitions.Table.{Kind, text, empty, sequence, choice, list, Table, kind_of}
use Rattle.model.specs.Definitions.Heights.{least_member, heights}
use Rattle.model.specs.Definitions.Content.{Content, end, char, elem, bytes, document, levels}
use Rattle.model.specs.Definitions.Embedding.{first_path, next, Divided, before_choice}
use Rattle.model.specs.Definitions.Filler.{Builder, content, levels_of, length_of, fillers_of, known, fill_members, fill_kind, fill_to, fillers}
use Rattle.model.specs.Definitions.EmbeddingChecks.{max_steps}
use Rattle.model.specs.Definitions.Image.{Setting, Placement, placed, beyond, under, is_placed, grow_members, grow_kind, grow, place, Child, letter, element, letters_of, along_paths, along_choice, items_of, along_list, placements, image_of_element, children, image_by, image, image_levels, image_length, image_filler}

-- ---- maps that respect builders

-- h takes what B builds to what B' builds of the same parts
pub record Hom {A A' : Type 0} (B : Builder A) (B' : Builder A') (h : A → A') : Type 0 where
  pub on_none : h B.none ≡ B'.none
  pub on_letter : (c : ℕ) (r : A) → h (B.letter c r) ≡ B'.letter c (h r)
  pub on_element : (built : Bool) (t : ℕ) (k r : A) → h (B.element built t k r) ≡ B'.element built t (h k) (h r)

-- a map on what is placed, and on what a child's image holds
unfoldable pub on_placement : {A A' : Type 0} → (A → A') → Placement A → Placement A'
on_placement h (placed path a) = placed path (h a)

unfoldable pub on_child : {A A' : Type 0} → (A → A') → Child A → Child A'
on_child h (letter c) = letter c
on_child h (element t a) = element t (h a)

-- what the paths alone decide is not changed by a map
beyond-map : {A A' : Type 0} (h : A → A') (p : ℕ) (path : List ℕ) (a : A) (ps : List (Placement A))
    → beyond p path (h a) (map (on_placement h) ps) ≡ map (on_placement h) (beyond p path a ps)
unfolding beyond on_placement pick
beyond-map h p [] a ps = refl
beyond-map h p (q ∷ path) a ps = go (eqb p q)
  where
    go : (b : Bool) → pick b (placed path (h a) ∷ map (on_placement h) ps) (map (on_placement h) ps) ≡ map (on_placement h) (pick b (placed path a ∷ ps) ps)
    go true = refl
    go false = refl

pub under-map : {A A' : Type 0} (h : A → A') (p : ℕ) (ps : List (Placement A)) → under p (map (on_placement h) ps) ≡ map (on_placement h) (under p ps)
unfolding under on_placement
under-map h p [] = refl
under-map h p (placed path a ∷ ps) = rw (under-map h p ps) (beyond-map h p path a (under p ps))

pub is_placed-map : {A A' : Type 0} (h : A → A') (ps : List (Placement A)) → is_placed (map (on_placement h) ps) ≡ is_placed ps
unfolding is_placed
is_placed-map h [] = refl
is_placed-map h (p ∷ ps) = refl

along_paths-map : {A A' : Type 0} (h : A → A') (pss : List (List ℕ)) (ks : List (Child A))
    → along_paths pss (map (on_child h) ks) ≡ map (on_placement h) (along_paths pss ks)
unfolding along_paths on_placement on_child
along_paths-map h [] ks = refl
along_paths-map h (p ∷ pss) [] = refl
along_paths-map h (p ∷ pss) (letter c ∷ ks) = refl
along_paths-map h (p ∷ pss) (element t a ∷ ks) = rw (along_paths-map h pss ks)

module _ {A A' : Type 0} (B : Builder A) (B' : Builder A') (h : A → A') (H : Hom B B' h) where
  -- filler
  pub known_hom : (fs : List A) (t : ℕ) → h (known B fs t) ≡ known B' (map h fs) t
  unfolding known
  known_hom fs t = rw (← H.on_none) (sym (get_or-map h fs t B.none))

  fill_members_hom : (fs : List A) (ms : List ℕ) → h (fill_members B fs ms) ≡ fill_members B' (map h fs) ms
  unfolding fill_members
  fill_members_hom fs [] = H.on_none
  fill_members_hom fs (m ∷ ms) = rw (H.on_element, known_hom, fill_members_hom fs ms)

  fill_kind_hom : (hs : List ℕ) (fs : List A) (κ : Kind) → h (fill_kind B hs fs κ) ≡ fill_kind B' hs (map h fs) κ
  unfolding fill_kind
  fill_kind_hom hs fs text = H.on_none
  fill_kind_hom hs fs empty = H.on_none
  fill_kind_hom hs fs (sequence ms) = fill_members_hom fs ms
  fill_kind_hom hs fs (choice needed ms) = fill_members_hom fs (least_member hs ms ∷ [])
  fill_kind_hom hs fs (choice optional ms) = H.on_none
  fill_kind_hom hs fs (list m) = H.on_none

  -- one round of filler, for each type of a table
  round_hom : (hs : List ℕ) (fs : List A) (T : Table) → map h (map (fill_kind B hs fs) T) ≡ map (fill_kind B' hs (map h fs)) T
  round_hom hs fs [] = refl
  round_hom hs fs (κ ∷ T) = rw (fill_kind_hom, round_hom hs fs T)

  fill_to_hom : (hs : List ℕ) (T : Table) (n : ℕ) → map h (fill_to B hs T n) ≡ fill_to B' hs T n
  unfolding fill_to
  fill_to_hom hs T zero = refl
  fill_to_hom hs T (suc n) = round_hom hs (fill_to B hs T n) T ∙ rw (fill_to_hom hs T n)

  pub fillers_hom : (T : Table) → map h (fillers B T) ≡ fillers B' T
  unfolding fillers
  fillers_hom T = fill_to_hom (heights T) T (length T)

  -- content placed along paths
  grow_members_hom : (inside : ℕ → List (Placement A) → A) (inside' : ℕ → List (Placement A') → A')
      → ((m : ℕ) (qs : List (Placement A)) → h (inside m qs) ≡ inside' m (map (on_placement h) qs))
      → (ps : List (Placement A)) (p : ℕ) (ms : List ℕ)
      → h (grow_members B inside ps p ms) ≡ grow_members B' inside' (map (on_placement h) ps) p ms
  unfolding grow_members
  grow_members_hom inside inside' same ps p [] = H.on_none
  grow_members_hom inside inside' same ps p (m ∷ ms) =
      rw (H.on_element, grow_members_hom inside inside' same ps (suc p) ms, same, grow_members, under-map, is_placed-map)

  grow_kind_hom : (inside : ℕ → List (Placement A) → A) (inside' : ℕ → List (Placement A') → A')
      → ((m : ℕ) (qs : List (Placement A)) → h (inside m qs) ≡ inside' m (map (on_placement h) qs))
      → (ps : List (Placement A)) (p τ : ℕ) (κ : Kind)
      → h (grow_kind B inside ps p τ κ) ≡ grow_kind B' inside' (map (on_placement h) ps) p τ κ
  unfolding grow_kind
  grow_kind_hom inside inside' same ps p τ text = H.on_none
  grow_kind_hom inside inside' same ps p τ empty = H.on_none
  grow_kind_hom inside inside' same ps p τ (sequence ms) = grow_members_hom inside inside' same ps 1 ms
  grow_kind_hom inside inside' same ps p τ (choice need ms) = rw (H.on_element, same, grow_kind, under-map, H.on_none)
  grow_kind_hom inside inside' same ps p τ (list m) = rw (H.on_element, same, grow_kind, under-map, H.on_none)

  grow_hom : (T : Table) (fs : List A) (n τ : ℕ) (ps : List (Placement A))
      → h (grow B T fs n τ ps) ≡ grow B' T (map h fs) n τ (map (on_placement h) ps)
  unfolding grow on_placement
  grow_hom T fs zero τ ps = H.on_none
  grow_hom T fs (suc n) τ [] = known_hom fs τ
  grow_hom T fs (suc n) τ (placed [] a ∷ ps) = refl
  grow_hom T fs (suc n) τ (placed (p ∷ path) a ∷ ps) =
      grow_kind_hom (λ m qs. grow B T fs n m qs) (λ m qs. grow B' T (map h fs) n m qs) (grow_hom T fs n) (placed (p ∷ path) a ∷ ps) p (next T τ p) (kind_of T τ)

  pub place_hom : (T : Table) (fs : List A) (τ : ℕ) (ps : List (Placement A))
      → h (place B T fs τ ps) ≡ place B' T (map h fs) τ (map (on_placement h) ps)
  unfolding place
  place_hom T fs τ ps = grow_hom T fs (suc max_steps) τ ps

  -- the image of one source element
  letters_of_hom : (ks : List (Child A)) → h (letters_of B ks) ≡ letters_of B' (map (on_child h) ks)
  unfolding letters_of on_child
  letters_of_hom [] = H.on_none
  letters_of_hom (letter c ∷ ks) = rw (H.on_letter, letters_of_hom ks)
  letters_of_hom (element t a ∷ ks) = letters_of_hom ks

  items_of_hom : (T : Table) (fs : List A) (d : Divided) (ks : List (Child A))
      → h (items_of B (place B T fs d.item) d ks) ≡ items_of B' (place B' T (map h fs) d.item) d (map (on_child h) ks)
  unfolding items_of on_child on_placement
  items_of_hom T fs d [] = H.on_none
  items_of_hom T fs d (letter c ∷ ks) = items_of_hom T fs d ks
  items_of_hom T fs d (element t a ∷ ks) = rw (H.on_element, items_of_hom T fs d ks, place_hom)

  along_choice_hom : (shared ms : List ℕ) (pss : List (List ℕ)) (ks : List (Child A))
      → along_choice B' shared ms pss (map (on_child h) ks) ≡ map (on_placement h) (along_choice B shared ms pss ks)
  unfolding along_choice on_placement on_child
  along_choice_hom shared ms pss [] = rw H.on_none
  along_choice_hom shared ms pss (letter c ∷ ks) = rw H.on_none
  along_choice_hom shared ms pss (element t a ∷ ks) = refl

  placements_hom : (T : Table) (fs : List A) (κ : Kind) (τ : ℕ) (pss : List (List ℕ)) (ks : List (Child A))
      → placements B' T (map h fs) κ τ pss (map (on_child h) ks) ≡ map (on_placement h) (placements B T fs κ τ pss ks)
  unfolding placements along_list on_placement
  placements_hom T fs text τ pss ks = rw letters_of_hom
  placements_hom T fs empty τ pss ks = refl
  placements_hom T fs (sequence ms) τ pss ks = along_paths-map h pss ks
  placements_hom T fs (choice need ms) τ pss ks = along_choice_hom (before_choice T τ (first_path pss)) ms pss ks
  placements_hom T fs (list m) τ pss ks = rw items_of_hom

  image_of_element_hom : (X : Setting) (fs : List A) (s : ℕ) (ks : List (Child A))
      → h (image_of_element B X fs s ks) ≡ image_of_element B' X (map h fs) s (map (on_child h) ks)
  unfolding image_of_element
  image_of_element_hom X fs s ks = rw (place_hom, ← placements_hom)

  children_hom : (X : Setting) (fs : List A) (k : Content) → map (on_child h) (children B X fs k) ≡ children B' X (map h fs) k
  unfolding children on_child
  children_hom X fs end = refl
  children_hom X fs (char c r) = rw (children_hom X fs r)
  children_hom X fs (elem t k r) = rw (image_of_element_hom, children_hom X fs k, children_hom X fs r)

  -- what the image of an element holds
  pub element_hom : (X : Setting) (s : ℕ) (k : Content)
      → h (image_of_element B X (fillers B X.target) s (children B X (fillers B X.target) k))
      ≡ image_of_element B' X (fillers B' X.target) s (children B' X (fillers B' X.target) k)
  element_hom X s k = rw (image_of_element_hom, children_hom, fillers_hom)

  -- a map that respects two builders takes the image by the first to the image by the second
  pub image_hom : (X : Setting) (k : Content) → h (image_by B X k) ≡ image_by B' X k
  unfolding image_by
  image_hom X k = element_hom X 0 k

-- ---- levels and length

pub levels_hom : Hom content levels_of levels
unfolding content levels_of levels
levels_hom = record { on_none = refl; on_letter = λ c r. refl; on_element = λ built t k r. refl }

-- what image_levels says is the number of levels of the built image, its root included
pub image-levels : (X : Setting) (k : Content) → image_levels X k ≡ suc (levels (image X k))
unfolding image_levels image
image-levels X k = ap suc (sym (image_hom content levels_of levels levels_hom X k))

-- the bytes of content
abbrev pub size : Content → ℕ
size k = length (bytes k)

-- an element's bytes are its two commands and what it holds
pub size_elem : (t : ℕ) (k r : Content) → size (elem t k r) ≡ 3 + size k + size r
unfolding bytes
size_elem t k r = omega (arith, length-append (bytes k) (0x32 ∷ bytes r))

pub size_hom : Hom content length_of size
unfolding content length_of bytes
size_hom = record { on_none = refl; on_letter = λ c r. omega arith; on_element = λ built t k r. size_elem t k r }

-- a document's bytes are its root element's and the one that ends it
pub document-length : (t : ℕ) (k : Content) → length (document t k) ≡ size k + 4
unfolding document bytes
document-length t k = omega (arith, length-append (bytes (elem t k end)) (0x3F ∷ []), size_elem t k end)

-- what image_length says is the number of bytes of the built image's document
pub image-length : (X : Setting) (k : Content) → image_length X k ≡ length (document 0 (image X k))
unfolding image_length image
image-length X k = rw (document-length, ← image_hom content length_of size size_hom)

-- ---- filler elements

-- content whose elements each say whether a path builds them (or they are the root)
pub data Marked : Type 0 where
  marked_end : Marked
  marked_char : ℕ → Marked → Marked
  marked_elem : Bool → ℕ → Marked → Marked → Marked

unfoldable pub marked : Builder Marked
marked = record { none = marked_end; letter = marked_char; element = marked_elem }

-- the content, the marks forgotten
unfoldable pub unmarked : Marked → Content
unmarked marked_end = end
unmarked (marked_char c r) = char c (unmarked r)
unmarked (marked_elem built t k r) = elem t (unmarked k) (unmarked r)

-- the number of elements that no path builds
unfoldable pub count_filler : Marked → ℕ
count_filler marked_end = 0
count_filler (marked_char c r) = count_filler r
count_filler (marked_elem true t k r) = count_filler k + count_filler r
count_filler (marked_elem false t k r) = suc (count_filler k + count_filler r)

unmarked_hom : Hom marked content unmarked
unfolding marked content unmarked
unmarked_hom = record { on_none = refl; on_letter = λ c r. refl; on_element = λ built t k r. refl }

-- the marked image, its marks forgotten, is the image
pub marked_is_image : (X : Setting) (k : Content) → unmarked (image_by marked X k) ≡ image X k
unfolding image
marked_is_image X k = image_hom marked content unmarked unmarked_hom X k

count_elem : (built : Bool) (t : ℕ) (k r : Marked) → count_filler (marked_elem built t k r) ≡ pick built 0 1 + count_filler k + count_filler r
unfolding count_filler pick
count_elem true t k r = omega arith
count_elem false t k r = omega arith

count_hom : Hom marked fillers_of count_filler
unfolding marked fillers_of count_filler
count_hom = record { on_none = refl; on_letter = λ c r. refl; on_element = count_elem }

-- the elements of the marked image that no path builds are as many as image_filler says
pub marked_filler : (X : Setting) (k : Content) → count_filler (image_by marked X k) ≡ image_filler X k
unfolding image_filler
marked_filler X k = image_hom marked fillers_of count_filler count_hom X k
