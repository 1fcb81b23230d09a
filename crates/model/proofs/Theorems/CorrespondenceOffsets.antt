-- 02, N14: source elements and the elements that they stand at, by offsets in the bytes of the two documents.
use Rattle.std.specs.Prelude.{◌≡◌, ◌↔◌, drop}
use Rattle.std.proofs.Math.Path.{refl, sym, ap, subst}
use Rattle.std.proofs.Common.{◌∙◌, zero-add, length-append, drop-drop}
use mathlib.Core.List.Memᴰ
use mathlib.Core.List.{List, [], ◌∷◌, ◌++◌, map, Memᴰ}
use Rattle.std.proofs.Math.Option.{some}
use Prim.Native.Nat.{ℕ, zero, suc, ◌+◌, ◌≤◌, ◌<◌}
use native.Mathlib.Omega.{arith}
use Rattle.std.proofs.Math.ListN.{length, length-map}
use Rattle.model.specs.Definitions.Table.{kind_of}
use Rattle.model.specs.Definitions.Content.{Content, end, char, elem, bytes, document, elements}
use Rattle.model.specs.Definitions.Conformance.{Holds}
use Rattle.model.specs.Definitions.Embedding.{target_of}
use Rattle.model.specs.Definitions.Image.{Setting, image}
use Rattle.model.specs.Definitions.Templates.{at_child}
use Rattle.model.specs.Definitions.Inverse.{bytes_before}
use Rattle.model.specs.Definitions.Unreadable.{Opens}
use Rattle.model.specs.Definitions.Correspondence.{Element, element_with, element_at, behind_first, addresses_in, addresses, stands_at, offset_at, type_at, OpensAs, correspondence, correspondences}
use Rattle.model.proofs.Theorems.Facts.{All, all_none, all_more, Pairs, pairs_none, pairs_more, Valid}
use Rattle.model.proofs.Theorems.Measures.{size, size_elem}
use Rattle.model.proofs.Theorems.Templates.{all_append}
use Rattle.model.proofs.Theorems.ReadBack.{all_member}
use Rattle.model.proofs.Theorems.BringingBack.{size_char}
use Rattle.model.proofs.Theorems.Offsets.{Begins, begins_inside, element_stands, next_begins, root_opens}
use Rattle.model.proofs.Theorems.Correspondence.{ChildIs, first_child, later_child, behind_character, at_child_lem, child_found, each_stands, none_share}

-- ---- an element opens at its offset

module _ (doc : List ℕ) where
  -- an element of this type, holding k, is at this offset
  abbrev pub TypedAt : ℕ → ℕ → Content → Type 0
  TypedAt at t k = (o : Opens doc at k) × (o.type ≡ t)

  behind_two : {at c : ℕ} {r : Content} → Begins doc at (char c r) → Begins doc (at + 2) r
  unfolding bytes
  behind_two {at} b = record { rest = b.rest; follows = sym (drop-drop 2 at doc) ∙ ap (drop 2) b.follows }

  -- a child opens behind the bytes of what stands before it
  child_opens_at : {at i t : ℕ} {k l : Content} → Begins doc at k → ChildIs k i t l → TypedAt (at + bytes_before k (suc i)) t l
  unfolding bytes_before
  child_opens_at {at} b (first_child {t = t} {r = r}) =
      let here : at + 0 ≡ at = omega arith in
      rw here (record { type = t; rest = bytes r ++ 0x32 ∷ b.rest; stands = element_stands doc b }, refl)
  child_opens_at {at} {t = t} {l = l} b (later_child {i = i} {l = k} {r = r} c) =
      let further : at + 2 + length (bytes k) + 1 + bytes_before r (suc i) ≡ at + (3 + length (bytes k) + bytes_before r (suc i)) = omega arith in
      subst (λ (there : ℕ). TypedAt there t l) further (child_opens_at {at = at + 2 + length (bytes k) + 1} {k = r} (next_begins doc b) c)
  child_opens_at {at} {i} {t} {l = l} b (behind_character {r = r} c) =
      let further : at + 2 + bytes_before r (suc i) ≡ at + (2 + bytes_before r (suc i)) = omega arith in
      subst (λ (there : ℕ). TypedAt there t l) further (child_opens_at {at = at + 2} {k = r} (behind_two b) c)

  -- Below an element that is at an offset of the document, each element opens at its own.
  element_opens : (a : List ℕ) {at t : ℕ} {k : Content} {x : Element} → TypedAt at t k → element_at t k a ≡ some x → TypedAt (at + offset_at k a) x.type x.holds
  unfolding element_at offset_at
  element_opens [] {at} {t} {k} {x} o e =
      let same : element_with t k ≡ x = cc in
      let here : at + 0 ≡ at = omega arith in
      rw here (subst (λ (y : Element). TypedAt at y.type y.holds) same o)
  element_opens (i ∷ a) {at} {t} {k} {x} o e =
      let it = child_found (λ u l. element_at u l a) k i e in
      let further : at + 2 + bytes_before k (suc i) + offset_at it.1 a ≡ at + offset_at k (i ∷ a) = omega (arith, at_child_lem 0 (λ u l. offset_at l a) it.2) in
      subst (λ (there : ℕ). TypedAt there x.type x.holds) further (element_opens a (child_opens_at (begins_inside doc o.0) it.2) it.3)

-- ---- offsets lie within what holds the elements

-- a child's bytes are among those of the content
child_within : {k l : Content} {i t : ℕ} → ChildIs k i t l → bytes_before k (suc i) + 3 + size l ≤ size k
unfolding bytes_before
child_within (first_child {t = t} {k = k} {r = r}) = omega (arith, size_elem t k r)
child_within (later_child {u = u} {l = l} {r = r} c) = omega (arith, size_elem u l r, child_within c)
child_within (behind_character {c = c} {r = r} h) = omega (arith, size_char c r, child_within h)

offset_within : (a : List ℕ) (t : ℕ) (k : Content) {x : Element} → element_at t k a ≡ some x → offset_at k a < 3 + size k
unfolding element_at offset_at
offset_within [] t k e = omega arith
offset_within (i ∷ a) t k e =
    let it = child_found (λ u l. element_at u l a) k i e in
    omega (arith, at_child_lem 0 (λ u l. offset_at l a) it.2, child_within it.2, offset_within a it.0 it.1 it.3)

-- ---- rows

module _ {A : Type 0} where
  pairs_append : {R : A → A → Type 0} {xs ys : List A} → Pairs R xs → Pairs R ys → All (λ x. All (R x) ys) xs → Pairs R (xs ++ ys)
  pairs_append pairs_none b all_none = b
  pairs_append (pairs_more h a) b (all_more c d) = pairs_more (all_append h c) (pairs_append a b d)

  -- two of a row whose numbers rise have the same number only where they are the same
  told_by_number : (f : A → ℕ) {x y : A} {xs : List A} → Pairs (λ a b. f a < f b) xs → Memᴰ x xs → Memᴰ y xs → f x ≡ f y → x ≡ y
  told_by_number f {y = y} pairs_none x8 _ e = elim x8 [ ]
  told_by_number f (pairs_more h pr) (Memᴰ.head p) (Memᴰ.head q) e = p ∙ sym q
  told_by_number f (pairs_more h pr) (Memᴰ.head p) (Memᴰ.tail n) e = absurd (omega (arith, ap f p, all_member h n))
  told_by_number f (pairs_more h pr) (Memᴰ.tail m) (Memᴰ.head q) e = absurd (omega (arith, ap f q, all_member h m))
  told_by_number f (pairs_more h pr) (Memᴰ.tail m) (Memᴰ.tail n) e = told_by_number f pr m n e

  -- what follows of each entry, and of every two
  all_with : {P Q : A → Type 0} {xs : List A} → ((x : A) → P x → Q x) → All P xs → All Q xs
  all_with g all_none = all_none
  all_with g (all_more {a = x} p a) = all_more (g x p) (all_with g a)

  pairs_with : {P : A → Type 0} {R Q : A → A → Type 0} {xs : List A} → ((x y : A) → P x → P y → R x y → Q x y) → All P xs → Pairs R xs → Pairs Q xs
  pairs_with g all_none pairs_none = pairs_none
  pairs_with {P} {R} {Q} g (all_more {a = x} p a) (pairs_more h pr) = pairs_more (beside h a) (pairs_with g a pr)
    where
      beside : {ys : List A} → All (R x) ys → All P ys → All (Q x) ys
      beside all_none all_none = all_none
      beside (all_more {a = y} r h) (all_more q b) = all_more (g x y p q r) (beside h b)

  -- the same of entries that a function changed
  module _ {B : Type 0} (f : A → B) where
    all_map : {Q : B → Type 0} {xs : List A} → All (λ x. Q (f x)) xs → All Q (map f xs)
    all_map all_none = all_none
    all_map (all_more q a) = all_more q (all_map a)

    pairs-map : {Q : B → B → Type 0} {xs : List A} → Pairs (λ x y. Q (f x) (f y)) xs → Pairs Q (map f xs)
    pairs-map pairs_none = pairs_none
    pairs-map (pairs_more h pr) = pairs_more (all_map h) (pairs-map pr)

    member-map : {x : A} {xs : List A} → Memᴰ x xs → Memᴰ (f x) (map f xs)
    member-map (Memᴰ.head e) = Memᴰ.head (ap f e)
    member-map (Memᴰ.tail m) = Memᴰ.tail (member-map m)

-- ---- the addresses of all elements

-- an address below, of an element
data Inside (k : Content) : List ℕ → Type 0 where
  inside : (i : ℕ) (a : List ℕ) (x : Element) → element_at 0 k (i ∷ a) ≡ some x → Inside k (i ∷ a)

module _ (t : ℕ) (k r : Content) where
  -- the first element, those below it, and those behind it
  itself_inside : Inside (elem t k r) (zero ∷ [])
  unfolding element_at at_child
  itself_inside = inside zero [] (element_with t k) refl

  below_inside : (a : List ℕ) → Inside k a → Inside (elem t k r) (zero ∷ a)
  unfolding element_at at_child
  below_inside _ (inside i a x e) = inside zero (i ∷ a) x e

  behind_inside : (a : List ℕ) → Inside r a → Inside (elem t k r) (behind_first a)
  unfolding element_at at_child behind_first
  behind_inside _ (inside i a x e) = inside (suc i) a x e

  -- their offsets
  itself_offset : offset_at (elem t k r) (zero ∷ []) ≡ 2
  unfolding offset_at at_child bytes_before
  itself_offset = refl

  below_offset : (a : List ℕ) → offset_at (elem t k r) (zero ∷ a) ≡ 2 + offset_at k a
  unfolding offset_at at_child bytes_before
  below_offset a = refl

  behind_offset : (a : List ℕ) → Inside r a → offset_at (elem t k r) (behind_first a) ≡ 3 + size k + offset_at r a
  unfolding offset_at at_child bytes_before behind_first
  behind_offset _ (inside i a x e) = omega arith

-- behind a character
past_inside : (c : ℕ) (r : Content) (a : List ℕ) → Inside r a → Inside (char c r) a
unfolding element_at at_child
past_inside c r _ (inside i a x e) = inside i a x e

past_offset : (c : ℕ) (r : Content) (a : List ℕ) → Inside r a → offset_at (char c r) a ≡ 2 + offset_at r a
unfolding offset_at at_child bytes_before
past_offset c r _ (inside i a x e) = omega arith

-- an element below begins behind the 30 and the type of the one that holds it, and before the 32
inside_above : (k : Content) (a : List ℕ) → Inside k a → 2 ≤ offset_at k a
unfolding offset_at
inside_above k _ (inside i a x e) = omega arith

inside_within : (k : Content) (a : List ℕ) → Inside k a → offset_at k a < 3 + size k
inside_within k _ (inside i a x e) = offset_within (i ∷ a) 0 k e

-- each address that is listed is that of an element
all_inside : (k : Content) → All (Inside k) (addresses_in k)
unfolding addresses_in
all_inside end = all_none
all_inside (char c r) = all_with (past_inside c r) (all_inside r)
all_inside (elem t k r) =
    all_append (all_more (itself_inside t k r) (all_map (λ (a : List ℕ). zero ∷ a) (all_with (below_inside t k r) (all_inside k))))
    (all_map behind_first (all_with (behind_inside t k r) (all_inside r)))

-- an element's offset is below another's
abbrev Rises : Content → List ℕ → List ℕ → Type 0
Rises k a b = offset_at k a < offset_at k b

module _ (t : ℕ) (k r : Content) where
  -- the first element and those below it
  abbrev first_addresses : List (List ℕ)
  first_addresses = (zero ∷ []) ∷ map (λ (a : List ℕ). zero ∷ a) (addresses_in k)

  -- their offsets rise, where those below it do,
  first_rise : Pairs (Rises k) (addresses_in k) → Pairs (Rises (elem t k r)) first_addresses
  first_rise below =
      let lowest : All (λ a. Rises (elem t k r) (zero ∷ []) (zero ∷ a)) (addresses_in k) =
      all_with (λ a p. omega (arith, itself_offset t k r, below_offset t k r a, inside_above k a p)) (all_inside k) in
      let later : Pairs (λ a b. Rises (elem t k r) (zero ∷ a) (zero ∷ b)) (addresses_in k) =
      pairs_with (λ a b p q e. omega (arith, below_offset t k r a, below_offset t k r b, e)) (all_inside k) below in
      pairs_more (all_map (λ (a : List ℕ). zero ∷ a) lowest) (pairs-map (λ (a : List ℕ). zero ∷ a) later)

  -- and are below those of all elements behind it
  first_below : All (λ a. All (Rises (elem t k r) a) (map behind_first (addresses_in r))) first_addresses
  first_below =
      let own : offset_at (elem t k r) (zero ∷ []) < 5 + size k = omega (arith, itself_offset t k r) in
      let below : All (λ a. offset_at (elem t k r) (zero ∷ a) < 5 + size k) (addresses_in k) =
      all_with (λ a p. omega (arith, below_offset t k r a, inside_within k a p)) (all_inside k) in
      let low : All (λ a. offset_at (elem t k r) a < 5 + size k) first_addresses = all_more own (all_map (λ (a : List ℕ). zero ∷ a) below) in
      all_with (λ a h. all_map behind_first (all_with (λ b q. omega (arith, h, behind_offset t k r b q, inside_above r b q)) (all_inside r))) low

-- in document order offsets rise
rising : (k : Content) → Pairs (Rises k) (addresses_in k)
unfolding addresses_in
rising end = pairs_none
rising (char c r) = pairs_with (λ a b p q e. omega (arith, past_offset c r a p, past_offset c r b q, e)) (all_inside r) (rising r)
rising (elem t k r) =
    pairs_append (first_rise t k r (rising k))
    (pairs-map behind_first (pairs_with (λ a b p q e. omega (arith, behind_offset t k r a p, behind_offset t k r b q, e)) (all_inside r) (rising r)))
    (first_below t k r)

-- ---- a whole document

-- an address is that of an element
abbrev IsElement : Content → List ℕ → Type 0
IsElement k a = (x : Element) × (element_at 0 k a ≡ some x)

root_element : (k : Content) → IsElement k []
unfolding element_at
root_element k = (element_with 0 k, refl)

below_element : (k : Content) (a : List ℕ) → Inside k a → IsElement k a
below_element k _ (inside i a x e) = (x, e)

all_elements : (k : Content) → All (IsElement k) (addresses k)
unfolding addresses
all_elements k = all_more (root_element k) (all_with (below_element k) (all_inside k))

all_rise : (k : Content) → Pairs (Rises k) (addresses k)
unfolding addresses offset_at
all_rise k =
    let root-first : All (Rises k []) (addresses_in k) = all_with (λ a p. omega (arith, inside_above k a p)) (all_inside k) in
    pairs_more root-first (rising k)

-- the addresses below a child are listed
child_listed : {k l : Content} {i t : ℕ} {a : List ℕ} → ChildIs k i t l → Memᴰ a (addresses l) → Memᴰ (i ∷ a) (addresses_in k)
unfolding addresses_in addresses behind_first
child_listed (first_child {r = r}) m = Memᴰ.append_left (map behind_first (addresses_in r)) (member-map (λ (b : List ℕ). zero ∷ b) m)
child_listed (later_child {l = j} c) m = Memᴰ.append_right (map (λ (b : List ℕ). zero ∷ b) ([] ∷ addresses_in j)) (member-map behind_first (child_listed c m))
child_listed (behind_character c) m = child_listed c m

listed : (a : List ℕ) (t : ℕ) (k : Content) {x : Element} → element_at t k a ≡ some x → Memᴰ a (addresses k)
unfolding element_at addresses
listed [] t k e = Memᴰ.head refl
listed (i ∷ a) t k e =
    let it = child_found (λ u l. element_at u l a) k i e in
    Memᴰ.tail (child_listed it.2 (listed a it.0 it.1 it.3))

-- Exactly the addresses of elements are listed,
pub listed_exactly : (k : Content) (a : List ℕ) → Memᴰ a (addresses k) ↔ ((x : Element) × (element_at 0 k a ≡ some x))
listed_exactly k a = (λ m. all_member (all_elements k) m, λ it. listed a 0 k it.1)

-- as many as there are elements.
count_below : (k : Content) → length (addresses_in k) ≡ elements k
unfolding addresses_in elements
count_below end = refl
count_below (char c r) = count_below r
count_below (elem t k r) =
    omega
    (arith, length-append (map (λ (a : List ℕ). zero ∷ a) (addresses_in k)) (map behind_first (addresses_in r)), length-map (addresses_in k) (λ (a : List ℕ). zero ∷ a), length-map (addresses_in r) behind_first, count_below k, count_below r)

-- an element's offset tells which it is
pub offset_tells : (k : Content) (a b : List ℕ) {x y : Element} → element_at 0 k a ≡ some x → element_at 0 k b ≡ some y → offset_at k a ≡ offset_at k b → a ≡ b
offset_tells k a b e f same = told_by_number (offset_at k) (all_rise k) (listed a 0 k e) (listed b 0 k f) same

type_told : (a : List ℕ) (t : ℕ) (k : Content) {x : Element} → element_at t k a ≡ some x → type_at t k a ≡ x.type
unfolding element_at type_at
type_told [] t k {x} e =
    let same : element_with t k ≡ x = cc in
    ap (λ (y : Element). y.type) same
type_told (i ∷ a) t k e =
    let it = child_found (λ u l. element_at u l a) k i e in
    at_child_lem 0 (λ u l. type_at u l a) it.2 ∙ type_told a it.0 it.1 it.3

-- in the bytes of a document it opens there
pub opens_in_lem : (k : Content) (a : List ℕ) {x : Element} → element_at 0 k a ≡ some x → TypedAt (document 0 k) (offset_at k a) x.type x.holds
opens_in_lem k a {x} e =
    subst (λ (at : ℕ). TypedAt (document 0 k) at x.type x.holds) (zero-add (offset_at k a)) (element_opens (document 0 k) a (root_opens k) e)

opens_as : (k : Content) (a : List ℕ) {x : Element} → element_at 0 k a ≡ some x → OpensAs (document 0 k) (offset_at k a) x.type
opens_as k a {x} e = let it = opens_in_lem k a e in (x.holds, it.0, it.1)

module _ (X : Setting) (v : Valid X) (k : Content) (h : Holds X.source (kind_of X.source 0) k) where
  pub correspondences_count : length (correspondences X k) ≡ 1 + elements k
  unfolding correspondences addresses
  correspondences_count = omega (arith, length-map (addresses k) (correspondence X k), count_below k)

  pub correspondences_in_order : Pairs (λ p q. p.offset < q.offset) (correspondences X k)
  unfolding correspondences correspondence
  correspondences_in_order = pairs-map (correspondence X k) (all_rise k)

  pub correspondences_in_source : All (λ p. OpensAs (document 0 k) p.offset p.type) (correspondences X k)
  unfolding correspondences
  correspondences_in_source = all_map (correspondence X k) (all_with in_source (all_elements k))
    where
      in_source : (a : List ℕ) → IsElement k a → OpensAs (document 0 k) (correspondence X k a).offset (correspondence X k a).type
      in_source a it = unfold correspondence in rw (type_told a 0 k it.1) (opens_as k a it.1)

  pub correspondences_in_image : All (λ p. OpensAs (document 0 (image X k)) p.image_offset (target_of X.embedding p.type)) (correspondences X k)
  unfolding correspondences
  correspondences_in_image = all_map (correspondence X k) (all_with in_image (all_elements k))
    where
      in_image : (a : List ℕ) → IsElement k a → OpensAs (document 0 (image X k)) (correspondence X k a).image_offset (target_of X.embedding (correspondence X k a).type)
      in_image a it = unfold correspondence in rw (type_told a 0 k it.1) (opens_as (image X k) (stands_at X 0 k a) (each_stands X v k h a it.1))

  pub correspondences_apart : Pairs (λ p q. p.image_offset ≡ q.image_offset → ⊥) (correspondences X k)
  unfolding correspondences
  correspondences_apart = pairs-map (correspondence X k) (pairs_with apart (all_elements k) (all_rise k))
    where
      apart : (a b : List ℕ) → IsElement k a → IsElement k b → Rises k a b → (correspondence X k a).image_offset ≡ (correspondence X k b).image_offset → ⊥
      apart a b p q rises same =
          let there : stands_at X 0 k a ≡ stands_at X 0 k b =
          offset_tells (image X k) (stands_at X 0 k a) (stands_at X 0 k b) (each_stands X v k h a p.1) (each_stands X v k h b q.1) (unfold correspondence in same) in
          omega (arith, rises, ap (offset_at k) (none_share X v k h a b p.1 q.1 there))
