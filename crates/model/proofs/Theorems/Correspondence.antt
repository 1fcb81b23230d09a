-- 02, N14: each element of a conforming source document stands at an element of the image, of the type that its own is mapped to, and no
-- two stand at the same.
--
-- Following a path in conforming content goes along its child numbers (`followed_element`), and in an image it finds what was placed
-- there. Two children of a source element stand behind child numbers that part, and so does all that stands below them.
use Rattle.std.specs.Prelude.{◌≡◌, Bool, true, false, length, get_or, eqb, ltb}
use Rattle.std.proofs.Math.Path.{refl, ap, subst}
use Rattle.std.proofs.Common.{sym, ap₂, ◌∙◌, arith, eqb-true, ne_eqb, ltb-true, ltb-false}
use mathlib.Core.List.Memᴰ
use mathlib.Core.List.{List, [], ◌∷◌, ◌++◌, append_cancel_left, Memᴰ}
use Rattle.std.proofs.Math.Option.{Option, none, some}
use Prim.Native.Nat.{ℕ, zero, suc, ◌-◌, ◌<◌}
use Rattle.std.proofs.lemmas.Bool.{eqb-false}
use Rattle.model.specs.Definitions.Basics.{entry, some_of}
use Rattle.model.specs.Definitions.Commands.{Need, needed, optional}
use Rattle.model.specs.Definitions.Table.{Kind, text, empty, sequence, choice, list, Table, kind_of, members_of, step_from, is_sequence, is_list}
use Rattle.model.specs.Definitions.Content.{Content, end, char, elem}
use Rattle.model.specs.Definitions.Conformance.{Holds, no_character, one_character, nothing, no_member, one_member, chosen, left_out, no_item, one_item}
use Rattle.model.specs.Definitions.Embedding.{target_of, paths_of, first_path, next, end_of, leaves, Divided, divide}
use Rattle.model.specs.Definitions.EmbeddingChecks.{leaves_only, sequence_or_list, optional_first, right_steps, max_steps}
use Rattle.model.specs.Definitions.Filler.{content, fillers}
use Rattle.model.specs.Definitions.Image.{Setting, Placement, placed, place, path_of_member, along_paths, along_choice, items_of, along_list, placements, image_of_element, children, image, image_by}
use Rattle.model.specs.Definitions.Templates.{at_child}
use Rattle.model.specs.Definitions.Inverse.{child_at, child_of_type, first_item, enter, follow}
use Rattle.model.specs.Definitions.Correspondence.{Element, element_with, element_at, child_number, child_numbers, item_numbers, towards_child, stands_at, image_inside}
use Rattle.model.proofs.Theorems.Facts.{Walks, GoodPath, MemberPath, Along, along_none, along_both, All, all_none, all_more, Pairs, pairs_none, pairs_more, Fits, ValidEdges, text_edge, no_edge, sequence_edges, choice_edges, list_edge, Valid}
use Rattle.model.proofs.Theorems.Tools.{true_false, some_none, pick_true, pick_false, and_left, entry_at}
use Rattle.model.proofs.Theorems.Placing.{list_step, walks_step, walks_rest, leaves_only_lem, Diverge, at_once, later, sequence_diverge, single_fits, placements_fit, path_of_member_lem, GoodParts, divide_good, AtList, divide_at_list}
use Rattle.model.proofs.Theorems.FillerLaws.{filler_conforms}
use Rattle.model.proofs.Theorems.ImageConforms.{list_left, member_ends, image_holds}
use Rattle.model.proofs.Theorems.ReadBack.{follow_placed}
use Rattle.model.proofs.Theorems.ReadConforms.{and_then_lem, only_item, enter_holds}

-- ---- children by their numbers

-- child number i of some content is an element of type t that holds l
pub data ChildIs : Content → ℕ → ℕ → Content → Type 0 where
  first_child : {t : ℕ} {k r : Content} → ChildIs (elem t k r) zero t k
  later_child : {u t i : ℕ} {l k r : Content} → ChildIs r i t k → ChildIs (elem u l r) (suc i) t k
  behind_character : {c i t : ℕ} {k r : Content} → ChildIs r i t k → ChildIs (char c r) i t k

-- what a function makes of it
pub at_child_lem : {A : Type 0} (absent : A) (f : ℕ → Content → A) {k l : Content} {i t : ℕ} → ChildIs k i t l → at_child absent f k i ≡ f t l
unfolding at_child
at_child_lem absent f first_child = refl
at_child_lem absent f (later_child h) = at_child_lem absent f h
at_child_lem absent f (behind_character h) = at_child_lem absent f h

-- where something is made of child number i, it is there
pub child_found : {A : Type 0} (f : ℕ → Content → Option A) (k : Content) (i : ℕ) {x : A} → at_child none f k i ≡ some x
    → (t : ℕ) × (l : Content) × ChildIs k i t l × (f t l ≡ some x)
unfolding at_child
child_found f end i e = some_none e refl
child_found f (char c r) i e = let it = child_found f r i e in (it.0, it.1, behind_character it.2, it.3)
child_found f (elem t k r) zero e = (t, k, first_child, e)
child_found f (elem t k r) (suc i) e = let it = child_found f r i e in (it.0, it.1, later_child it.2, it.3)

-- a child in conforming content conforms, and its type is a member of the kind
pub child_conforms : {S : Table} {κ : Kind} {k l : Content} {i t : ℕ} → Holds S κ k → ChildIs k i t l → Memᴰ t (members_of κ) × Holds S (kind_of S t) l
unfolding members_of
child_conforms no_character c = elim c [ ]
child_conforms (one_character a h) (behind_character c) = child_conforms h c
child_conforms nothing c = elim c [ ]
child_conforms no_member c = elim c [ ]
child_conforms (one_member hk hr) first_child = (Memᴰ.head refl, hk)
child_conforms (one_member hk hr) (later_child c) = let it = child_conforms hr c in (Memᴰ.tail it.0, it.1)
child_conforms (chosen e hk) first_child = (e, hk)
child_conforms (chosen e hk) (later_child c) = elim c [ ]
child_conforms left_out c = elim c [ ]
child_conforms no_item c = elim c [ ]
child_conforms (one_item hk hr) first_child = (Memᴰ.head refl, hk)
child_conforms (one_item hk hr) (later_child c) = child_conforms hr c

-- ---- along addresses

-- an address that begins with a child's number goes on from that child
from_child : (u : ℕ) (a : List ℕ) {k l : Content} {i t : ℕ} → ChildIs k i t l → element_at u k (i ∷ a) ≡ element_at t l a
unfolding element_at
from_child u a c = at_child_lem none (λ t l. element_at t l a) c

-- an address that goes on behind another one
further : (a b : List ℕ) (t : ℕ) (k : Content) {u : ℕ} {l : Content} → element_at t k a ≡ some (element_with u l) → element_at t k (a ++ b) ≡ element_at u l b
unfolding element_at
further [] b t k {u} {l} e =
    let same : element_with t k ≡ element_with u l = cc in
    ap (λ (y : Element). element_at y.type y.holds b) same
further (i ∷ a) b t k e =
    let it = child_found (λ u l. element_at u l a) k i e in
    from_child t (a ++ b) it.2 ∙ further a b it.0 it.1 it.3

-- an element of conforming content conforms
element_conforms : {T : Table} (a : List ℕ) (τ : ℕ) (k : Content) {x : Element} → Holds T (kind_of T τ) k → element_at τ k a ≡ some x → Holds T (kind_of T x.type) x.holds
unfolding element_at
element_conforms {T} [] τ k {x} h e =
    let same : element_with τ k ≡ x = cc in
    subst (λ (y : Element). Holds T (kind_of T y.type) y.holds) same h
element_conforms (i ∷ a) τ k h e =
    let it = child_found (λ u l. element_at u l a) k i e in
    element_conforms a it.0 it.1 (child_conforms h it.2).1 it.3

-- ---- along a path in conforming content

-- child p of a sequence, counted from 1, is of type member p
sequence_child : {T : Table} {ms : List ℕ} {k j : Content} (p m : ℕ) → Holds T (sequence ms) k → entry p ms ≡ some m → child_at k p ≡ some j → ChildIs k (p - 1) m j
unfolding entry child_at
sequence_child p m no_member e f = some_none f refl
sequence_child zero m (one_member hk hr) e f = some_none f refl
sequence_child {j = j} (suc zero) m (one_member {m = n} {k = k} {r = r} hk hr) e f =
    let m-is : n ≡ m = cc in
    let j-is : k ≡ j = cc in
    subst (λ (t : ℕ). ChildIs (elem n k r) 0 t j) m-is (subst (λ (l : Content). ChildIs (elem n k r) 0 n l) j-is first_child)
sequence_child {j = j} (suc (suc p)) m (one_member {m = n} {k = k} {r = r} hk hr) e f =
    let number : suc (suc p - 1) ≡ suc (suc p) - 1 = omega arith in
    subst (λ (i : ℕ). ChildIs (elem n k r) i m j) number (later_child (sequence_child (suc p) m hr e f))

-- the child of a choice that was found by its type
chosen_child : (k : Content) (m : ℕ) {j : Content} → child_of_type k m ≡ some j → ChildIs k 0 m j
unfolding child_of_type
chosen_child end m e = some_none e refl
chosen_child (char c r) m e = some_none e refl
chosen_child (elem t k r) m {j} e = go (eqb m t) refl
  where
    go : (b : Bool) → eqb m t ≡ b → ChildIs (elem t k r) 0 m j
    go true q =
        let found : some k ≡ some j = sym (pick_true (eqb m t) (some k) none q) ∙ e in
        let j-is : k ≡ j = cc in
        subst (λ (u : ℕ). ChildIs (elem t k r) 0 u j) (sym (eqb-true m t q)) (subst (λ (l : Content). ChildIs (elem t k r) 0 t l) j-is first_child)
    go false q = some_none e (pick_false (eqb m t) (some k) none q)

-- the first item of a list
item_child : {T : Table} {m : ℕ} {k j : Content} → Holds T (list m) k → first_item k ≡ some j → ChildIs k 0 m j
unfolding first_item
item_child no_item e = some_none e refl
item_child {m = m} {j = j} (one_item {k = k} {r = r} hk hr) e =
    let j-is : k ≡ j = cc in
    subst (λ (l : Content). ChildIs (elem m k r) 0 m l) j-is first_child

-- A step leads to the child that has its number.
step_child : (T : Table) (p m : ℕ) (κ : Kind) {k j : Content} → Holds T κ k → step_from κ p ≡ some m → enter κ p m k ≡ some j → ChildIs k (child_number κ p) m j
unfolding enter step_from members_of child_number
step_child T p m text h e f = some_none f refl
step_child T p m empty h e f = some_none f refl
step_child T p m (sequence ms) h e f = sequence_child p m h e f
step_child T p m (choice need ms) {k} h e f = chosen_child k m f
step_child T p m (list n) {k} {j} h e f = subst (λ (t : ℕ). ChildIs k 0 t j) (only_item p n m e) (item_child h f)

-- What a path leads to is the element at the path's child numbers, and it has the type at which the path ends.
followed_element : (T : Table) (τ : ℕ) (path : List ℕ) (k j : Content) → Walks T τ path → Holds T (kind_of T τ) k → follow T τ path k ≡ some j
    → element_at τ k (child_numbers T τ path) ≡ some (element_with (end_of T τ path) j)
unfolding follow end_of child_numbers element_at
followed_element T τ [] k j w h f =
    let j-is : k ≡ j = cc in
    ap (λ (l : Content). some (element_with τ l)) j-is
followed_element T τ (p ∷ path) k j w h f =
    let found = and_then_lem (enter (kind_of T τ) p (next T τ p) k) (λ inside. follow T (next T τ p) path inside) f in
    from_child τ (child_numbers T (next T τ p) path) (step_child T p (next T τ p) (kind_of T τ) h (walks_step w) found.1)
    ∙ followed_element T (next T τ p) path found.0 j (walks_rest w) (enter_holds T p (next T τ p) (kind_of T τ) h (walks_step w) found.1) found.2

-- ---- two children

-- child numbers that part stay apart whatever follows them
apart_behind : {X : Type 0} {a b : List ℕ} (c d : List ℕ) → Diverge a b → a ++ c ≡ b ++ d → X
apart_behind {X} c d (at_once {p = p} {q = q} e) same = let first : p ≡ q = cc in absurd (eqb-false p q e first)
apart_behind {X} c d (later {ps = ps} {qs = qs} e h) same = let rest : ps ++ c ≡ qs ++ d = cc in apart_behind c d h rest

-- they part behind a common beginning too
part_behind : (a : List ℕ) {b c : List ℕ} → Diverge b c → Diverge (a ++ b) (a ++ c)
part_behind [] h = h
part_behind (i ∷ a) h = later refl (part_behind a h)

-- two steps from a sequence or a list lead to different children
steps_differ : (κ : Kind) (p q : ℕ) {m n : ℕ} → sequence_or_list κ ≡ true → step_from κ p ≡ some m → step_from κ q ≡ some n → eqb p q ≡ false
    → eqb (child_number κ p) (child_number κ q) ≡ false
unfolding sequence_or_list step_from members_of child_number is_sequence is_list
steps_differ text p q plain e f differ = true_false refl (sym plain)
steps_differ empty p q plain e f differ = true_false refl (sym plain)
steps_differ (sequence ms) p q {m} {n} plain e f differ =
    let first = entry_at 0 p ms m e in
    let second = entry_at 0 q ms n f in
    ne_eqb (p - 1) (q - 1) (λ same. eqb-false p q differ (omega arith))
steps_differ (choice need ms) p q plain e f differ = true_false refl (sym plain)
steps_differ (list m) p q plain e f differ = absurd (eqb-false p q differ (list_step m p e ∙ sym (list_step m q f)))

-- So two paths that part, and leave only sequences and lists, have child numbers that part.
numbers_part : (T : Table) (τ : ℕ) {ps qs : List ℕ} → Walks T τ ps → Walks T τ qs → leaves_only sequence_or_list (leaves T τ ps) ≡ true → Diverge ps qs
    → Diverge (child_numbers T τ ps) (child_numbers T τ qs)
unfolding child_numbers leaves
numbers_part T τ v w plain (at_once {p = p} {q = q} {ps = ps} e) =
    at_once (steps_differ (kind_of T τ) p q (leaves_only_lem sequence_or_list (kind_of T τ) (leaves T (next T τ p) ps) plain).0 (walks_step v) (walks_step w) e)
numbers_part T τ v w plain (later {p = p} {q = q} {ps = ps} {qs = qs} e h) =
    later (ap (child_number (kind_of T τ)) e)
    (subst (λ (r : ℕ). Diverge (child_numbers T (next T τ p) ps) (child_numbers T (next T τ r) qs)) e
    (numbers_part T (next T τ p) (walks_rest v) (subst (λ (r : ℕ). Walks T (next T τ r) qs) (sym e) (walks_rest w)) (leaves_only_lem sequence_or_list (kind_of T τ) (leaves T (next T τ p) ps) plain).1 h))

-- ---- the children of one source element

-- The way to item number i goes on from that item.
from_item : (T : Table) (τ : ℕ) (d : Divided) (k : Content) {u i : ℕ} {items inner : Content} → element_at τ k (child_numbers T τ d.before) ≡ some (element_with u items)
    → ChildIs items i d.item inner → element_at τ k (item_numbers T τ d i) ≡ element_at d.item inner (child_numbers T d.item d.rest)
unfolding item_numbers
from_item T τ d k {u} there item = further (child_numbers T τ d.before) _ τ k there ∙ from_child u (child_numbers T d.item d.rest) item

module _ (X : Setting) (fs : List Content) where
  -- what the image of a source element of type s that holds k holds
  abbrev in_image_lem : ℕ → Content → Content
  in_image_lem s k = image_of_element content X fs s (children content X fs k)

  module _ {R : ℕ → List ℕ → Type 0} where
    -- the path of child number i of a sequence, and what is placed at its end
    member-placed : {ms : List ℕ} {pss : List (List ℕ)} {k l : Content} {i t : ℕ} → Along R ms pss → Holds X.source (sequence ms) k → ChildIs k i t l
        → R t (get_or pss i []) × Memᴰ (placed (get_or pss i []) (in_image_lem t l)) (along_paths pss (children content X fs k))
    unfolding along_paths children
    member-placed along_none no_member c = elim c [ ]
    member-placed (along_both r al) (one_member hk hr) first_child = (r, Memᴰ.head refl)
    member-placed (along_both r al) (one_member hk hr) (later_child c) = let it = member-placed al hr c in (it.0, Memᴰ.tail it.1)

    -- what holds of all paths of a sequence holds of that of child number i
    path-among : {P : List ℕ → Type 0} {ms : List ℕ} {pss : List (List ℕ)} {k l : Content} {i t : ℕ} → Along R ms pss → All P pss
        → Holds X.source (sequence ms) k → ChildIs k i t l → P (get_or pss i [])
    path-among along_none all_none no_member c = elim c [ ]
    path-among (along_both r al) (all_more p ps) (one_member hk hr) first_child = p
    path-among (along_both r al) (all_more p ps) (one_member hk hr) (later_child c) = path-among al ps hr c

    -- and of those of two children what holds of every two
    paths-among : {P : List ℕ → List ℕ → Type 0} {ms : List ℕ} {pss : List (List ℕ)} {k l m : Content} {i j t u : ℕ} → Along R ms pss → Pairs P pss
        → Holds X.source (sequence ms) k → ChildIs k i t l → ChildIs k j u m → i < j → P (get_or pss i []) (get_or pss j [])
    paths-among along_none pairs_none no_member c d less = elim c [ ]
    paths-among (along_both r al) (pairs_more p ps) (one_member hk hr) first_child first_child less = absurd (omega arith)
    paths-among (along_both r al) (pairs_more p ps) (one_member hk hr) first_child (later_child d) less = path-among al p hr d
    paths-among (along_both r al) (pairs_more p ps) (one_member hk hr) (later_child c) first_child less = absurd (omega arith)
    paths-among (along_both r al) (pairs_more p ps) (one_member hk hr) (later_child c) (later_child d) less = paths-among al ps hr c d (omega arith)

  -- item number i of the list that takes the items
  item_placed : (inside : List (Placement Content) → Content) (d : Divided) {k l : Content} {i t : ℕ} → ChildIs k i t l
      → ChildIs (items_of content inside d (children content X fs k)) i d.item (inside (placed d.rest (in_image_lem t l) ∷ []))
  unfolding items_of children content
  item_placed inside d first_child = first_child
  item_placed inside d (later_child c) = later_child (item_placed inside d c)
  item_placed inside d (behind_character c) = item_placed inside d c

  -- what is placed below an element stands at the child numbers of its path
  placed_element : (τ : ℕ) (path : List ℕ) (a : Content) (ps : List (Placement Content)) → Fits X.target (suc max_steps) τ ps → Memᴰ (placed path a) ps
      → Walks X.target τ path → Holds X.target (kind_of X.target τ) (place content X.target fs τ ps)
      → element_at τ (place content X.target fs τ ps) (child_numbers X.target τ path) ≡ some (element_with (end_of X.target τ path) a)
  unfolding place
  placed_element τ path a ps fits mem w h = followed_element X.target τ path _ a w h (follow_placed X.target fs (suc max_steps) τ path a ps fits mem)

  -- a child of a list has the type of its items
  item_type : {m t i : ℕ} {k l : Content} → Holds X.source (list m) k → ChildIs k i t l → t ≡ m
  unfolding members_of
  item_type hk c = Memᴰ.eq_of_singleton (child_conforms hk c).0

  -- the items of a source list, and below item number i the image of child number i
  list_stands : (τ m : ℕ) (ps : List ℕ) {k l : Content} {i t : ℕ} → MemberPath X τ (list m) m ps → Holds X.source (list m) k
      → Holds X.target (kind_of X.target τ) (place content X.target fs τ (along_list content X.target fs (divide X.target τ ps) (children content X fs k)))
      → ChildIs k i t l
      → element_at τ (place content X.target fs τ (along_list content X.target fs (divide X.target τ ps) (children content X fs k)))
      (item_numbers X.target τ (divide X.target τ ps) i) ≡ some (element_with (target_of X.embedding t) (in_image_lem t l))
  unfolding along_list
  list_stands τ m ps {k} {l} {i} {t} g hk h c =
      let d : Divided = divide X.target τ ps in
      let parts : GoodParts X.target τ max_steps d = divide_good X.target τ max_steps ps g.good.walks g.good.short in
      let at : AtList X.target τ ps d = divide_at_list X.target τ ps g.good.walks (list_left g.good) in
      let items = placed_element τ d.before _ _ (single_fits X.target max_steps _ parts.before_walks parts.before_short) (Memᴰ.head refl) parts.before_walks h in
      let item = item_placed (place content X.target fs d.item) d c in
      let held = (child_conforms (element_conforms (child_numbers X.target τ d.before) τ _ h items) item).1 in
      let ends : end_of X.target d.item d.rest ≡ target_of X.embedding t = at.same_end ∙ g.ends ∙ ap (target_of X.embedding) (sym (item_type hk c)) in
      from_item X.target τ d _ items item
      ∙ placed_element d.item d.rest (in_image_lem t l) _ (single_fits X.target max_steps _ parts.rest_walks parts.rest_short) (Memᴰ.head refl) parts.rest_walks held
      ∙ ap (λ (u : ℕ). some (element_with u (in_image_lem t l))) ends

  -- the member of a choice of either kind
  choice_stands : (τ : ℕ) (κ : Kind) (shared : List ℕ) {need : Need} {ms : List ℕ} {pss : List (List ℕ)} {k l : Content} {i t : ℕ} → Along (MemberPath X τ κ) ms pss
      → Holds X.source (choice need ms) k
      → Holds X.target (kind_of X.target τ) (place content X.target fs τ (along_choice content shared ms pss (children content X fs k))) → ChildIs k i t l
      → element_at τ (place content X.target fs τ (along_choice content shared ms pss (children content X fs k))) (child_numbers X.target τ (path_of_member t ms pss))
      ≡ some (element_with (target_of X.embedding t) (in_image_lem t l))
  unfolding along_choice children
  choice_stands τ κ shared {ms = ms} {pss} al (chosen {m = m} {k = k} mem hk) h first_child =
      let good = path_of_member_lem m mem al in
      placed_element τ (path_of_member m ms pss) (in_image_lem m k) _ (single_fits X.target max_steps _ good.walks good.short) (Memᴰ.head refl) good.walks h
      ∙ ap (λ (u : ℕ). some (element_with u (in_image_lem m k))) (member_ends X τ m κ al mem)
  choice_stands τ κ shared al (chosen mem hk) h (later_child c) = elim c [ ]
  choice_stands τ κ shared al left_out h c = elim c [ ]

  -- The image of child number i, of type t, stands at the end of the path that leads to it, and its type is the one that t is mapped to.
  kind_stands : (τ : ℕ) {κ : Kind} {pss : List (List ℕ)} {k l : Content} {i t : ℕ} → ValidEdges X τ κ pss → Holds X.source κ k
      → Holds X.target (kind_of X.target τ) (place content X.target fs τ (placements content X.target fs κ τ pss (children content X fs k)))
      → ChildIs k i t l
      → element_at τ (place content X.target fs τ (placements content X.target fs κ τ pss (children content X fs k))) (towards_child X.target κ τ pss i t)
      ≡ some (element_with (target_of X.embedding t) (in_image_lem t l))
  unfolding placements towards_child first_path members_of
  kind_stands τ (text_edge g e) hk h c = absurd (Memᴰ.not-nil (child_conforms hk c).0)
  kind_stands τ no_edge nothing h c = elim c [ ]
  kind_stands τ {k = k} {l} {i} {t} (sequence_edges {ms = ms} {pss = pss} al pr) hk h c =
      let it = member-placed al hk c in
      placed_element τ (get_or pss i []) (in_image_lem t l) _ (placements_fit content X fs τ (sequence ms) pss (children content X fs k) (sequence_edges al pr)) it.1 it.0.good.walks h
      ∙ ap (λ (u : ℕ). some (element_with u (in_image_lem t l))) it.0.ends
  kind_stands τ (choice_edges {need = need} {ms = ms} al pr sh) hk h c = choice_stands τ (choice need ms) _ al hk h c
  kind_stands τ {k = k} (list_edge {m = m} {ps = ps} g) hk h c = list_stands τ m ps g hk h c

-- ---- two children stand apart

-- a path of a sequence, or of a choice of either kind, has a step
sequence_steps : (ms : List ℕ) → right_steps (sequence ms) [] ≡ false
unfolding right_steps leaves_only some_of
sequence_steps ms = refl

choice_steps_lem : (need : Need) (ms : List ℕ) → right_steps (choice need ms) [] ≡ false
unfolding right_steps some_of optional_first
choice_steps_lem needed ms = refl
choice_steps_lem optional ms = refl

-- so it leads away from where it begins
path_leads_away : (X : Setting) (τ : ℕ) (κ : Kind) (ps c : List ℕ) → right_steps κ [] ≡ false → GoodPath X τ κ ps → child_numbers X.target τ ps ++ c ≡ [] → ⊥
unfolding child_numbers leaves
path_leads_away X τ κ [] c none-wrong g e = true_false g.right none-wrong
path_leads_away X τ κ (p ∷ ps) c none-wrong g e = let z : ◌≡◌ {A = ℕ} 0 1 = cc in omega arith

-- so does the way to an item
middle_there : (a : List ℕ) (i : ℕ) (b c : List ℕ) → (a ++ i ∷ b) ++ c ≡ [] → ⊥
middle_there [] i b c e = let z : ◌≡◌ {A = ℕ} 0 1 = cc in omega arith
middle_there (j ∷ a) i b c e = let z : ◌≡◌ {A = ℕ} 0 1 = cc in omega arith

item_leads_away : (T : Table) (τ : ℕ) (d : Divided) (i : ℕ) (c : List ℕ) → item_numbers T τ d i ++ c ≡ [] → ⊥
unfolding item_numbers
item_leads_away T τ d i c e = middle_there (child_numbers T τ d.before) i _ c e

-- the ways to two items part
items_part : (T : Table) (τ : ℕ) (d : Divided) (i j : ℕ) → i < j → Diverge (item_numbers T τ d i) (item_numbers T τ d j)
unfolding item_numbers
items_part T τ d i j less = part_behind (child_numbers T τ d.before) (at_once (ne_eqb i j (λ same. omega arith)))

module _ (X : Setting) (τ : ℕ) where
  -- a child doesn't stand where its parent does
  away : {κ : Kind} {pss : List (List ℕ)} {k l : Content} {i t : ℕ} (c : List ℕ) → ValidEdges X τ κ pss → Holds X.source κ k → ChildIs k i t l
      → towards_child X.target κ τ pss i t ++ c ≡ [] → ⊥
  unfolding towards_child members_of
  away c (text_edge g x) h child e = Memᴰ.not-nil (child_conforms h child).0
  away c no_edge h child e = Memᴰ.not-nil (child_conforms h child).0
  away c (sequence_edges {ms = ms} al pr) h child e = path_leads_away X τ (sequence ms) _ c (sequence_steps ms) (member-placed X [] al h child).0.good e
  away c (choice_edges {need = need} {ms = ms} al pr sh) h child e =
      path_leads_away X τ (choice need ms) _ c (choice_steps_lem need ms) (path_of_member_lem _ (child_conforms h child).0 al) e
  away {i = i} c (list_edge g) h child e = item_leads_away X.target τ _ i c e

  -- a choice has one child
  only_child : {need : Need} {ms : List ℕ} {k l : Content} {i t : ℕ} → Holds X.source (choice need ms) k → ChildIs k i t l → i ≡ 0
  only_child (chosen mem hk) first_child = refl
  only_child (chosen mem hk) (later_child c) = elim c [ ]
  only_child left_out c = elim c [ ]

  -- the child numbers to two children part
  towards_part : {κ : Kind} {pss : List (List ℕ)} {k l m : Content} {i j t u : ℕ} → ValidEdges X τ κ pss → Holds X.source κ k → ChildIs k i t l → ChildIs k j u m → i < j
      → Diverge (towards_child X.target κ τ pss i t) (towards_child X.target κ τ pss j u)
  unfolding towards_child members_of right_steps
  towards_part (text_edge g x) h c d less = absurd (Memᴰ.not-nil (child_conforms h c).0)
  towards_part no_edge h c d less = absurd (Memᴰ.not-nil (child_conforms h c).0)
  towards_part (sequence_edges {ms = ms} {pss = pss} al pr) h c d less =
      let first = (member-placed X [] al h c).0.good in
      let second = (member-placed X [] al h d).0.good in
      numbers_part X.target τ first.walks second.walks (and_left _ _ first.right) (sequence_diverge X.target τ ms _ _ (paths-among X [] al pr h c d less))
  towards_part (choice_edges al pr sh) h c d less = absurd (omega (arith, only_child h c, only_child h d))
  towards_part {i = i} {j} (list_edge g) h c d less = items_part X.target τ _ i j less

module _ (X : Setting) (v : Valid X) where
  abbrev fill : List Content
  fill = fillers content X.target

  -- from the image of a source element of type s to that of its child number i, of type t
  abbrev towards : ℕ → ℕ → ℕ → List ℕ
  towards s i t = towards_child X.target (kind_of X.source s) (target_of X.embedding s) (paths_of X.embedding s) i t

  -- a child of a source element exists as a type
  child_exists : (s : ℕ) {i t : ℕ} {k l : Content} → Holds X.source (kind_of X.source s) k → ChildIs k i t l → t < length X.source
  child_exists s h c = v.source_sound.well_formed.members_exist s _ (child_conforms h c).0

  -- where a child of a source element stands
  child_stands : (s : ℕ) (k : Content) {l : Content} {i t : ℕ} → s < length X.source → Holds X.source (kind_of X.source s) k → ChildIs k i t l
      → element_at (target_of X.embedding s) (in_image_lem X fill s k) (towards s i t)
      ≡ some (element_with (target_of X.embedding t) (in_image_lem X fill t l))
  unfolding image_of_element
  child_stands s k exists h c =
      kind_stands X fill (target_of X.embedding s) (v.edges s exists) h (image_holds X v fill (filler_conforms X.target v.target_sound) s k exists h) c

  -- an element stands where its image does
  root_stands : (s : ℕ) (k : Content) → stands_at X s k [] ≡ []
  unfolding stands_at
  root_stands s k = refl

  -- where one below it stands begins on the way to the child through which its address goes
  stands_behind : (s i : ℕ) (a : List ℕ) {k l : Content} {t : ℕ} → ChildIs k i t l → stands_at X s k (i ∷ a) ≡ towards s i t ++ stands_at X t l a
  unfolding stands_at
  stands_behind s i a c = at_child_lem [] (λ t l. towards s i t ++ stands_at X t l a) c

  -- Each source element stands at an element of the image, which holds its image and is of the type that its own is mapped to.
  stands_below : (a : List ℕ) (s : ℕ) (k : Content) {x : Element} → s < length X.source → Holds X.source (kind_of X.source s) k → element_at s k a ≡ some x
      → element_at (target_of X.embedding s) (in_image_lem X fill s k) (stands_at X s k a) ≡ some (element_with (target_of X.embedding x.type) (in_image_lem X fill x.type x.holds))
  unfolding element_at stands_at
  stands_below [] s k {x} exists h e =
      let same : element_with s k ≡ x = cc in
      ap (λ (y : Element). some (element_with (target_of X.embedding y.type) (in_image_lem X fill y.type y.holds))) same
  stands_below (i ∷ a) s k exists h e =
      let it = child_found (λ u l. element_at u l a) k i e in
      rw (stands_behind s i a it.2)
      (further (towards s i it.0) (stands_at X it.0 it.1 a) (target_of X.embedding s) (in_image_lem X fill s k) (child_stands s k exists h it.2) ∙ stands_below a it.0 it.1 (child_exists s h it.2) (child_conforms h it.2).1 it.3)

  -- what stands below two children stands apart
  children_apart : (s i j : ℕ) (a b : List ℕ) {k l m : Content} {t u : ℕ} → s < length X.source → Holds X.source (kind_of X.source s) k
      → ChildIs k i t l → ChildIs k j u m → i < j → stands_at X s k (i ∷ a) ≡ stands_at X s k (j ∷ b) → ⊥
  children_apart s i j a b exists h c d less same =
      apart_behind _ _ (towards_part X (target_of X.embedding s) (v.edges s exists) h c d less) (sym (stands_behind s i a c) ∙ same ∙ stands_behind s j b d)

  -- what stands below an element stands apart from it
  parent_apart : (s i : ℕ) (a : List ℕ) (k : Content) {x : Element} → s < length X.source → Holds X.source (kind_of X.source s) k
      → element_at s k (i ∷ a) ≡ some x → stands_at X s k (i ∷ a) ≡ stands_at X s k [] → ⊥
  unfolding element_at
  parent_apart s i a k exists h e same =
      let it = child_found (λ u l. element_at u l a) k i e in
      away X (target_of X.embedding s) (stands_at X it.0 it.1 a) (v.edges s exists) h it.2 (sym (stands_behind s i a it.2) ∙ same ∙ root_stands s k)

  -- No two source elements stand at the same element.
  stand_apart : (a b : List ℕ) (s : ℕ) (k : Content) {x y : Element} → s < length X.source → Holds X.source (kind_of X.source s) k
      → element_at s k a ≡ some x → element_at s k b ≡ some y → stands_at X s k a ≡ stands_at X s k b → a ≡ b
  unfolding element_at
  stand_apart [] [] s k exists h e f same = refl
  stand_apart [] (j ∷ b) s k exists h e f same = absurd (parent_apart s j b k exists h f (sym same))
  stand_apart (i ∷ a) [] s k exists h e f same = absurd (parent_apart s i a k exists h e same)
  stand_apart (i ∷ a) (j ∷ b) s k {x} {y} exists h e f same =
      let it = child_found (λ u l. element_at u l a) k i e in
      let other = child_found (λ u l. element_at u l b) k j f in
      go it other (ltb i j) (ltb j i) refl refl (λ t l z w. stand_apart a b t l {x = z} {y = w})
    where
      Found : ℕ → List ℕ → Element → Type 0
      Found n c z = (t : ℕ) × (l : Content) × ChildIs k n t l × (element_at t l c ≡ some z)

      go : Found i a x → Found j b y → (p q : Bool) → ltb i j ≡ p → ltb j i ≡ q
          → ((t : ℕ) (l : Content) (z w : Element) → t < length X.source → Holds X.source (kind_of X.source t) l → element_at t l a ≡ some z → element_at t l b ≡ some w
          → stands_at X t l a ≡ stands_at X t l b → a ≡ b)
          → i ∷ a ≡ j ∷ b
      go it other true q ep eq rec = absurd (children_apart s i j a b exists h it.2 other.2 (ltb-true i j ep) same)
      go it other false true ep eq rec = absurd (children_apart s j i b a exists h other.2 it.2 (ltb-true j i eq) (sym same))
      go it other false false ep eq rec =
          let number : i ≡ j = omega (arith, ltb-false i j ep, ltb-false j i eq) in
          let found : element_at it.0 it.1 b ≡ some y = sym (from_child s b it.2) ∙ subst (λ (n : ℕ). element_at s k (n ∷ b) ≡ some y) (sym number) f in
          let equal : stands_at X s k (i ∷ a) ≡ stands_at X s k (i ∷ b) = subst (λ (n : ℕ). stands_at X s k (i ∷ a) ≡ stands_at X s k (n ∷ b)) (sym number) same in
          let below : a ≡ b =
          rec it.0 it.1 x y (child_exists s h it.2) (child_conforms h it.2).1 it.3 found
          (append_cancel_left (towards s i it.0) _ _ (sym (stands_behind s i a it.2) ∙ equal ∙ stands_behind s i b it.2)) in
          ap₂ (λ (n : ℕ) (ns : List ℕ). n ∷ ns) number below

  -- ---- documents

  -- Each element of a conforming source document stands at an element of its image, of the type that its own is mapped to, which holds
  -- the image of what it holds,
  pub each_stands : (k : Content) → Holds X.source (kind_of X.source 0) k → (a : List ℕ) {x : Element} → element_at 0 k a ≡ some x
      → element_at 0 (image X k) (stands_at X 0 k a) ≡ some (element_with (target_of X.embedding x.type) (image_inside X x.type x.holds))
  unfolding image image_by image_inside
  each_stands k h a {x} e =
      subst (λ (τ : ℕ). element_at τ (image X k) (stands_at X 0 k a) ≡ some (element_with (target_of X.embedding x.type) (in_image_lem X fill x.type x.holds))) v.root_to_root_lem
      (stands_below a 0 k v.source_sound.well_formed.has_root h e)

  -- and no two at the same.
  pub none_share : (k : Content) → Holds X.source (kind_of X.source 0) k → (a b : List ℕ) {x y : Element} → element_at 0 k a ≡ some x → element_at 0 k b ≡ some y
      → stands_at X 0 k a ≡ stands_at X 0 k b → a ≡ b
  none_share k h a b e f same = stand_apart a b 0 k v.source_sound.well_formed.has_root h e f same
