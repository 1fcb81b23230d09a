-- What is kept of target content is what the paths of the source content that was read of it build: the image of that source content
-- without its filler. And what is kept is what was there, with elements and characters left out.
--
-- What is kept and the image without filler are made by two builders. They are compared by the builder that makes both side by side,
-- so that there is one row of placements, and one image, to speak about.
use Rattle.std.specs.Prelude.{◌≡◌, Bool, length}
use Rattle.std.proofs.Math.Path.{refl, sym, subst}
use Rattle.std.proofs.Common.{ap, ap₂, ◌∙◌, add-suc, suc-add, arith, eqb-true, eq-eqb, ne_eqb}
use Rattle.std.proofs.Math.Bool.{true, false}
use mathlib.Core.List.{List, [], ◌∷◌, map, Memᴰ}
use Rattle.std.proofs.Math.Option.{Option, none, some}
use Prim.Native.Nat.{ℕ, zero, suc, ◌+◌, ◌≤◌, ◌<◌}
use Rattle.std.proofs.Math.Nat.{add-zero}
use Rattle.std.proofs.Math.Dec.{eqb}
use Rattle.model.specs.Definitions.Basics.{entry}
use Rattle.model.specs.Definitions.Commands.{Need, needed, optional}
use Rattle.model.specs.Definitions.Table.{Kind, text, empty, sequence, choice, list, Table, kind_of, members_of, step_from}
use Rattle.model.specs.Definitions.Heights.{heights}
use Rattle.model.specs.Definitions.Content.{Content, end, char, elem}
use Rattle.model.specs.Definitions.Conformance.{Holds, no_character, one_character, no_member, one_member, chosen, left_out, no_item, one_item}
use Rattle.model.specs.Definitions.Embedding.{target_of, paths_of, first_path, next, end_of, divide, Divided, before_choice}
use Rattle.model.specs.Definitions.EmbeddingChecks.{max_steps}
use Rattle.model.specs.Definitions.Filler.{Builder, known, fill_members, fill_kind, fill_to, fillers}
use Rattle.model.specs.Definitions.Image.{Setting, Placement, placed, under, is_placed, grow_members, grow_kind, grow, place, Child, letter, element, letters_of, along_paths, path_of_member, along_choice, items_of, along_list, placements, image_of_element, children, image_by}
use Rattle.model.specs.Definitions.Inverse.{child_at, child_of_type, first_item, enter, follow}
use Rattle.model.specs.Definitions.LeftOut.{keep_character, keep_element, kept, on_paths}
use Rattle.model.specs.Definitions.ValidTable.{Distinct}
use Rattle.model.proofs.Theorems.Facts.{Walks, MemberPath, Along, along_none, along_both, All, all_none, all_more, ValidEdges, text_edge, no_edge, sequence_edges, choice_edges, list_edge, Valid, Fits, nothing_placed, right_here, below_sequence, below_choice, below_list}
use Rattle.model.proofs.Theorems.Tools.{true_false, some_none, pick_true, pick_false, one_plus}
use Rattle.model.proofs.Theorems.FillerLaws.{filled, fill_filled}
use Rattle.model.proofs.Theorems.ValidTables.{distinct_later}
use Rattle.model.proofs.Theorems.Placing.{entry_next, item_next, under_all, single_fits, placements_fit, GoodParts, divide_good, AtList, divide_at_list}
use Rattle.model.proofs.Theorems.ImageConforms.{is_text_lem, list_left}
use Rattle.model.proofs.Theorems.PlainReading.{plain_members, plain_if_there, plain_choice, plain_unless_empty, plain_items, plain_list, plain_kind, plain_to}
use Rattle.model.proofs.Theorems.ReadBack.{follow_some}
use Rattle.model.proofs.Theorems.ReadConforms.{and_then_lem, enter_holds, follow_holds, ReadParts, read_parts_lem, member_holds}
use Rattle.model.proofs.Theorems.Measures.{Hom, known_hom, fillers_hom, element_hom}
use Rattle.model.proofs.Theorems.WithoutFiller.{joined, built_element, without_filler}
use Rattle.model.proofs.Theorems.Taken.{LeftOf, nothing_left, letter_left, element_left, element_taken}

-- ---- filler

-- What holds of nothing, and of a filler element where it holds of what it holds and of what follows it, holds of all filler.
module _ {A : Type 0} (B : Builder A) (P : A → Type 0) (on_none : P B.none) (on-filler : (t : ℕ) (k r : A) → P k → P r → P (B.element false t k r)) where
  members_filled : (fs : List A) → ((t : ℕ) → P (known B fs t)) → (ms : List ℕ) → P (fill_members B fs ms)
  unfolding fill_members
  members_filled fs h [] = on_none
  members_filled fs h (m ∷ ms) = on-filler m (known B fs m) (fill_members B fs ms) (h m) (members_filled fs h ms)

  -- one round, for each type of a table
  round_filled : (hs : List ℕ) (fs : List A) → ((t : ℕ) → P (known B fs t)) → (T : Table) (t : ℕ) → P (known B (map (fill_kind B hs fs) T) t)
  unfolding known
  round_filled hs fs h [] t = on_none
  round_filled hs fs h (κ ∷ T) zero = subst P (sym (fill_filled B hs fs κ)) (members_filled fs h (filled hs κ))
  round_filled hs fs h (κ ∷ T) (suc t) = round_filled hs fs h T t

  rounds_filled : (hs : List ℕ) (T : Table) (n t : ℕ) → P (known B (fill_to B hs T n) t)
  unfolding fill_to known
  rounds_filled hs T zero t = on_none
  rounds_filled hs T (suc n) t = round_filled hs (fill_to B hs T n) (rounds_filled hs T n) T t

  pub all_filler : (T : Table) (t : ℕ) → P (known B (fillers B T) t)
  unfolding fillers
  all_filler T t = rounds_filled (heights T) T (length T) t

-- an element that no path builds is passed over, and nothing is kept of it
passed_over : (inside after : Content → Content) → ((k : Content) → after k ≡ end) → (k : Content) → keep_element false inside after k ≡ end
unfolding keep_element
passed_over inside after h end = refl
passed_over inside after h (char c r) = refl
passed_over inside after h (elem t k r) = h r

-- of filler nothing is kept
pub filler_not_kept : (T : Table) (t : ℕ) (k : Content) → known kept (fillers kept T) t k ≡ end
unfolding kept
filler_not_kept T t = all_filler kept (λ f. (k : Content) → f k ≡ end) (λ k. refl) (λ m inside after hi ha. passed_over inside after ha) T t

-- and without filler nothing is left of it
pub filler_without_filler : (T : Table) (t : ℕ) → known without_filler (fillers without_filler T) t ≡ end
unfolding without_filler built_element joined
filler_without_filler T t = all_filler without_filler (λ k. k ≡ end) refl (λ m k r hk hr. rw (hk, hr)) T t

-- ---- both builders side by side

-- what is kept of content, and content without filler
abbrev Both : Type 0
Both = (Content → Content) × Content

unfoldable side_by_side : Builder Both
side_by_side =
    record {
      none = (kept.none, without_filler.none);
      letter = λ c r. (kept.letter c r.0, without_filler.letter c r.1);
      element = λ built t k r. (kept.element built t k.0 r.0, without_filler.element built t k.1 r.1);
    }

first_hom : Hom side_by_side kept (λ b. b.0)
unfolding side_by_side
first_hom = record { on_none = refl; on_letter = λ c r. refl; on_element = λ built t k r. refl }

second_hom : Hom side_by_side without_filler (λ b. b.1)
unfolding side_by_side
second_hom = record { on_none = refl; on_letter = λ c r. refl; on_element = λ built t k r. refl }

-- what is kept of k is the content beside it
abbrev Agrees : Both → Content → Type 0
Agrees b k = b.0 k ≡ b.1

-- nothing is kept of anything, and there is nothing beside it
record Blank (b : Both) : Type 0 where
  keeps_nothing : (k : Content) → b.0 k ≡ end
  holds_nothing : b.1 ≡ end

-- filler is so
filler_blank : (T : Table) (t : ℕ) → Blank (known side_by_side (fillers side_by_side T) t)
filler_blank T t =
    record {
      keeps_nothing = λ k. ap (λ (f : Content → Content). f k) first ∙ filler_not_kept T t k;
      holds_nothing = second ∙ filler_without_filler T t;
    }
  where
    first : (known side_by_side (fillers side_by_side T) t).0 ≡ known kept (fillers kept T) t
    first = known_hom side_by_side kept (λ b. b.0) first_hom (fillers side_by_side T) t ∙ ap (λ (fs : List (Content → Content)). known kept fs t) (fillers_hom side_by_side kept (λ b. b.0) first_hom T)

    second : (known side_by_side (fillers side_by_side T) t).1 ≡ known without_filler (fillers without_filler T) t
    second = known_hom side_by_side without_filler (λ b. b.1) second_hom (fillers side_by_side T) t ∙ ap (λ (fs : List Content). known without_filler fs t) (fillers_hom side_by_side without_filler (λ b. b.1) second_hom T)

-- behind the last part nothing is kept
none_agrees : (k : Content) → Agrees side_by_side.none k
unfolding side_by_side kept without_filler
none_agrees k = refl

-- an element that a path builds is kept; one that none builds is passed over, and nothing is built for it
element_agrees : (built : Bool) (t : ℕ) (i r : Both) (k s : Content) → Agrees i k → (built ≡ false → i.1 ≡ end) → Agrees r s
    → Agrees (side_by_side.element built t i r) (elem t k s)
unfolding side_by_side kept keep_element without_filler built_element joined
element_agrees true t i r k s hi blank hr = ap₂ (elem t) hi hr
element_agrees false t i r k s hi blank hr = rw (blank refl) hr

-- ---- one target element

module _ (T : Table) where
  -- what is placed agrees with what stands at the end of its path
  abbrev Found : ℕ → Content → Placement Both → Type 0
  Found τ k (placed path b) = (c : Content) × (follow T τ path k ≡ some c) × Agrees b c

  one_found : (τ : ℕ) (k : Content) (path : List ℕ) (b : Both) (c : Content) → follow T τ path k ≡ some c → Agrees b c → All (Found τ k) (placed path b ∷ [])
  one_found τ k path b c f a = all_more {a = placed path b} (c, f, a) all_none

  -- at the end of a path without steps stands the whole
  here_agrees : (τ : ℕ) (k : Content) (b : Both) → Found τ k (placed [] b) → Agrees b k
  unfolding follow
  here_agrees τ k b f =
      let found : some k ≡ some f.0 = f.1 in
      let same : f.0 ≡ k = cc in
      rw same at f.2

  -- what is beyond a step is found behind it
  found_under : (τ q m : ℕ) (k c : Content) (ps : List (Placement Both)) → next T τ q ≡ m → enter (kind_of T τ) q (next T τ q) k ≡ some c
      → All (Found τ k) ps → All (Found m c) (under q ps)
  found_under τ q m k c ps to f al =
      under_all (Found τ k) (Found m c) q
      (λ path b h. (h.0, ap (λ (t : ℕ). follow T t path c) (sym to) ∙ sym (follow_some T τ q path k c f) ∙ h.1, h.2)) ps al

  -- a placement's first step is there
  first_entered : (τ q : ℕ) (path : List ℕ) (b : Both) (k : Content) {ps : List (Placement Both)} → All (Found τ k) (placed (q ∷ path) b ∷ ps)
      → (c : Content) × (enter (kind_of T τ) q (next T τ q) k ≡ some c)
  unfolding follow
  first_entered τ q path b k (all_more h al) =
      let found = and_then_lem (enter (kind_of T τ) q (next T τ q) k) (λ inside. follow T (next T τ q) path inside) h.1 in
      (found.0, found.1)

  -- the members of a sequence from member number p on
  members_agree : (inside : ℕ → List (Placement Both) → Both) (ps : List (Placement Both)) (p : ℕ) {ms : List ℕ} {k : Content} → Holds T (sequence ms) k
      → ((j m : ℕ) (c : Content) → entry (suc j) ms ≡ some m → child_at k (suc j) ≡ some c → Agrees (inside m (under (p + j) ps)) c)
      → ((m i : ℕ) → is_placed (under i ps) ≡ false → (inside m (under i ps)).1 ≡ end)
      → Agrees (grow_members side_by_side inside ps p ms) k
  unfolding grow_members entry child_at
  members_agree inside ps p no_member f blank = none_agrees end
  members_agree inside ps p (one_member {m = m} {ms = ms} {k = k} {r = r} hk hr) f blank =
      element_agrees (is_placed (under p ps)) m (inside m (under p ps)) (grow_members side_by_side inside ps (suc p) ms) k r
      (rw add-zero at (f 0 m k refl refl)) (blank m p)
      (members_agree inside ps (suc p) hr
      (λ j n c e g. subst (λ (i : ℕ). Agrees (inside n (under i ps)) c) (add-suc p j ∙ sym (suc-add p j)) (f (suc j) n c e g)) blank)

  -- the member of a choice that a path leads to
  chosen_agrees : (t : ℕ) (i : Both) {need : Need} {ms : List ℕ} {k c : Content} → Holds T (choice need ms) k → child_of_type k t ≡ some c → Agrees i c
      → Agrees (side_by_side.element true t i side_by_side.none) k
  unfolding child_of_type
  chosen_agrees t i left_out f h = some_none f refl
  chosen_agrees t i {c = c} (chosen {m = m} {k = k} there hk) f h = go (eqb t m) refl
    where
      go : (b : Bool) → eqb t m ≡ b → Agrees (side_by_side.element true t i side_by_side.none) (elem m k end)
      go true e =
          let same : some k ≡ some c = sym (pick_true (eqb t m) (some k) none e) ∙ f in
          let c-is : c ≡ k = cc in
          subst (λ (u : ℕ). Agrees (side_by_side.element true t i side_by_side.none) (elem u k end)) (eqb-true t m e)
          (element_agrees true t i side_by_side.none k end (rw c-is at h) (λ no. true_false refl no) (none_agrees end))
      go false e = some_none f (pick_false (eqb t m) (some k) none e)

  -- the first item of a list; the others are left out
  item_agrees : (m : ℕ) (i : Both) {k c : Content} → Holds T (list m) k → first_item k ≡ some c → Agrees i c
      → Agrees (side_by_side.element true m i side_by_side.none) k
  unfolding first_item
  item_agrees m i no_item f h = some_none f refl
  item_agrees m i {c = c} (one_item {k = k} {r = r} hk hr) f h =
      let c-is : c ≡ k = cc in
      element_agrees true m i side_by_side.none k r (rw c-is at h) (λ no. true_false refl no) (none_agrees r)

  module _ (fs : List Both) (blank : (t : ℕ) → Blank (known side_by_side fs t)) where
    -- where nothing is placed, nothing is built
    unplaced-blank : (n τ : ℕ) (ps : List (Placement Both)) → is_placed ps ≡ false → (grow side_by_side T fs n τ ps).1 ≡ end
    unfolding is_placed grow side_by_side without_filler
    unplaced-blank zero τ [] e = refl
    unplaced-blank (suc n) τ [] e = (blank τ).holds_nothing
    unplaced-blank n τ (p ∷ ps) e = true_false refl e

    -- What is kept of conforming content, along paths that are all there in it, is what the paths build.
    grow-agrees : {n τ : ℕ} {ps : List (Placement Both)} (k : Content) → Fits T n τ ps → Holds T (kind_of T τ) k → All (Found τ k) ps
        → Agrees (grow side_by_side T fs n τ ps) k
    unfolding grow grow_kind enter step_from members_of entry
    grow-agrees k (nothing_placed {τ = τ}) h al = (blank τ).keeps_nothing k ∙ sym (blank τ).holds_nothing
    grow-agrees k (right_here {τ = τ} {a = a}) h (all_more f al) = here_agrees τ k a f
    grow-agrees k (below_sequence {n = n} {τ = τ} {q = q} {path = path} {a = a} {ps = ps} ms e st sub) h al =
        rw e
        (members_agree (λ m qs. grow side_by_side T fs n m qs) (placed (q ∷ path) a ∷ ps) 1 (rw e at h)
        (λ j m c g f.
        let entered : enter (kind_of T τ) (suc j) (next T τ (suc j)) k ≡ some c = rw e f in
        let to : next T τ (suc j) ≡ m = entry_next T τ (suc j) m e g in
        rw (one_plus j)
        (grow-agrees c (sub (suc j) m g) (enter_holds T (suc j) m (sequence ms) (rw e at h) g f) (found_under τ (suc j) m k c (placed (q ∷ path) a ∷ ps) to entered al)))
        (λ m i e. unplaced-blank n m (under i (placed (q ∷ path) a ∷ ps)) e))
    grow-agrees k (below_choice {n = n} {τ = τ} {q = q} {path = path} {a = a} {ps = ps} need ms e w st sub) h al =
        let entered = first_entered τ q path a k al in
        let c : Content = entered.0 in
        let found : enter (choice need ms) q (next T τ q) k ≡ some c = rw e at entered.1 in
        rw e
        (chosen_agrees (next T τ q) (grow side_by_side T fs n (next T τ q) (under q (placed (q ∷ path) a ∷ ps))) (rw e at h) found
        (grow-agrees c sub (enter_holds T q (next T τ q) (choice need ms) (rw e at h) w found) (found_under τ q (next T τ q) k c (placed (q ∷ path) a ∷ ps) refl entered.1 al)))
    grow-agrees k (below_list {n = n} {τ = τ} {path = path} {a = a} {ps = ps} m e st sub) h al =
        let entered = first_entered τ 1 path a k al in
        let c : Content = entered.0 in
        let found : enter (list m) 1 (next T τ 1) k ≡ some c = rw e at entered.1 in
        rw e
        (item_agrees m (grow side_by_side T fs n m (under 1 (placed (1 ∷ path) a ∷ ps))) (rw e at h) found
        (grow-agrees c sub (enter_holds T 1 m (list m) (rw e at h) refl found) (found_under τ 1 m k c (placed (1 ∷ path) a ∷ ps) (item_next T τ m e) entered.1 al)))

-- ---- one source element

-- characters are kept as they are
letters_agree : {S : Table} (X : Setting) (fs : List Both) {k : Content} → Holds S text k → Agrees (letters_of side_by_side (children side_by_side X fs k)) k
unfolding letters_of children side_by_side kept keep_character without_filler
letters_agree X fs no_character = refl
letters_agree X fs (one_character {c = c} a h) = ap (char c) (letters_agree X fs h)

-- what the path of a choice's member is, where its type isn't that of the first
later_path : (t m : ℕ) (ms ps : List ℕ) (pss : List (List ℕ)) → eqb t m ≡ false → path_of_member t (m ∷ ms) (ps ∷ pss) ≡ path_of_member t ms pss
unfolding path_of_member
later_path t m ms ps pss e = pick_false (eqb t m) ps (path_of_member t ms pss) e

first_path_lem : (m : ℕ) (ms ps : List ℕ) (pss : List (List ℕ)) → path_of_member m (m ∷ ms) (ps ∷ pss) ≡ ps
unfolding path_of_member
first_path_lem m ms ps pss = pick_true (eqb m m) ps (path_of_member m ms pss) (eq-eqb m m refl)

-- of distinct types the first is none of the others
first_differs : (m t p : ℕ) (ms : List ℕ) → Distinct (m ∷ ms) → entry (suc p) ms ≡ some t → eqb t m ≡ false
unfolding Distinct entry
first_differs m t p ms d there = ne_eqb t m (λ same. let first : some m ≡ some t = cc in omega (arith, d 1 (suc (suc p)) t first there))

module _ (X : Setting) (fs : List Both) (blank : (t : ℕ) → Blank (known side_by_side fs t)) (read : ℕ → Content → Option Content) where
  -- what the image of an element of type t that holds j keeps, and holds without filler
  abbrev image_of : ℕ → Content → Both
  image_of t j = image_of_element side_by_side X fs t (children side_by_side X fs j)

  -- of what an element of type m is read from, what is kept is the image without filler
  abbrev ReadAgrees : ℕ → Type 0
  ReadAgrees m = (k j : Content) → Holds X.target (kind_of X.target (target_of X.embedding m)) k → read m k ≡ some j → Agrees (image_of m j) k

  -- what a sequence places is found, member by member
  members_found : (τ : ℕ) (κ : Kind) (k : Content) → Holds X.target (kind_of X.target τ) k → {ms : List ℕ} {pss : List (List ℕ)} {j : Content} → Along (MemberPath X τ κ) ms pss
      → ((m : ℕ) → Memᴰ m ms → ReadAgrees m) → plain_members read (λ p. follow X.target τ p k) ms pss ≡ some j
      → All (Found X.target τ k) (along_paths pss (children side_by_side X fs j))
  unfolding plain_members along_paths children
  members_found τ κ k h along_none rec e = all_none
  members_found τ κ k h {j = j} (along_both {a = m} {b = ps} {xs = ms} {ys = pss} g al) rec e =
      let parts : ReadParts read m (follow X.target τ ps k) (plain_members read (λ p. follow X.target τ p k) ms pss) j = read_parts_lem read m _ _ j e in
      subst (λ (i : Content). All (Found X.target τ k) (along_paths (ps ∷ pss) (children side_by_side X fs i))) parts.made
      (all_more
      (parts.image, parts.was_found, rec m (Memᴰ.head refl) parts.image parts.inside (member_holds X read τ m κ ps k parts.image g h parts.was_found) parts.was_read)
      (members_found τ κ k h al (λ n there. rec n (Memᴰ.tail there)) parts.was_after))

  -- the member of a choice that was read, found at the end of the path of its type
  record MemberRead (τ : ℕ) (k : Content) (ms : List ℕ) (pss : List (List ℕ)) (j : Content) : Type 0 where
    member : ℕ
    inside : Content
    before : ℕ
    among : entry (suc before) ms ≡ some member
    found : Found X.target τ k (placed (path_of_member member ms pss) (image_of member inside))
    made : elem member inside end ≡ j

  -- the first member whose path is there has the path of its type, since no other member has that type
  choice_member : (τ : ℕ) (κ : Kind) (k : Content) → Holds X.target (kind_of X.target τ) k → {ms : List ℕ} {pss : List (List ℕ)} {j : Content}
      → Along (MemberPath X τ κ) ms pss → Distinct ms → ((m : ℕ) → Memᴰ m ms → ReadAgrees m)
      → plain_choice read (λ p. follow X.target τ p k) ms pss ≡ some j → MemberRead τ k ms pss j
  unfolding plain_choice entry
  choice_member τ κ k h along_none d rec e = some_none e refl
  choice_member τ κ k h {j = j} (along_both {a = m} {b = ps} {xs = ms} {ys = pss} g al) d rec e =
      go (follow X.target τ ps k) refl (choice_member τ κ k h al (distinct_later m ms d) (λ n there. rec n (Memᴰ.tail there))) e
    where
      go : (o : Option Content) → follow X.target τ ps k ≡ o
          → (plain_choice read (λ p. follow X.target τ p k) ms pss ≡ some j → MemberRead τ k ms pss j)
          → plain_if_there read m o (plain_choice read (λ p. follow X.target τ p k) ms pss) ≡ some j → MemberRead τ k (m ∷ ms) (ps ∷ pss) j
      go none f later e =
          let r = later (unfold plain_if_there in e) in
          let path-is : path_of_member r.member (m ∷ ms) (ps ∷ pss) ≡ path_of_member r.member ms pss =
          later_path r.member m ms ps pss (first_differs m r.member r.before ms d r.among) in
          record {
            member = r.member;
            inside = r.inside;
            before = suc r.before;
            among = r.among;
            found = rw path-is r.found;
            made = r.made;
          }
      go (some a) f later e =
          let parts : ReadParts read m (some a) (some end) j = read_parts_lem read m (some a) (some end) j (unfold plain_if_there in e) in
          let image-is : some a ≡ some parts.image = parts.was_found in
          let after_is : some end ≡ some parts.after = parts.was_after in
          let ended : parts.after ≡ end = cc in
          let same : follow X.target τ ps k ≡ some parts.image = f ∙ image-is in
          record {
            member = m;
            inside = parts.inside;
            before = 0;
            among = refl;
            found = rw (first_path_lem m ms ps pss)
                (parts.image, same, rec m (Memᴰ.head refl) parts.image parts.inside (member_holds X read τ m κ ps k parts.image g h same) parts.was_read);
            made = sym (ap (elem m parts.inside) ended) ∙ parts.made;
          }

  -- What a choice places is found: its member at the end of its path, or, of an optional one that reads as nothing, nothing in the
  -- empty choice at the end of the shared steps.
  choice_found : (τ : ℕ) (need : Need) (k : Content) → Holds X.target (kind_of X.target τ) k → {ms : List ℕ} {pss : List (List ℕ)} {j : Content}
      → Along (MemberPath X τ (choice need ms)) ms pss → Distinct ms → ((m : ℕ) → Memᴰ m ms → ReadAgrees m)
      → plain_kind read X.target (choice need ms) τ pss k ≡ some j
      → All (Found X.target τ k) (along_choice side_by_side (before_choice X.target τ (first_path pss)) ms pss (children side_by_side X fs j))
  unfolding along_choice children plain_kind
  choice_found τ need k h {ms} {pss} {j} al d rec e = by-need need e
    where
      shared : List ℕ
      shared = before_choice X.target τ (first_path pss)

      by_member : plain_choice read (λ p. follow X.target τ p k) ms pss ≡ some j
          → All (Found X.target τ k) (along_choice side_by_side shared ms pss (children side_by_side X fs j))
      by_member f =
          let r = choice_member τ _ k h al d rec f in
          subst (λ (i : Content). All (Found X.target τ k) (along_choice side_by_side shared ms pss (children side_by_side X fs i))) r.made (all_more r.found all_none)

      unless_empty_lem : (o : Option Content) → follow X.target τ shared k ≡ o → plain_unless_empty o (plain_choice read (λ p. follow X.target τ p k) ms pss) ≡ some j
          → All (Found X.target τ k) (along_choice side_by_side shared ms pss (children side_by_side X fs j))
      unless_empty_lem none f e = unfold plain_unless_empty in by_member e
      unless_empty_lem (some end) f e =
          let read-nothing : some end ≡ some j = unfold plain_unless_empty in e in
          let j-is : end ≡ j = cc in
          subst (λ (i : Content). All (Found X.target τ k) (along_choice side_by_side shared ms pss (children side_by_side X fs i))) j-is (one_found X.target τ k shared side_by_side.none end f (none_agrees end))
      unless_empty_lem (some (char c r)) f e = unfold plain_unless_empty in by_member e
      unless_empty_lem (some (elem t i r)) f e = unfold plain_unless_empty in by_member e

      by-need : (need : Need) → plain_kind read X.target (choice need ms) τ pss k ≡ some j
          → All (Found X.target τ k) (along_choice side_by_side shared ms pss (children side_by_side X fs j))
      by-need needed e = by_member e
      by-need optional e = unless_empty_lem (follow X.target τ shared k) refl e

  -- each item of the list that a path leads to, and what its rest builds below it
  items_agree : (m : ℕ) (d : Divided) → Walks X.target d.item d.rest → length d.rest ≤ max_steps → end_of X.target d.item d.rest ≡ target_of X.embedding m → ReadAgrees m
      → {items j : Content} → Holds X.target (list d.item) items → plain_items read (follow X.target d.item d.rest) m items ≡ some j
      → Agrees (items_of side_by_side (place side_by_side X.target fs d.item) d (children side_by_side X fs j)) items
  unfolding plain_items items_of children place
  items_agree m d w short ends rec {j = j} no_item e =
      let j-is : end ≡ j = cc in
      subst (λ (i : Content). Agrees (items_of side_by_side (place side_by_side X.target fs d.item) d (children side_by_side X fs i)) end) j-is (none_agrees end)
  items_agree m d w short ends rec {j = j} (one_item {k = k} {r = r} hk hr) e =
      let parts : ReadParts read m (follow X.target d.item d.rest k) (plain_items read (follow X.target d.item d.rest) m r) j = read_parts_lem read m _ _ j e in
      let held : Holds X.target (kind_of X.target (target_of X.embedding m)) parts.image =
      subst (λ (t : ℕ). Holds X.target (kind_of X.target t) parts.image) ends (follow_holds X.target d.item d.rest k parts.image w hk parts.was_found) in
      let below : Agrees (place side_by_side X.target fs d.item (placed d.rest (image_of m parts.inside) ∷ [])) k =
      grow-agrees X.target fs blank k (single_fits X.target max_steps _ w short) hk
      (one_found X.target d.item k d.rest _ parts.image parts.was_found (rec parts.image parts.inside held parts.was_read)) in
      subst (λ (i : Content). Agrees (items_of side_by_side (place side_by_side X.target fs d.item) d (children side_by_side X fs i)) (elem d.item k r)) parts.made
      (element_agrees true d.item _ (items_of side_by_side (place side_by_side X.target fs d.item) d (children side_by_side X fs parts.after)) k r below
      (λ no. true_false refl no) (items_agree m d w short ends rec hr parts.was_after))

  -- what is placed below the image of a source element that was read is found in what it was read from
  kind_found : (τ : ℕ) (k j : Content) {κ : Kind} {pss : List (List ℕ)} → ValidEdges X τ κ pss → ((need : Need) (ms : List ℕ) → κ ≡ choice need ms → Distinct ms)
      → Holds X.target (kind_of X.target τ) k → ((m : ℕ) → Memᴰ m (members_of κ) → ReadAgrees m) → plain_kind read X.target κ τ pss k ≡ some j
      → All (Found X.target τ k) (placements side_by_side X.target fs κ τ pss (children side_by_side X fs j))
  unfolding plain_kind members_of first_path plain_list placements along_list
  kind_found τ k j (text_edge {ps = ps} g t) d h rec e =
      let held : Holds X.target (kind_of X.target (end_of X.target τ ps)) j = follow_holds X.target τ ps k j g.walks h e in
      one_found X.target τ k ps _ j e (letters_agree X fs (subst (λ (κ : Kind). Holds X.target κ j) (is_text_lem _ t) held))
  kind_found τ k j no_edge d h rec e = all_none
  kind_found τ k j (sequence_edges {ms = ms} al pr) d h rec e = members_found τ (sequence ms) k h al rec e
  kind_found τ k j (choice_edges {need = need} {ms = ms} al pr sh) d h rec e = choice_found τ need k h al (d need ms refl) rec e
  kind_found τ k j (list_edge {m = m} {ps = ps} g) d h rec e =
      let at : Divided = divide X.target τ ps in
      let parts : GoodParts X.target τ max_steps at = divide_good X.target τ max_steps ps g.good.walks g.good.short in
      let there : AtList X.target τ ps at = divide_at_list X.target τ ps g.good.walks (list_left g.good) in
      let found = and_then_lem (follow X.target τ at.before k) (λ items. plain_items read (follow X.target at.item at.rest) m items) e in
      let held : Holds X.target (kind_of X.target (end_of X.target τ at.before)) found.0 = follow_holds X.target τ at.before k found.0 parts.before_walks h found.1 in
      let items : Agrees (items_of side_by_side (place side_by_side X.target fs at.item) at (children side_by_side X fs j)) found.0 =
      items_agree m at parts.rest_walks parts.rest_short (there.same_end ∙ g.ends) (rec m (Memᴰ.head refl))
      (subst (λ (κ : Kind). Holds X.target κ found.0) there.is_list_lem held) found.2 in
      one_found X.target τ k at.before _ found.0 found.1 items

-- ---- all elements

module _ (X : Setting) (v : Valid X) (fs : List Both) (blank : (t : ℕ) → Blank (known side_by_side fs t)) where
  -- what is kept of each element is its image without filler
  read_agrees : (n s : ℕ) (k j : Content) → s < length X.source → Holds X.target (kind_of X.target (target_of X.embedding s)) k
      → plain_to X n s k ≡ some j → Agrees (image_of_element side_by_side X fs s (children side_by_side X fs j)) k
  unfolding plain_to image_of_element place Distinct
  read_agrees zero s k j exists h e = some_none e refl
  read_agrees (suc n) s k j exists h e =
      grow-agrees X.target fs blank k (placements_fit side_by_side X fs (target_of X.embedding s) (kind_of X.source s) (paths_of X.embedding s) (children side_by_side X fs j) (v.edges s exists)) h
      (kind_found X fs blank (λ t i. plain_to X n t i) (target_of X.embedding s) k j (v.edges s exists) (v.source_sound.well_formed.choices_distinct s) h
      (λ m there a i. read_agrees n m a i (v.source_sound.well_formed.members_exist s m there)) e)

-- What is kept of a conforming target element is the image, without its filler, of what was read of it.
pub kept_is_bare : (X : Setting) → Valid X → (n s : ℕ) (k j : Content) → s < length X.source → Holds X.target (kind_of X.target (target_of X.embedding s)) k
    → plain_to X n s k ≡ some j
    → image_of_element kept X (fillers kept X.target) s (children kept X (fillers kept X.target) j) k
    ≡ image_of_element without_filler X (fillers without_filler X.target) s (children without_filler X (fillers without_filler X.target) j)
kept_is_bare X v n s k j exists h e =
    sym (ap (λ (f : Content → Content). f k) (element_hom side_by_side kept (λ b. b.0) first_hom X s j))
    ∙ read_agrees X v (fillers side_by_side X.target) (filler_blank X.target) n s k j exists h e
    ∙ element_hom side_by_side without_filler (λ b. b.1) second_hom X s j

-- ---- what is kept was there

-- What holds of nothing, and of a character and of an element where it holds of their parts, holds of all that a builder makes.
module _ {A : Type 0} (B : Builder A) (P : A → Type 0) (on_none : P B.none) (on_letter : (c : ℕ) (r : A) → P r → P (B.letter c r)) (on_element : (built : Bool) (t : ℕ) (k r : A) → P k → P r → P (B.element built t k r)) where
  abbrev OfPlacement : Placement A → Type 0
  OfPlacement (placed path a) = P a

  abbrev OfChild : Child A → Type 0
  OfChild (letter c) = Unit {0}
  OfChild (element t a) = P a

  letters_built : (ks : List (Child A)) → P (letters_of B ks)
  unfolding letters_of
  letters_built [] = on_none
  letters_built (letter c ∷ ks) = on_letter c (letters_of B ks) (letters_built ks)
  letters_built (element t a ∷ ks) = letters_built ks

  members_built : (inside : ℕ → List (Placement A) → A) (ps : List (Placement A)) → ((m i : ℕ) → P (inside m (under i ps))) → (p : ℕ) (ms : List ℕ)
      → P (grow_members B inside ps p ms)
  unfolding grow_members
  members_built inside ps h p [] = on_none
  members_built inside ps h p (m ∷ ms) = on_element (is_placed (under p ps)) m (inside m (under p ps)) (grow_members B inside ps (suc p) ms) (h m p) (members_built inside ps h (suc p) ms)

  kind_built : (inside : ℕ → List (Placement A) → A) (ps : List (Placement A)) → ((m i : ℕ) → P (inside m (under i ps))) → (p τ : ℕ) (κ : Kind)
      → P (grow_kind B inside ps p τ κ)
  unfolding grow_kind
  kind_built inside ps h p τ text = on_none
  kind_built inside ps h p τ empty = on_none
  kind_built inside ps h p τ (sequence ms) = members_built inside ps h 1 ms
  kind_built inside ps h p τ (choice need ms) = on_element true τ (inside τ (under p ps)) B.none (h τ p) on_none
  kind_built inside ps h p τ (list m) = on_element true m (inside m (under p ps)) B.none (h m p) on_none

  along_built : (pss : List (List ℕ)) (ks : List (Child A)) → All OfChild ks → All OfPlacement (along_paths pss ks)
  unfolding along_paths
  along_built [] ks al = all_none
  along_built (p ∷ pss) [] al = all_none
  along_built (p ∷ pss) (letter c ∷ ks) al = all_none
  along_built (p ∷ pss) (element t a ∷ ks) (all_more h al) = all_more {a = placed p a} h (along_built pss ks al)

  choice_built : (shared ms : List ℕ) (pss : List (List ℕ)) (ks : List (Child A)) → All OfChild ks → All OfPlacement (along_choice B shared ms pss ks)
  unfolding along_choice
  choice_built shared ms pss [] al = all_more {a = placed shared B.none} on_none all_none
  choice_built shared ms pss (letter c ∷ ks) al = all_more {a = placed shared B.none} on_none all_none
  choice_built shared ms pss (element t a ∷ ks) (all_more h al) = all_more {a = placed (path_of_member t ms pss) a} h all_none

  module _ (T : Table) (fs : List A) (filled : (t : ℕ) → P (known B fs t)) where
    grow_built : (n τ : ℕ) (ps : List (Placement A)) → All OfPlacement ps → P (grow B T fs n τ ps)
    unfolding grow
    grow_built zero τ ps al = on_none
    grow_built (suc n) τ [] al = filled τ
    grow_built (suc n) τ (placed [] a ∷ ps) (all_more h al) = h
    grow_built (suc n) τ (placed (p ∷ path) a ∷ ps) al =
        kind_built (λ m qs. grow B T fs n m qs) (placed (p ∷ path) a ∷ ps)
        (λ m i. grow_built n m (under i (placed (p ∷ path) a ∷ ps)) (under_all OfPlacement OfPlacement i (λ other b h. h) (placed (p ∷ path) a ∷ ps) al)) p (next T τ p) (kind_of T τ)

    place-built : (τ : ℕ) (ps : List (Placement A)) → All OfPlacement ps → P (place B T fs τ ps)
    unfolding place
    place-built τ ps al = grow_built (suc max_steps) τ ps al

    items-built : (d : Divided) (ks : List (Child A)) → All OfChild ks → P (items_of B (place B T fs d.item) d ks)
    unfolding items_of
    items-built d [] all_none = on_none
    items-built d (letter c ∷ ks) (all_more h al) = items-built d ks al
    items-built d (element t a ∷ ks) (all_more h al) =
        on_element true d.item _ (items_of B (place B T fs d.item) d ks) (place-built d.item _ (all_more {a = placed d.rest a} h all_none)) (items-built d ks al)

    placements-built : (κ : Kind) (τ : ℕ) (pss : List (List ℕ)) (ks : List (Child A)) → All OfChild ks → All OfPlacement (placements B T fs κ τ pss ks)
    unfolding placements along_list
    placements-built text τ pss ks al = all_more {a = placed (first_path pss) (letters_of B ks)} (letters_built ks) all_none
    placements-built empty τ pss ks al = all_none
    placements-built (sequence ms) τ pss ks al = along_built pss ks al
    placements-built (choice need ms) τ pss ks al = choice_built _ ms pss ks al
    placements-built (list m) τ pss ks al = all_more {a = placed _ _} (items-built _ ks al) all_none

  module _ (X : Setting) (fs : List A) (filled : (t : ℕ) → P (known B fs t)) where
    image-built : (s : ℕ) (ks : List (Child A)) → All OfChild ks → P (image_of_element B X fs s ks)
    unfolding image_of_element
    image-built s ks al = place-built X.target fs filled _ _ (placements-built X.target fs filled (kind_of X.source s) (target_of X.embedding s) (paths_of X.embedding s) ks al)

    children-built : (k : Content) → All OfChild (children B X fs k)
    unfolding children
    children-built end = all_none
    children-built (char c r) = all_more {a = letter c} tt (children-built r)
    children-built (elem t k r) =
        all_more {a = element t (image_of_element B X fs t (children B X fs k))} (image-built t (children B X fs k) (children-built k)) (children-built r)

  all_built : (X : Setting) (k : Content) → P (image_by B X k)
  unfolding image_by
  all_built X k =
      let filled : (t : ℕ) → P (known B (fillers B X.target) t) = all_filler B P on_none (on_element false) X.target in
      image-built X (fillers B X.target) filled 0 (children B X (fillers B X.target) k) (children-built X (fillers B X.target) filled k)

-- a function that only leaves out
abbrev OnlyLeavesOut : (Content → Content) → Type 0
OnlyLeavesOut f = (k : Content) → LeftOf (f k) k

letter_leaves_out : (after : Content → Content) → OnlyLeavesOut after → OnlyLeavesOut (keep_character after)
unfolding keep_character
letter_leaves_out after h end = nothing_left
letter_leaves_out after h (char c r) = letter_left (h r)
letter_leaves_out after h (elem t k r) = nothing_left

element_leaves_out : (on_path : Bool) (inside after : Content → Content) → OnlyLeavesOut inside → OnlyLeavesOut after → OnlyLeavesOut (keep_element on_path inside after)
unfolding keep_element
element_leaves_out on_path inside after hi ha end = nothing_left
element_leaves_out on_path inside after hi ha (char c r) = nothing_left
element_leaves_out true inside after hi ha (elem t k r) = element_left (hi k) (ha r)
element_leaves_out false inside after hi ha (elem t k r) = element_taken (ha r)

-- What is left of target content is that content with elements and characters taken away.
pub kept-left : (X : Setting) (j k : Content) → LeftOf (on_paths X j k) k
unfolding on_paths kept
kept-left X j =
    all_built kept OnlyLeavesOut (λ k. nothing_left) (λ c after h. letter_leaves_out after h) (λ on_path t inside after hi ha. element_leaves_out on_path inside after hi ha) X j
