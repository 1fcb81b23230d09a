-- The offsets that reading counts are those of elements: where the model says that an element stands, it opens in the document's bytes.
use Rattle.std.specs.Prelude.{◌≡◌, Bool, drop}
use Rattle.std.proofs.Math.Path.{refl, sym, ap, subst}
use Rattle.std.proofs.Common.{◌∙◌, drop-drop}
use Rattle.std.proofs.Math.Bool.{true, false}
use mathlib.Core.List.{List, [], ◌∷◌, ◌++◌, append_assoc}
use Rattle.std.proofs.Math.Option.{Option, none, some}
use Prim.Native.Nat.{ℕ, zero, suc, ◌+◌}
use native.Mathlib.Omega.{arith}
use Rattle.std.proofs.Math.ListN.{length}
use Rattle.std.proofs.Math.Seq.{drop-append_seam}
use Rattle.std.proofs.Math.Dec.{eqb}
use Rattle.model.specs.Definitions.Table.{Kind, text, empty, sequence, choice, list, Table, kind_of}
use Rattle.model.specs.Definitions.Content.{Content, end, char, elem, bytes, document, content_of}
use Rattle.model.specs.Definitions.Embedding.{target_of, paths_of, next, Divided}
use Rattle.model.specs.Definitions.Image.{Setting}
use Rattle.model.specs.Definitions.Inverse.{child_at, child_of_type, first_item, enter, Located, located, opened_at, bytes_before, bytes_aside, found_at, enter_at, follow_at, Parts, part_of, if_there, member_parts, choice_parts, item_parts, list_parts, kind_parts}
use Rattle.model.specs.Definitions.Unreadable.{PathMissing, PartAt, first_part, later_part, Unreadable, own_missing, child_missing, Opens}
use Rattle.model.specs.Definitions.Refusals.{unreadable}
use Rattle.model.specs.Definitions.Entries.{refused, setting_of, read_along}
use Rattle.model.proofs.Theorems.Tools.{some_none, pick_true, pick_false}
use Rattle.model.proofs.Theorems.ReadConforms.{and_then_lem}
use Rattle.model.proofs.Theorems.Unreadable.{part_of_choice_kind}
use Rattle.model.proofs.Theorems.OnBytes.{accepted_tree}
use Rattle.model.proofs.Theorems.ReadingOnBytes.{refused_17}

-- what an element holds begins two bytes behind the offset of the element
opened_before : (l : Located) (at : ℕ) → l.at ≡ at + 2 → opened_at l ≡ at
unfolding opened_at
opened_before l at behind = omega arith

module _ (doc : List ℕ) where
  -- the bytes of the content k begin at an offset, and the 32 that closes the element stands after them
  pub record Begins (at : ℕ) (k : Content) : Type 0 where
    pub rest : List ℕ
    pub follows : drop at doc ≡ bytes k ++ 0x32 ∷ rest

  -- the element that l stands for opens in the document
  record Stands (l : Located) : Type 0 where
    start : ℕ
    behind : l.at ≡ start + 2
    opens : Opens doc start l.holds

  -- its offset is the one that reading marks
  stands_opened : {l : Located} → Stands l → Opens doc (opened_at l) l.holds
  stands_opened {l} a = rw (opened_before l a.start a.behind) a.opens

  -- and what it holds begins where l says
  pub begins_inside : {at : ℕ} {k : Content} → Opens doc at k → Begins (at + 2) k
  begins_inside {at} o = record { rest = o.rest; follows = sym (drop-drop 2 at doc) ∙ ap (drop 2) o.stands }

  begins_held : {l : Located} → Stands l → Begins l.at l.holds
  begins_held {l} a = rw a.behind (begins_inside a.opens)

  -- ---- content that begins with an element

  pub element_stands : {at t : ℕ} {k r : Content} (b : Begins at (elem t k r)) → drop at doc ≡ 0x30 ∷ t ∷ (bytes k ++ 0x32 ∷ (bytes r ++ 0x32 ∷ b.rest))
  unfolding bytes
  element_stands {t = t} {k} {r} b = b.follows ∙ ap (λ (bs : List ℕ). 0x30 ∷ t ∷ bs) (append_assoc (bytes k) (0x32 ∷ bytes r) (0x32 ∷ b.rest))

  -- the element opens there
  first_opens : {at t : ℕ} {k r : Content} → Begins at (elem t k r) → Opens doc at k
  first_opens {t = t} {r = r} b = record { type = t; rest = bytes r ++ 0x32 ∷ b.rest; stands = element_stands b }

  -- its 30 and its type, what it holds and its 32 stand before what follows it
  behind_element : (at : ℕ) {t : ℕ} (inside : List ℕ) {more : List ℕ} → drop at doc ≡ 0x30 ∷ t ∷ (inside ++ 0x32 ∷ more) → drop (at + 2 + length inside + 1) doc ≡ more
  behind_element at inside {more} e =
      let held : drop (at + 2) doc ≡ inside ++ 0x32 ∷ more = sym (drop-drop 2 at doc) ∙ ap (drop 2) e in
      let closed : drop (at + 2 + length inside) doc ≡ 0x32 ∷ more = sym (drop-drop (length inside) (at + 2) doc) ∙ ap (drop (length inside)) held ∙ drop-append_seam inside (0x32 ∷ more) in
      sym (drop-drop 1 (at + 2 + length inside) doc) ∙ ap (drop 1) closed

  pub next_begins : {at t : ℕ} {k r : Content} → Begins at (elem t k r) → Begins (at + 2 + length (bytes k) + 1) r
  next_begins {at} {k = k} b = record { rest = b.rest; follows = behind_element at (bytes k) (element_stands b) }

  -- ---- one step

  -- a child opens behind the bytes of those before it
  child_opens : {at : ℕ} (k : Content) (p : ℕ) {j : Content} → Begins at k → child_at k p ≡ some j → Opens doc (at + bytes_before k p) j
  unfolding child_at bytes_before
  child_opens end p b e = some_none e refl
  child_opens (char c r) p b e = some_none e refl
  child_opens (elem t k r) zero b e = some_none e refl
  child_opens {at} (elem t k r) (suc zero) {j} b e =
      let same : j ≡ k = cc in
      let here : at + 0 ≡ at = omega arith in
      rw (same, here) (first_opens b)
  child_opens {at} (elem t k r) (suc (suc p)) {j} b e =
      let further : at + 2 + length (bytes k) + 1 + bytes_before r (suc p) ≡ at + bytes_before (elem t k r) (suc (suc p)) = omega arith in
      subst (λ (there : ℕ). Opens doc there j) further (child_opens {at = at + 2 + length (bytes k) + 1} r (suc p) (next_begins b) e)

  -- the child of a choice, and the first item of a list, are first
  chosen_opens : {at : ℕ} (k : Content) (τ : ℕ) {j : Content} → Begins at k → child_of_type k τ ≡ some j → Opens doc at j
  unfolding child_of_type
  chosen_opens end τ b e = some_none e refl
  chosen_opens (char c r) τ b e = some_none e refl
  chosen_opens {at} (elem t k r) τ {j} b e = go (eqb τ t) refl
    where
      go : (is : Bool) → eqb τ t ≡ is → Opens doc at j
      go true q =
          let found : some k ≡ some j = sym (pick_true (eqb τ t) (some k) none q) ∙ e in
          let same : j ≡ k = cc in
          rw same (first_opens b)
      go false q = some_none e (pick_false (eqb τ t) (some k) none q)

  item_opens : {at : ℕ} (k : Content) {j : Content} → Begins at k → first_item k ≡ some j → Opens doc at j
  unfolding first_item
  item_opens end b e = some_none e refl
  item_opens (char c r) b e = some_none e refl
  item_opens (elem t k r) {j} b e =
      let same : j ≡ k = cc in
      rw same (first_opens b)

  enter_opens : {at : ℕ} (κ : Kind) (p τ : ℕ) (k : Content) {j : Content} → Begins at k → enter κ p τ k ≡ some j → Opens doc (at + bytes_aside κ p k) j
  unfolding enter bytes_aside
  enter_opens text p τ k b e = some_none e refl
  enter_opens empty p τ k b e = some_none e refl
  enter_opens (sequence ms) p τ k b e = child_opens k p b e
  enter_opens {at} (choice need ms) p τ k b e =
      let here : at + 0 ≡ at = omega arith in
      rw here (chosen_opens k τ b e)
  enter_opens {at} (list m) p τ k b e =
      let here : at + 0 ≡ at = omega arith in
      rw here (item_opens k b e)

  -- what is found behind an offset at which it opens
  found_stands : {at : ℕ} (o : Option Content) {a : Located} → ((k : Content) → o ≡ some k → Opens doc at k) → found_at (at + 2) o ≡ some a → Stands a
  unfolding found_at
  found_stands none opens e = some_none e refl
  found_stands {at} (some k) {a} opens e =
      let same : located (at + 2) k ≡ a = cc in
      subst Stands same (record { start = at; behind = refl; opens = opens k refl })

  -- What a step leads to stands where the step says.
  enter_stands : (κ : Kind) (p τ : ℕ) {l a : Located} → Stands l → enter_at κ p τ l ≡ some a → Stands a
  unfolding enter_at
  enter_stands κ p τ {l} there e = found_stands _ (λ k f. enter_opens κ p τ l.holds (begins_held there) f) e

  -- so does what a path leads to
  follow_stands : (T : Table) (τ : ℕ) (ps : List ℕ) (l : Located) {a : Located} → Stands l → follow_at T τ ps l ≡ some a → Stands a
  unfolding follow_at
  follow_stands T τ [] l {a} there e =
      let same : l ≡ a = cc in
      subst Stands same there
  follow_stands T τ (p ∷ ps) l there e =
      let found = and_then_lem (enter_at (kind_of T τ) p (next T τ p) l) (λ inside. follow_at T (next T τ p) ps inside) e in
      follow_stands T (next T τ p) ps found.0 (enter_stands (kind_of T τ) p (next T τ p) there found.1) found.2

  -- ---- the children of a source element

  module _ (at : List ℕ → Option Located) (leads : (ps : List ℕ) (a : Located) → at ps ≡ some a → Stands a) where
    -- a member of a sequence, and that of a choice
    member_stands : (ms : List ℕ) (pss : List (List ℕ)) {i m : ℕ} {a : Located} → PartAt (member_parts at ms pss) i m a → Stands a
    unfolding member_parts part_of
    member_stands [] pss p = elim p [ ]
    member_stands (m ∷ ms) [] p = elim p [ ]
    member_stands (m ∷ ms) (ps ∷ pss) p = go (at ps) refl p (λ j q. member_stands ms pss q)
      where
        go : {i n : ℕ} {a : Located} (o : Option Located) → at ps ≡ o → PartAt (part_of m o (member_parts at ms pss)) i n a
            → ((j : ℕ) → PartAt (member_parts at ms pss) j n a → Stands a) → Stands a
        go none e q rec = elim q [ ]
        go (some l) e first_part rec = leads ps l e
        go (some l) e (later_part q) rec = rec _ q

    chosen-stands : (ms : List ℕ) (pss : List (List ℕ)) {i m : ℕ} {a : Located} → PartAt (choice_parts at ms pss) i m a → Stands a
    unfolding choice_parts if_there
    chosen-stands [] pss p = elim p [ ]
    chosen-stands (m ∷ ms) [] p = elim p [ ]
    chosen-stands (m ∷ ms) (ps ∷ pss) p = go (at ps) refl p (λ j q. chosen-stands ms pss q)
      where
        go : {i n : ℕ} {a : Located} (o : Option Located) → at ps ≡ o → PartAt (if_there m o (choice_parts at ms pss)) i n a
            → ((j : ℕ) → PartAt (choice_parts at ms pss) j n a → Stands a) → Stands a
        go none e q rec = rec _ q
        go (some l) e first_part rec = leads ps l e
        go (some l) e (later_part q) rec = elim q [ ]

  -- the items of a list, each behind those before it
  item_stands : (beyond : Located → Option Located) → ((l a : Located) → Stands l → beyond l ≡ some a → Stands a) → (m at : ℕ) (k : Content) → Begins at k
      → {i n : ℕ} {a : Located} → PartAt (item_parts beyond m at k) i n a → Stands a
  unfolding item_parts part_of
  item_stands beyond leads m at end b p = elim p [ ]
  item_stands beyond leads m at (char c r) b p = elim p [ ]
  item_stands beyond leads m at (elem t k r) b p = go _ refl p (λ j q. item_stands beyond leads m (at + 2 + length (bytes k) + 1) r (next_begins b) q)
    where
      go : {i n : ℕ} {a : Located} {rest : Parts} (o : Option Located) → beyond (located (at + 2) k) ≡ o → PartAt (part_of m o rest) i n a
          → ((j : ℕ) → PartAt rest j n a → Stands a) → Stands a
      go none e q rec = elim q [ ]
      go (some l) e first_part rec = leads (located (at + 2) k) l (record { start = at; behind = refl; opens = first_opens b }) e
      go (some l) e (later_part q) rec = rec _ q

  list_stands : (T : Table) (d : Divided) (m : ℕ) (found : Option Located) → ((b : Located) → found ≡ some b → Stands b)
      → {i n : ℕ} {a : Located} → PartAt (list_parts T d m found) i n a → Stands a
  unfolding list_parts
  list_stands T d m none items p = elim p [ ]
  list_stands T d m (some b) items p =
      item_stands (follow_at T d.item d.rest) (λ l a there e. follow_stands T d.item d.rest l there e) m b.at b.holds (begins_held (items b refl)) p

  -- Each target element that stands for a child of a source element stands where the model says, whatever the content.
  child_stands : (X : Setting) (κ : Kind) (τ : ℕ) (pss : List (List ℕ)) (l : Located) → Stands l → {i m : ℕ} {a : Located} → PartAt (kind_parts X.target κ τ pss l) i m a → Stands a
  unfolding kind_parts
  child_stands X text τ pss l there p = elim p [ ]
  child_stands X empty τ pss l there p = elim p [ ]
  child_stands X (sequence ms) τ pss l there p = member_stands (λ q. follow_at X.target τ q l) (λ q a e. follow_stands X.target τ q l there e) ms pss p
  child_stands X (choice need ms) τ pss l there p =
      chosen-stands (λ q. follow_at X.target τ q l) (λ q a e. follow_stands X.target τ q l there e) ms pss (part_of_choice_kind X τ l need ms pss p)
  child_stands X (list m) τ pss l there p = list_stands X.target _ m _ (λ b e. follow_stands X.target τ _ l there e) p

  -- ---- source elements that can't be read

  -- `at` is the offset of an element that holds content from which the own paths of some source type can't be followed
  abbrev pub UnreadableAt : Setting → ℕ → Type 0
  UnreadableAt X at =
      (σ : ℕ) × (inside : Content) × Opens doc at inside × PathMissing X.target (target_of X.embedding σ) (paths_of X.embedding σ) inside (kind_of X.source σ)

  -- the way down to it goes over children, each of which stands where it is said to
  missing_stands : (X : Setting) {s at : ℕ} {l : Located} {address : List ℕ} → Stands l → Unreadable X s l address at → UnreadableAt X at
  missing_stands X there (own_missing {s = s} {l = l} h) = (s, l.holds, stands_opened there, h)
  missing_stands X there (child_missing {s = s} {l = l} p h) = missing_stands X (child_stands X (kind_of X.source s) _ _ l there p) h

-- ---- documents

-- the root of a document opens at offset 0
pub root_opens : (k : Content) → (o : Opens (document 0 k) 0 k) × (o.type ≡ 0)
unfolding document bytes
root_opens k = (record { type = 0; rest = 0x3F ∷ []; stands = ap (λ (bs : List ℕ). 0x30 ∷ 0 ∷ bs) (append_assoc (bytes k) (0x32 ∷ []) (0x3F ∷ [])) }, refl)

root_stands : (k : Content) → Stands (document 0 k) (located 2 k)
root_stands k = record { start = 0; behind = refl; opens = (root_opens k).0 }

pub unreadable_opens : (X : Setting) (k : Content) (address : List ℕ) (at : ℕ) → Unreadable X 0 (located 2 k) address at → UnreadableAt (document 0 k) X at
unreadable_opens X k address at h = missing_stands (document 0 k) X (root_stands k) h

-- for any bytes
pub mark_17_opens : (s t e tr out : List ℕ) (at : ℕ) → (read_along s t e tr out).result ≡ refused (unreadable at) → UnreadableAt tr (setting_of s t e) at
mark_17_opens s t e tr out at h =
    let all = (refused_17 s t e tr out at).0 h in
    subst (λ (doc : List ℕ). UnreadableAt doc (setting_of s t e) at) (sym (accepted_tree t tr all.1).0)
    (unreadable_opens (setting_of s t e) (content_of tr) all.2.address at all.2.is_unreadable)
