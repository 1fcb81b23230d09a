-- What reading a conforming target document yields, where it yields something, conforms to the source table.
-- Following a path in conforming content ends at content that conforms to the type at the path's end.
use Rattle.std.specs.Prelude.{◌≡◌, Bool, true, false, ◌↔◌, length, eqb}
use Rattle.std.proofs.Math.Path.{refl, sym, subst}
use Rattle.std.proofs.Common.{ap, ◌∙◌, arith, eqb-true}
use mathlib.Core.List.{List, [], ◌∷◌, Memᴰ}
use Rattle.std.proofs.Math.Option.{Option, none, some}
use Prim.Native.Nat.{ℕ, zero, suc, ◌<◌}
use Rattle.model.specs.Definitions.Basics.{entry, and_then}
use Rattle.model.specs.Definitions.Commands.{Need, needed, optional}
use Rattle.model.specs.Definitions.Table.{Kind, text, empty, sequence, choice, list, Table, kind_of, members_of, step_from}
use Rattle.model.specs.Definitions.Content.{Content, end, char, elem}
use Rattle.model.specs.Definitions.Conformance.{Holds, nothing, no_member, one_member, chosen, left_out, no_item, one_item}
use Rattle.model.specs.Definitions.Embedding.{target_of, paths_of, first_path, next, end_of, divide, Divided, before_choice}
use Rattle.model.specs.Definitions.EmbeddingChecks.{max_steps}
use Rattle.model.specs.Definitions.Image.{Setting}
use Rattle.model.specs.Definitions.Inverse.{child_at, child_of_type, first_item, enter, follow}
use Rattle.model.proofs.Theorems.PlainReading.{plain_one, plain_members, plain_if_there, plain_choice, plain_unless_empty, plain_items, plain_list, plain_kind, plain_to}
use Rattle.model.proofs.Theorems.Facts.{Walks, MemberPath, Along, along_none, along_both, ValidEdges, text_edge, no_edge, sequence_edges, choice_edges, list_edge, Valid}
use Rattle.model.proofs.Theorems.Tools.{some_none, pick_true, pick_false}
use Rattle.model.proofs.Theorems.Placing.{walks_step, walks_rest, GoodParts, divide_good, AtList, divide_at_list}
use Rattle.model.proofs.Theorems.ImageConforms.{is_text_lem, text_anywhere, list_left}

-- ---- one path

-- something handed on was there
pub and_then_lem : {A B : Type 0} (o : Option A) (f : A → Option B) {b : B} → and_then o f ≡ some b → (a : A) × (o ≡ some a) × (f a ≡ some b)
unfolding and_then
and_then_lem none f e = some_none e refl
and_then_lem (some a) f e = (a, refl, e)

-- child q of a sequence conforms to member q
child_holds : (T : Table) (q m : ℕ) {ms : List ℕ} {k j : Content} → Holds T (sequence ms) k → entry q ms ≡ some m → child_at k q ≡ some j → Holds T (kind_of T m) j
unfolding entry child_at
child_holds T q m no_member e f = some_none f refl
child_holds T zero m (one_member hk hr) e f = some_none f refl
child_holds T (suc zero) m {j = j} (one_member {m = n} {k = k} hk hr) e f =
    let m-is : n ≡ m = cc in
    let j-is : k ≡ j = cc in
    subst (λ (i : Content). Holds T (kind_of T m) i) j-is (subst (λ (t : ℕ). Holds T (kind_of T t) k) m-is hk)
child_holds T (suc (suc q)) m (one_member hk hr) e f = child_holds T (suc q) m hr e f

-- the child of a choice that has a type conforms to it
chosen_holds : (T : Table) (m : ℕ) {need : Need} {ms : List ℕ} {k j : Content} → Holds T (choice need ms) k → child_of_type k m ≡ some j → Holds T (kind_of T m) j
unfolding child_of_type
chosen_holds T m left_out f = some_none f refl
chosen_holds T m {j = j} (chosen {m = n} {k = k} there hk) f = go (eqb m n) refl
  where
    go : (b : Bool) → eqb m n ≡ b → Holds T (kind_of T m) j
    go true e =
        let same : some k ≡ some j = sym (pick_true (eqb m n) (some k) none e) ∙ f in
        let j-is : k ≡ j = cc in
        subst (λ (i : Content). Holds T (kind_of T m) i) j-is (subst (λ (t : ℕ). Holds T (kind_of T t) k) (sym (eqb-true m n e)) hk)
    go false e = some_none f (pick_false (eqb m n) (some k) none e)

-- the first item of a list conforms to its item type
item_holds : (T : Table) (m : ℕ) {k j : Content} → Holds T (list m) k → first_item k ≡ some j → Holds T (kind_of T m) j
unfolding first_item
item_holds T m no_item f = some_none f refl
item_holds T m {j = j} (one_item {k = k} hk hr) f = let j-is : k ≡ j = cc in subst (λ (i : Content). Holds T (kind_of T m) i) j-is hk

pub only_item : (q n m : ℕ) → entry q (n ∷ []) ≡ some m → n ≡ m
unfolding entry
only_item zero n m e = some_none e refl
only_item (suc zero) n m e = cc
only_item (suc (suc q)) n m e = some_none e refl

-- a step leads to content that conforms to the type that it leads to
pub enter_holds : (T : Table) (q m : ℕ) (κ : Kind) {k j : Content} → Holds T κ k → step_from κ q ≡ some m → enter κ q m k ≡ some j → Holds T (kind_of T m) j
unfolding enter step_from members_of
enter_holds T q m text h e f = some_none f refl
enter_holds T q m empty h e f = some_none f refl
enter_holds T q m (sequence ms) h e f = child_holds T q m h e f
enter_holds T q m (choice need ms) h e f = chosen_holds T m h f
enter_holds T q m (list n) {j = j} h e f = subst (λ (t : ℕ). Holds T (kind_of T t) j) (only_item q n m e) (item_holds T n h f)

-- following a path in conforming content ends at conforming content
pub follow_holds : (T : Table) (τ : ℕ) (path : List ℕ) (k j : Content) → Walks T τ path → Holds T (kind_of T τ) k → follow T τ path k ≡ some j
    → Holds T (kind_of T (end_of T τ path)) j
unfolding follow end_of
follow_holds T τ [] k j w h f = let j-is : k ≡ j = cc in subst (λ (i : Content). Holds T (kind_of T τ) i) j-is h
follow_holds T τ (q ∷ path) k j w h f =
    let found = and_then_lem (enter (kind_of T τ) q (next T τ q) k) (λ inside. follow T (next T τ q) path inside) f in
    follow_holds T (next T τ q) path found.0 j (walks_rest w) (enter_holds T q (next T τ q) (kind_of T τ) h (walks_step w) found.1) found.2

-- ---- one source element

-- what was read as an element and what comes after it
pub record ReadParts (read : ℕ → Content → Option Content) (m : ℕ) (found rest : Option Content) (k : Content) : Type 0 where
  pub image : Content
  pub inside : Content
  pub after : Content
  pub was_found : found ≡ some image
  pub was_read : read m image ≡ some inside
  pub was_after : rest ≡ some after
  pub made : elem m inside after ≡ k

pub read_parts_lem : (read : ℕ → Content → Option Content) (m : ℕ) (found rest : Option Content) (k : Content) → plain_one read m found rest ≡ some k → ReadParts read m found rest k
unfolding plain_one
read_parts_lem read m found rest k e =
    let first = and_then_lem found (λ a. and_then (read m a) (λ i. and_then rest (λ r. some (elem m i r)))) e in
    let second = and_then_lem (read m first.0) (λ i. and_then rest (λ r. some (elem m i r))) first.2 in
    let third = and_then_lem rest (λ r. some (elem m second.0 r)) second.2 in
    let made-it : some (elem m second.0 third.0) ≡ some k = third.2 in
    record { image = first.0; inside = second.0; after = third.0; was_found = first.1; was_read = second.1; was_after = third.1; made = cc }

module _ (X : Setting) (read : ℕ → Content → Option Content) where
  -- reading an element of type m from conforming content yields conforming content
  abbrev ReadHolds : ℕ → Type 0
  ReadHolds m = (a k : Content) → Holds X.target (kind_of X.target (target_of X.embedding m)) a → read m a ≡ some k → Holds X.source (kind_of X.source m) k

  -- from conforming content, along a member's path, to conforming content of the member
  pub member_holds : (τ m : ℕ) (κ : Kind) (ps : List ℕ) (k a : Content) → MemberPath X τ κ m ps → Holds X.target (kind_of X.target τ) k → follow X.target τ ps k ≡ some a
      → Holds X.target (kind_of X.target (target_of X.embedding m)) a
  member_holds τ m κ ps k a g h f = subst (λ (t : ℕ). Holds X.target (kind_of X.target t) a) g.ends (follow_holds X.target τ ps k a g.good.walks h f)

  members_read : (τ : ℕ) (κ : Kind) (k : Content) → Holds X.target (kind_of X.target τ) k → {ms : List ℕ} {pss : List (List ℕ)} {j : Content} → Along (MemberPath X τ κ) ms pss
      → ((m : ℕ) → Memᴰ m ms → ReadHolds m) → plain_members read (λ p. follow X.target τ p k) ms pss ≡ some j → Holds X.source (sequence ms) j
  unfolding plain_members
  members_read τ κ k h {j = j} along_none rec e = let j-is : end ≡ j = cc in subst (λ (i : Content). Holds X.source (sequence []) i) j-is no_member
  members_read τ κ k h {j = j} (along_both {a = m} {b = ps} {xs = ms} {ys = pss} g al) rec e =
      let parts : ReadParts read m (follow X.target τ ps k) (plain_members read (λ p. follow X.target τ p k) ms pss) j = read_parts_lem read m _ _ j e in
      subst (λ (i : Content). Holds X.source (sequence (m ∷ ms)) i) parts.made
      (one_member
      (rec m (Memᴰ.head refl) parts.image parts.inside (member_holds τ m κ ps k parts.image g h parts.was_found) parts.was_read)
      (members_read τ κ k h al (λ n there. rec n (Memᴰ.tail there)) parts.was_after))

  -- what is read of a choice is a member that conforms
  choice_read : (τ : ℕ) (κ : Kind) (need : Need) (all : List ℕ) (k : Content) → Holds X.target (kind_of X.target τ) k → {ms : List ℕ} {pss : List (List ℕ)} {j : Content}
      → Along (MemberPath X τ κ) ms pss → ((m : ℕ) → Memᴰ m ms → Memᴰ m all × ReadHolds m)
      → plain_choice read (λ p. follow X.target τ p k) ms pss ≡ some j → Holds X.source (choice need all) j
  unfolding plain_choice
  choice_read τ κ need all k h along_none rec e = some_none e refl
  choice_read τ κ need all k h {j = j} (along_both {a = m} {b = ps} {xs = ms} {ys = pss} g al) rec e =
      go (follow X.target τ ps k) refl (choice_read τ κ need all k h al (λ n there. rec n (Memᴰ.tail there))) e
    where
      go : (o : Option Content) → follow X.target τ ps k ≡ o
          → (plain_choice read (λ p. follow X.target τ p k) ms pss ≡ some j → Holds X.source (choice need all) j)
          → plain_if_there read m o (plain_choice read (λ p. follow X.target τ p k) ms pss) ≡ some j → Holds X.source (choice need all) j
      go none f later e = unfold plain_if_there in later e
      go (some a) f later e =
          let parts : ReadParts read m (some a) (some end) j = read_parts_lem read m (some a) (some end) j (unfold plain_if_there in e) in
          let image-is : some a ≡ some parts.image = parts.was_found in
          let after_is : some end ≡ some parts.after = parts.was_after in
          let ended : parts.after ≡ end = cc in
          let same : follow X.target τ ps k ≡ some parts.image = f ∙ image-is in
          let made : elem m parts.inside end ≡ j = sym (ap (elem m parts.inside) ended) ∙ parts.made in
          subst (λ (i : Content). Holds X.source (choice need all) i) made
          (chosen (rec m (Memᴰ.head refl)).0
          ((rec m (Memᴰ.head refl)).1 parts.image parts.inside (member_holds τ m κ ps k parts.image g h same) parts.was_read))

  -- an optional choice reads as nothing, or as a choice does
  unless_empty_lem : (ms : List ℕ) (o member : Option Content) (j : Content) → (member ≡ some j → Holds X.source (choice optional ms) j)
      → plain_unless_empty o member ≡ some j → Holds X.source (choice optional ms) j
  unfolding plain_unless_empty
  unless_empty_lem ms none member j read-member e = read-member e
  unless_empty_lem ms (some end) member j read-member e = let j-is : end ≡ j = cc in subst (λ (i : Content). Holds X.source (choice optional ms) i) j-is left_out
  unless_empty_lem ms (some (char c r)) member j read-member e = read-member e
  unless_empty_lem ms (some (elem t k r)) member j read-member e = read-member e

  -- so what is read of a choice of either kind conforms
  choice_kind_read : (need : Need) (ms : List ℕ) (τ : ℕ) (pss : List (List ℕ)) (k j : Content)
      → (plain_choice read (λ p. follow X.target τ p k) ms pss ≡ some j → Holds X.source (choice need ms) j)
      → plain_kind read X.target (choice need ms) τ pss k ≡ some j → Holds X.source (choice need ms) j
  unfolding plain_kind
  choice_kind_read needed ms τ pss k j read-member e = read-member e
  choice_kind_read optional ms τ pss k j read-member e = unless_empty_lem ms _ _ j read-member e

  items_read : (m τ : ℕ) (rest : List ℕ) → Walks X.target τ rest → end_of X.target τ rest ≡ target_of X.embedding m → ReadHolds m → {items j : Content}
      → Holds X.target (list τ) items → plain_items read (follow X.target τ rest) m items ≡ some j → Holds X.source (list m) j
  unfolding plain_items
  items_read m τ rest w ends rec {j = j} no_item e = let j-is : end ≡ j = cc in subst (λ (i : Content). Holds X.source (list m) i) j-is no_item
  items_read m τ rest w ends rec {j = j} (one_item {k = k} {r = r} hk hr) e =
      let parts : ReadParts read m (follow X.target τ rest k) (plain_items read (follow X.target τ rest) m r) j = read_parts_lem read m _ _ j e in
      let held : Holds X.target (kind_of X.target (target_of X.embedding m)) parts.image =
      subst (λ (t : ℕ). Holds X.target (kind_of X.target t) parts.image) ends (follow_holds X.target τ rest k parts.image w hk parts.was_found) in
      subst (λ (i : Content). Holds X.source (list m) i) parts.made
      (one_item (rec parts.image parts.inside held parts.was_read) (items_read m τ rest w ends rec hr parts.was_after))

  -- what a source element of a kind holds, read from conforming content, conforms
  kind_read : (τ : ℕ) (k j : Content) {κ : Kind} {pss : List (List ℕ)} → ValidEdges X τ κ pss → Holds X.target (kind_of X.target τ) k
      → ((m : ℕ) → Memᴰ m (members_of κ) → ReadHolds m) → plain_kind read X.target κ τ pss k ≡ some j → Holds X.source κ j
  unfolding plain_kind members_of first_path plain_list
  kind_read τ k j (text_edge {ps = ps} g t) h rec e =
      let held : Holds X.target (kind_of X.target (end_of X.target τ ps)) j = follow_holds X.target τ ps k j g.walks h e in
      text_anywhere X.source (subst (λ (κ : Kind). Holds X.target κ j) (is_text_lem _ t) held)
  kind_read τ k j no_edge h rec e = let j-is : end ≡ j = cc in subst (λ (i : Content). Holds X.source empty i) j-is nothing
  kind_read τ k j (sequence_edges {ms = ms} al pr) h rec e = members_read τ (sequence ms) k h al rec e
  kind_read τ k j (choice_edges {need = need} {ms = ms} {pss = pss} al pr sh) h rec e =
      choice_kind_read need ms τ pss k j (choice_read τ (choice need ms) need ms k h al (λ m there. (there, rec m there))) e
  kind_read τ k j (list_edge {m = m} {ps = ps} g) h rec e =
      let d : Divided = divide X.target τ ps in
      let parts : GoodParts X.target τ max_steps d = divide_good X.target τ max_steps ps g.good.walks g.good.short in
      let at : AtList X.target τ ps d = divide_at_list X.target τ ps g.good.walks (list_left g.good) in
      let found = and_then_lem (follow X.target τ d.before k) (λ items. plain_items read (follow X.target d.item d.rest) m items) e in
      let held : Holds X.target (kind_of X.target (end_of X.target τ d.before)) found.0 = follow_holds X.target τ d.before k found.0 parts.before_walks h found.1 in
      items_read m d.item d.rest parts.rest_walks (at.same_end ∙ g.ends) (rec m (Memᴰ.head refl))
      (subst (λ (κ : Kind). Holds X.target κ found.0) at.is_list_lem held) found.2

-- What reading conforming target content yields conforms to the source table.
pub read_holds : (X : Setting) → Valid X → (n s : ℕ) (k j : Content) → s < length X.source → Holds X.target (kind_of X.target (target_of X.embedding s)) k
    → plain_to X n s k ≡ some j → Holds X.source (kind_of X.source s) j
unfolding plain_to
read_holds X v zero s k j exists h e = some_none e refl
read_holds X v (suc n) s k j exists h e =
    kind_read X (λ t i. plain_to X n t i) (target_of X.embedding s) k j (v.edges s exists) h
    (λ m there a i. read_holds X v n m a i (v.source_sound.well_formed.members_exist s m there)) e

-- ---- an optional choice that reads as nothing

-- an element that is read is something
one_some : (read : ℕ → Content → Option Content) (m : ℕ) (found rest : Option Content) → plain_one read m found rest ≡ some end → ⊥
unfolding plain_one
one_some read m found rest e =
    let inner = and_then_lem found _ e in
    let inside = and_then_lem (read m inner.0) _ inner.2 in
    let after = and_then_lem rest _ inside.2 in
    let z : ◌≡◌ {A = ℕ} 0 1 = (let same = after.2 in cc) in
    absurd (omega arith)

-- and so is the member of a choice
member_some : (read : ℕ → Content → Option Content) (at : List ℕ → Option Content) (ms : List ℕ) (pss : List (List ℕ)) → plain_choice read at ms pss ≡ some end → ⊥
unfolding plain_choice
member_some read at [] pss e = some_none e refl
member_some read at (m ∷ ms) [] e = some_none e refl
member_some read at (m ∷ ms) (p ∷ pss) e = go (at p) e (member_some read at ms pss)
  where
    go : (found : Option Content) → plain_if_there read m found (plain_choice read at ms pss) ≡ some end → (plain_choice read at ms pss ≡ some end → ⊥) → ⊥
    go none e later = unfold plain_if_there in later e
    go (some k) e later = unfold plain_if_there in one_some read m (some k) (some end) e

-- It reads as nothing exactly where the optional choice that its paths agree on is there and empty.
pub nothing_exactly : (X : Setting) (n s : ℕ) (ms : List ℕ) (k : Content) → kind_of X.source s ≡ choice optional ms
    → (plain_to X (suc n) s k ≡ some end)
    ↔ (follow X.target (target_of X.embedding s) (before_choice X.target (target_of X.embedding s) (first_path (paths_of X.embedding s))) k ≡ some end)
unfolding plain_to plain_kind
nothing_exactly X n s ms k kind =
    (λ e. go (follow X.target τ shared k) (rw kind at e), λ e. rw (kind, e) (unfold plain_unless_empty in refl))
  where
    τ : ℕ
    τ = target_of X.embedding s

    shared : List ℕ
    shared = before_choice X.target τ (first_path (paths_of X.embedding s))

    go : (found : Option Content)
        → plain_unless_empty found (plain_choice (λ t inside. plain_to X n t inside) (λ p. follow X.target τ p k) ms (paths_of X.embedding s)) ≡ some end → found ≡ some end
    go none e = unfold plain_unless_empty in absurd (member_some _ _ ms _ e)
    go (some end) e = refl
    go (some (char c r)) e = unfold plain_unless_empty in absurd (member_some _ _ ms _ e)
    go (some (elem t j r)) e = unfold plain_unless_empty in absurd (member_some _ _ ms _ e)
