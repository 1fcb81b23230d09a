-- Reading a conforming target document fails exactly where some source element is unreadable, and its mark is the offset of the first
-- of these in document order.
use Rattle.std.proofs.Math.Path.{◌≡◌, refl, ap, subst}
use Rattle.std.proofs.Common.{sym, ap₂, ◌∙◌, arith, eqb-true, ltb-true, ltb-false}
use Rattle.std.specs.Prelude.{Bool, ◌↔◌, ◌⊎◌, eqb, ltb}
use Rattle.std.proofs.Math.Bool.{true, false}
use mathlib.Core.List.Memᴰ
use mathlib.Core.List.{List, [], ◌∷◌, Memᴰ}
use Rattle.std.proofs.Math.Logic.{inl, inr}
use Rattle.std.proofs.Math.Option.{Option, none, some}
use Prim.Native.Nat.{ℕ, zero, suc, ◌+◌, ◌≤◌, ◌<◌}
use Rattle.std.proofs.Math.ListN.{length}
use Rattle.std.proofs.lemmas.Bool.{eqb-false}
use Rattle.model.specs.Definitions.Basics.{entry}
use Rattle.model.specs.Definitions.Commands.{Need, needed, optional}
use Rattle.model.specs.Definitions.Table.{Kind, text, empty, sequence, choice, list, Table, kind_of, members_of, step_from, is_sequence, is_list}
use Rattle.model.specs.Definitions.Content.{Content, end, char, elem, bytes, document, levels}
use Rattle.model.specs.Definitions.Conformance.{Holds, no_member, one_member, no_item, one_item}
use Rattle.model.specs.Definitions.Embedding.{target_of, paths_of, first_path, next, end_of, leaves, divide, divide_at, Divided, before_choice}
use Rattle.model.specs.Definitions.EmbeddingChecks.{max_steps, leaves_only, sequence_or_list, right_steps}
use Rattle.model.specs.Definitions.Image.{Setting}
use Rattle.model.specs.Definitions.Inverse.{child_at, first_item, child_of_type, enter, follow, Located, located, opened_at, follow_at, Parts, done, broken, part, unbroken, part_of, if_there, member_parts, choice_parts, unless_empty, optional_parts, item_parts, list_parts, kind_parts, child_parts, Reading, yields, missing, with_rest, with_element, read_parts, read_unbroken, read_characters, read_children, read_kind, read_to, reading}
use Rattle.model.specs.Definitions.Unreadable.{ItemMissing, no_item_here, no_item_below, HeldByOne, by_first, by_later, PathMissing, text_missing, member_missing, item_missing, no_member_there, PartAt, first_part, later_part, Unreadable, own_missing, child_missing, NotAfter, not_after_below, not_after_later, not_after_same, FirstUnreadable}
use Rattle.model.proofs.Theorems.Facts.{Walks, GoodPath, MemberPath, Along, along_none, along_both, ValidEdges, text_edge, no_edge, sequence_edges, choice_edges, list_edge, Valid}
use Rattle.model.proofs.Theorems.Tools.{true_false, some_none, and_left, pick_true, pick_false}
use Rattle.model.proofs.Theorems.Placing.{entry_nil, list_step, item_next, leaves_only_lem, walks_step, walks_rest, GoodParts, divide_good, AtList, divide_at_list}
use Rattle.model.proofs.Theorems.ImageConforms.{list_left}
use Rattle.model.proofs.Theorems.ReadsPlain.{held_at, follow-held, by_children}
use Rattle.model.proofs.Theorems.ReadBack.{follow_some, first_item_lem}
use Rattle.model.proofs.Theorems.ReadConforms.{and_then_lem, enter_holds, follow_holds}
use Rattle.model.proofs.Theorems.NeverLonger.{sequence_needs_step, choice_needs_step}
use Rattle.model.proofs.Theorems.BringingBack.{levels_below_length}

-- ---- one path

-- where a list that is to be left has no item, a path can't be followed
item_missing_stops : {T : Table} {τ : ℕ} {ps : List ℕ} {k : Content} → ItemMissing T τ ps k → follow T τ ps k ≡ none
item_missing_stops {T} (no_item_here {τ = τ} {m = m} {p = p} {ps = ps} e) = (first_item_lem T τ m p ps e).1
item_missing_stops {T} (no_item_below {τ = τ} {p = p} {ps = ps} {k = k} {inside = inside} e h) = follow_some T τ p ps k inside e ∙ item_missing_stops h

-- each member of a sequence is there in conforming content
member_there_lem : (T : Table) (p m : ℕ) {ms : List ℕ} {k : Content} → Holds T (sequence ms) k → entry p ms ≡ some m → child_at k p ≡ none → ⊥
unfolding entry child_at
member_there_lem T p m no_member e f = some_none e (entry_nil p)
member_there_lem T zero m (one_member hk hr) e f = some_none e refl
member_there_lem T (suc zero) m (one_member hk hr) e f = some_none refl f
member_there_lem T (suc (suc p)) m (one_member hk hr) e f = member_there_lem T (suc p) m hr e f

-- a list without a first item has none
no_first_item : (T : Table) (m : ℕ) {k : Content} → Holds T (list m) k → first_item k ≡ none → k ≡ end
unfolding first_item
no_first_item T m no_item f = refl
no_first_item T m (one_item hk hr) f = some_none refl f

-- a step from a sequence or a list that can't be made in conforming content leaves a list without items
step_missing : (T : Table) (τ p : ℕ) (ps : List ℕ) (κ : Kind) {k : Content} → kind_of T τ ≡ κ → Holds T κ k → step_from κ p ≡ some (next T τ p) → sequence_or_list κ ≡ true
    → enter κ p (next T τ p) k ≡ none → ItemMissing T τ (p ∷ ps) k
unfolding sequence_or_list is_sequence is_list enter step_from members_of
step_missing T τ p ps text e h w s f = true_false s refl
step_missing T τ p ps empty e h w s f = true_false s refl
step_missing T τ p ps (sequence ms) e h w s f = absurd (member_there_lem T p _ h w f)
step_missing T τ p ps (choice need ms) e h w s f = true_false s refl
step_missing T τ p ps (list m) e h w s f = subst (λ (i : Content). ItemMissing T τ (p ∷ ps) i) (sym (no_first_item T m h f)) (no_item_here e)

-- Where a path that leaves only sequences and lists can't be followed in conforming content, an item is missing.
stops_item_missing : (T : Table) (τ : ℕ) (ps : List ℕ) (k : Content) → Walks T τ ps → leaves_only sequence_or_list (leaves T τ ps) ≡ true → Holds T (kind_of T τ) k
    → follow T τ ps k ≡ none → ItemMissing T τ ps k
unfolding leaves
stops_item_missing T τ [] k w plain h f = unfold follow in some_none refl f
stops_item_missing T τ (p ∷ ps) k w plain h f = go (enter (kind_of T τ) p (next T τ p) k) refl (stops_item_missing T (next T τ p) ps)
  where
    go : (o : Option Content) → enter (kind_of T τ) p (next T τ p) k ≡ o
        → ((i : Content) → Walks T (next T τ p) ps → leaves_only sequence_or_list (leaves T (next T τ p) ps) ≡ true → Holds T (kind_of T (next T τ p)) i
        → follow T (next T τ p) ps i ≡ none → ItemMissing T (next T τ p) ps i)
        → ItemMissing T τ (p ∷ ps) k
    go none e rec = step_missing T τ p ps (kind_of T τ) refl h (walks_step w) (leaves_only_lem sequence_or_list _ _ plain).0 e
    go (some i) e rec =
        no_item_below e
        (rec i (walks_rest w) (leaves_only_lem sequence_or_list _ _ plain).1 (enter_holds T p (next T τ p) (kind_of T τ) h (walks_step w) e) (sym (follow_some T τ p ps k i e) ∙ f))

-- the same with offsets
at_none : (T : Table) (τ : ℕ) (ps : List ℕ) (l : Located) → follow_at T τ ps l ≡ none → follow T τ ps l.holds ≡ none
unfolding held_at
at_none T τ ps l e = sym (follow-held T τ ps l) ∙ ap held_at e

at_some : (T : Table) (τ : ℕ) (ps : List ℕ) (l a : Located) → follow_at T τ ps l ≡ some a → follow T τ ps l.holds ≡ some a.holds
unfolding held_at
at_some T τ ps l a e = sym (follow-held T τ ps l) ∙ ap held_at e

held_none : (o : Option Located) → held_at o ≡ none → o ≡ none
unfolding held_at
held_none none e = refl
held_none (some a) e = some_none refl e

none_at : (T : Table) (τ : ℕ) (ps : List ℕ) (l : Located) → follow T τ ps l.holds ≡ none → follow_at T τ ps l ≡ none
none_at T τ ps l e = held_none (follow_at T τ ps l) (follow-held T τ ps l ∙ e)

held_some : (o : Option Located) {k : Content} → held_at o ≡ some k → (a : Located) × (o ≡ some a) × (a.holds ≡ k)
unfolding held_at
held_some none e = some_none e refl
held_some (some a) e = (a, refl, cc)

-- ---- levels

-- what a child holds has fewer levels than what holds the child
child_lower : (k : Content) (p : ℕ) {j : Content} → child_at k p ≡ some j → levels j < levels k
unfolding child_at levels
child_lower end p e = some_none e refl
child_lower (char c r) p e = some_none e refl
child_lower (elem t k r) zero e = some_none e refl
child_lower (elem t k r) (suc zero) {j} e =
    let same : j ≡ k = cc in
    rw same (omega arith)
child_lower (elem t k r) (suc (suc p)) e = omega (arith, child_lower r (suc p) e)

chosen_lower : (k : Content) (t : ℕ) {j : Content} → child_of_type k t ≡ some j → levels j < levels k
unfolding child_of_type levels
chosen_lower end t e = some_none e refl
chosen_lower (char c r) t e = some_none e refl
chosen_lower (elem u k r) t {j} e = go (eqb t u) refl
  where
    go : (b : Bool) → eqb t u ≡ b → levels j < levels (elem u k r)
    go true q =
        let found : some k ≡ some j = sym (pick_true (eqb t u) (some k) none q) ∙ e in
        let same : j ≡ k = cc in
        rw same (omega arith)
    go false q = some_none e (pick_false (eqb t u) (some k) none q)

item_lower : (k : Content) {j : Content} → first_item k ≡ some j → levels j < levels k
unfolding first_item levels
item_lower end e = some_none e refl
item_lower (char c r) e = some_none e refl
item_lower (elem t k r) {j} e =
    let same : j ≡ k = cc in
    rw same (omega arith)

enter_lower : (κ : Kind) (p τ : ℕ) (k : Content) {j : Content} → enter κ p τ k ≡ some j → levels j < levels k
unfolding enter
enter_lower text p τ k e = some_none e refl
enter_lower empty p τ k e = some_none e refl
enter_lower (sequence ms) p τ k e = child_lower k p e
enter_lower (choice need ms) p τ k e = chosen_lower k τ e
enter_lower (list m) p τ k e = item_lower k e

-- what stands at the end of a path has no more levels
follow_no_higher : (T : Table) (τ : ℕ) (ps : List ℕ) (k : Content) {j : Content} → follow T τ ps k ≡ some j → levels j ≤ levels k
unfolding follow
follow_no_higher T τ [] k {j} e =
    let same : j ≡ k = cc in
    rw same (omega arith)
follow_no_higher T τ (p ∷ ps) k e =
    let found = and_then_lem (enter (kind_of T τ) p (next T τ p) k) (λ inside. follow T (next T τ p) ps inside) e in
    omega (arith, enter_lower (kind_of T τ) p (next T τ p) k found.1, follow_no_higher T (next T τ p) ps found.0 found.2)

-- and fewer behind a step
follow_lower : (T : Table) (τ p : ℕ) (ps : List ℕ) (k : Content) {j : Content} → follow T τ (p ∷ ps) k ≡ some j → levels j < levels k
unfolding follow
follow_lower T τ p ps k e =
    let found = and_then_lem (enter (kind_of T τ) p (next T τ p) k) (λ inside. follow T (next T τ p) ps inside) e in
    omega (arith, enter_lower (kind_of T τ) p (next T τ p) k found.1, follow_no_higher T (next T τ p) ps found.0 found.2)

-- ---- items

-- what an element of some content holds has fewer levels than that content
held_lower : {i k : Content} → HeldByOne i k → levels i < levels k
unfolding levels
held_lower (by_first {t = t} {k = k} {r = r}) = omega arith
held_lower (by_later h) = omega (arith, held_lower h)

-- an item of a conforming list conforms
held_holds : (T : Table) (m : ℕ) {i k : Content} → Holds T (list m) k → HeldByOne i k → Holds T (kind_of T m) i
held_holds T m no_item h = elim h [ ]
held_holds T m (one_item hk hr) by_first = hk
held_holds T m (one_item hk hr) (by_later h) = held_holds T m hr h

-- ---- a list's path, divided at its first list

-- a step before the first list
before_step : (T : Table) (τ p : ℕ) (ps : List ℕ) (d : Divided) (κ : Kind) (k : Content) → kind_of T τ ≡ κ → Holds T κ k → step_from κ p ≡ some (next T τ p) → sequence_or_list κ ≡ true
    → ((i : Content) → Holds T (kind_of T (next T τ p)) i → follow T (next T τ p) d.before i ≡ none → ⊥) → follow T τ (divide_at κ p ps d).before k ≡ none → ⊥
unfolding divide_at sequence_or_list is_sequence is_list
before_step T τ p ps d text k e h w s rec f = true_false s refl
before_step T τ p ps d empty k e h w s rec f = true_false s refl
before_step T τ p ps d (sequence ms) k e h w s rec f = go (child_at k p) refl
  where
    go : (o : Option Content) → child_at k p ≡ o → ⊥
    go none q = unfold step_from members_of in member_there_lem T p _ h w q
    go (some i) q =
        let entered : enter (sequence ms) p (next T τ p) k ≡ some i = unfold enter in q in
        rec i (enter_holds T p (next T τ p) (sequence ms) h w entered) (sym (follow_some T τ p d.before k i (rw e entered)) ∙ f)
before_step T τ p ps d (choice need ms) k e h w s rec f = true_false s refl
before_step T τ p ps d (list m) k e h w s rec f = unfold follow in some_none refl f

-- Before the first list only sequences are left, so in conforming content one comes to the list.
before_there : (T : Table) (τ : ℕ) (ps : List ℕ) (k : Content) → Walks T τ ps → leaves_only sequence_or_list (leaves T τ ps) ≡ true → Holds T (kind_of T τ) k
    → follow T τ (divide T τ ps).before k ≡ none → ⊥
unfolding divide leaves
before_there T τ [] k w plain h f = unfold follow in some_none refl f
before_there T τ (p ∷ ps) k w plain h f =
    before_step T τ p ps (divide T (next T τ p) ps) (kind_of T τ) k refl h (walks_step w) (leaves_only_lem sequence_or_list _ _ plain).0
    (λ i hi. before_there T (next T τ p) ps i (walks_rest w) (leaves_only_lem sequence_or_list _ _ plain).1 hi) f

-- behind it only sequences and lists are left too
rest_step : (T : Table) (τ p : ℕ) (ps : List ℕ) (d : Divided) (κ : Kind) → kind_of T τ ≡ κ → step_from (kind_of T τ) p ≡ some (next T τ p)
    → leaves_only sequence_or_list (leaves T (next T τ p) ps) ≡ true → leaves_only sequence_or_list (leaves T d.item d.rest) ≡ true
    → leaves_only sequence_or_list (leaves T (divide_at κ p ps d).item (divide_at κ p ps d).rest) ≡ true
unfolding divide_at
rest_step T τ p ps d text e w plain rec = rec
rest_step T τ p ps d empty e w plain rec = rec
rest_step T τ p ps d (sequence ms) e w plain rec = rec
rest_step T τ p ps d (choice need ms) e w plain rec = rec
rest_step T τ p ps d (list m) e w plain rec =
    subst (λ (t : ℕ). leaves_only sequence_or_list (leaves T t ps) ≡ true) (ap (next T τ) (list_step m p (rw e at w)) ∙ item_next T τ m e) plain

rest_plain : (T : Table) (τ : ℕ) (ps : List ℕ) → Walks T τ ps → leaves_only sequence_or_list (leaves T τ ps) ≡ true
    → leaves_only sequence_or_list (leaves T (divide T τ ps).item (divide T τ ps).rest) ≡ true
unfolding divide leaves
rest_plain T τ [] w plain = plain
rest_plain T τ (p ∷ ps) w plain =
    let later = (leaves_only_lem sequence_or_list _ _ plain).1 in
    rest_step T τ p ps (divide T (next T τ p) ps) (kind_of T τ) refl (walks_step w) later (rest_plain T (next T τ p) ps (walks_rest w) later)

-- ---- rows of children that are broken

-- a child that must be there breaks the row, or the rest does
part_breaks : (m : ℕ) (o : Option Located) (rest : Parts) → (unbroken (part_of m o rest) ≡ false) ↔ ((o ≡ none) ⊎ (unbroken rest ≡ false))
unfolding part_of unbroken
part_breaks m none rest = (λ e. inl refl, λ h. refl)
part_breaks m (some l) rest = (λ e. inr e, back)
  where
    back : (some l ≡ none) ⊎ (unbroken rest ≡ false) → unbroken rest ≡ false
    back (inl e) = some_none refl e
    back (inr e) = e

-- one that is there mends it
there_breaks : (m : ℕ) (o : Option Located) (later : Parts) → (unbroken (if_there m o later) ≡ false) ↔ ((o ≡ none) × (unbroken later ≡ false))
unfolding if_there unbroken
there_breaks m none later = (λ e. (refl, e), λ h. h.1)
there_breaks m (some l) later = (λ e. true_false refl e, λ h. some_none refl h.0)

module _ (X : Setting) (τ : ℕ) (κ : Kind) (at : List ℕ → Option Located) where
  -- the members of a sequence are broken exactly where one of the paths isn't there
  member_breaks : {ms : List ℕ} {pss : List (List ℕ)} (ps : List ℕ) → Along (MemberPath X τ κ) ms pss → Memᴰ ps pss → at ps ≡ none → unbroken (member_parts at ms pss) ≡ false
  unfolding member_parts
  member_breaks ps along_none there f = absurd (Memᴰ.not-nil there)
  member_breaks ps (along_both {a = m} {b = qs} {xs = ms} {ys = pss} g al) there f =
      (part_breaks m (at qs) (member_parts at ms pss)).1 (go (Memᴰ.cases_cons there) (λ i. member_breaks ps al i f))
    where
      go : (ps ≡ qs) ⊎ Memᴰ ps pss → (Memᴰ ps pss → unbroken (member_parts at ms pss) ≡ false) → (at qs ≡ none) ⊎ (unbroken (member_parts at ms pss) ≡ false)
      go (inl same) rec = inl (ap at (sym same) ∙ f)
      go (inr later) rec = inr (rec later)

  broken_member : {ms : List ℕ} {pss : List (List ℕ)} → Along (MemberPath X τ κ) ms pss → unbroken (member_parts at ms pss) ≡ false
      → (ps : List ℕ) × Memᴰ ps pss × GoodPath X τ κ ps × (at ps ≡ none)
  unfolding member_parts
  broken_member along_none e = unfold unbroken in true_false refl e
  broken_member (along_both {a = m} {b = ps} {xs = ms} {ys = pss} g al) e = go ((part_breaks m (at ps) (member_parts at ms pss)).0 e) (broken_member al)
    where
      go : (at ps ≡ none) ⊎ (unbroken (member_parts at ms pss) ≡ false)
          → (unbroken (member_parts at ms pss) ≡ false → (qs : List ℕ) × Memᴰ qs pss × GoodPath X τ κ qs × (at qs ≡ none))
          → (qs : List ℕ) × Memᴰ qs (ps ∷ pss) × GoodPath X τ κ qs × (at qs ≡ none)
      go (inl f) rec = (ps, Memᴰ.head refl, g.good, f)
      go (inr f) rec =
          let found = rec f in
          (found.0, Memᴰ.tail found.1, found.2, found.3)

  -- the member of a choice is broken exactly where none of the paths is there
  choice_breaks : {ms : List ℕ} {pss : List (List ℕ)} → Along (MemberPath X τ κ) ms pss → ((ps : List ℕ) → Memᴰ ps pss → at ps ≡ none) → unbroken (choice_parts at ms pss) ≡ false
  unfolding choice_parts
  choice_breaks along_none f = unfold unbroken in refl
  choice_breaks (along_both {a = m} {b = ps} {xs = ms} {ys = pss} g al) f =
      (there_breaks m (at ps) (choice_parts at ms pss)).1 (f ps (Memᴰ.head refl), choice_breaks al (λ qs there. f qs (Memᴰ.tail there)))

  broken_choice : {ms : List ℕ} {pss : List (List ℕ)} → Along (MemberPath X τ κ) ms pss → unbroken (choice_parts at ms pss) ≡ false → (ps : List ℕ) → Memᴰ ps pss → at ps ≡ none
  unfolding choice_parts
  broken_choice along_none e ps there = absurd (Memᴰ.not-nil there)
  broken_choice (along_both {a = m} {b = qs} {xs = ms} {ys = pss} g al) e ps there =
      let both = (there_breaks m (at qs) (choice_parts at ms pss)).0 e in
      go both.0 (Memᴰ.cases_cons there) (broken_choice al both.1 ps)
    where
      go : at qs ≡ none → (ps ≡ qs) ⊎ Memᴰ ps pss → (Memᴰ ps pss → at ps ≡ none) → at ps ≡ none
      go here (inl same) rec = ap at same ∙ here
      go here (inr later) rec = rec later

  -- `a` stands at the end of the path of a member m
  abbrev ByMember : List ℕ → ℕ → Located → Type 0
  ByMember ms m a = (ps : List ℕ) × Memᴰ m ms × MemberPath X τ κ m ps × (at ps ≡ some a)

  by_later_member : {m n : ℕ} {ms : List ℕ} {a : Located} → ByMember ms n a → ByMember (m ∷ ms) n a
  by_later_member found = (found.0, Memᴰ.tail found.1, found.2, found.3)

  -- a child of a sequence stands at the end of a member's path
  part_of_members : {ms : List ℕ} {pss : List (List ℕ)} {i m : ℕ} {a : Located} → Along (MemberPath X τ κ) ms pss → PartAt (member_parts at ms pss) i m a → ByMember ms m a
  unfolding member_parts part_of
  part_of_members along_none p = elim p [ ]
  part_of_members (along_both {a = m} {b = ps} {xs = ms} {ys = pss} g al) p = go (at ps) refl p (λ j q. part_of_members al q)
    where
      go : {i n : ℕ} {a : Located} (o : Option Located) → at ps ≡ o → PartAt (part_of m o (member_parts at ms pss)) i n a
          → ((j : ℕ) → PartAt (member_parts at ms pss) j n a → ByMember ms n a) → ByMember (m ∷ ms) n a
      go none e q rec = elim q [ ]
      go (some l) e first_part rec = (ps, Memᴰ.head refl, g, e)
      go (some l) e (later_part q) rec = by_later_member (rec _ q)

  -- so does the one of a choice
  part_of_choice : {ms : List ℕ} {pss : List (List ℕ)} {i m : ℕ} {a : Located} → Along (MemberPath X τ κ) ms pss → PartAt (choice_parts at ms pss) i m a → ByMember ms m a
  unfolding choice_parts if_there
  part_of_choice along_none p = elim p [ ]
  part_of_choice (along_both {a = m} {b = ps} {xs = ms} {ys = pss} g al) p = go (at ps) refl p (λ j q. part_of_choice al q)
    where
      go : {i n : ℕ} {a : Located} (o : Option Located) → at ps ≡ o → PartAt (if_there m o (choice_parts at ms pss)) i n a
          → ((j : ℕ) → PartAt (choice_parts at ms pss) j n a → ByMember ms n a) → ByMember (m ∷ ms) n a
      go none e q rec = by_later_member (rec _ q)
      go (some l) e first_part rec = (ps, Memᴰ.head refl, g, e)
      go (some l) e (later_part q) rec = elim q [ ]

module _ (beyond : Located → Option Located) (m : ℕ) where
  -- the items of a list are broken exactly where the path behind one of them isn't there
  item_breaks : {i k : Content} → HeldByOne i k → ((o : ℕ) → beyond (located o i) ≡ none) → (at : ℕ) → unbroken (item_parts beyond m at k) ≡ false
  unfolding item_parts
  item_breaks by_first f at = (part_breaks m _ _).1 (inl (f (at + 2)))
  item_breaks (by_later h) f at = (part_breaks m _ _).1 (inr (item_breaks h f _))

  broken_item : {T : Table} {n : ℕ} {k : Content} → Holds T (list n) k → (at : ℕ) → unbroken (item_parts beyond m at k) ≡ false
      → (i : Content) × HeldByOne i k × (o : ℕ) × (beyond (located o i) ≡ none)
  unfolding item_parts
  broken_item no_item at e = unfold unbroken in true_false refl e
  broken_item {n = n} (one_item {k = k} {r = r} hk hr) at e =
      go ((part_breaks m (beyond (located (at + 2) k)) (item_parts beyond m (at + 2 + length (bytes k) + 1) r)).0 e) (broken_item hr (at + 2 + length (bytes k) + 1))
    where
      go : (beyond (located (at + 2) k) ≡ none) ⊎ (unbroken (item_parts beyond m (at + 2 + length (bytes k) + 1) r) ≡ false)
          → (unbroken (item_parts beyond m (at + 2 + length (bytes k) + 1) r) ≡ false → (i : Content) × HeldByOne i r × (o : ℕ) × (beyond (located o i) ≡ none))
          → (i : Content) × HeldByOne i (elem n k r) × (o : ℕ) × (beyond (located o i) ≡ none)
      go (inl f) rec = (k, by_first, at + 2, f)
      go (inr f) rec =
          let found = rec f in
          (found.0, by_later found.1, found.2, found.3)

  -- `a` stands at the end of the path behind one of some items
  abbrev ByItem : Content → ℕ → Located → Type 0
  ByItem k n a = (n ≡ m) × (i : Content) × HeldByOne i k × (o : ℕ) × (beyond (located o i) ≡ some a)

  -- so does a child of a list
  part_of_items : (k : Content) (at : ℕ) {i n : ℕ} {a : Located} → PartAt (item_parts beyond m at k) i n a → ByItem k n a
  unfolding item_parts part_of
  part_of_items end at p = elim p [ ]
  part_of_items (char c r) at p = elim p [ ]
  part_of_items (elem t k r) at p = go (beyond (located (at + 2) k)) refl p (λ j q. part_of_items r (at + 2 + length (bytes k) + 1) q)
    where
      go : {i n : ℕ} {a : Located} (o : Option Located) → beyond (located (at + 2) k) ≡ o → PartAt (part_of m o (item_parts beyond m (at + 2 + length (bytes k) + 1) r)) i n a
          → ((j : ℕ) → PartAt (item_parts beyond m (at + 2 + length (bytes k) + 1) r) j n a → ByItem r n a) → ByItem (elem t k r) n a
      go none e q rec = elim q [ ]
      go (some l) e first_part rec = (refl, k, by_first, at + 2, e)
      go (some l) e (later_part q) rec =
          let found = rec _ q in
          (found.0, found.1, by_later found.2, found.3, found.4)

-- an optional choice is broken exactly where the member is, and it isn't there and empty
optional_breaks : (o : Option Located) (member : Parts) → (unbroken (optional_parts o member) ≡ false) ↔ ((unbroken member ≡ false) × (held_at o ≡ some end → ⊥))
unfolding optional_parts held_at
optional_breaks none member = (λ e. (e, λ f. some_none f refl), λ h. h.0)
optional_breaks (some l) member = go l.holds refl
  where
    go : (k : Content) → l.holds ≡ k → (unbroken (unless_empty k member) ≡ false) ↔ ((unbroken member ≡ false) × (some k ≡ some end → ⊥))
    go end e = unfold unless_empty unbroken in (λ f. true_false refl f, λ h. absurd (h.1 refl))
    go (char c r) e = unfold unless_empty in (λ f. (f, λ g. let z : ◌≡◌ {A = ℕ} 0 1 = cc in absurd (omega arith)), λ h. h.0)
    go (elem t k r) e = unfold unless_empty in (λ f. (f, λ g. let z : ◌≡◌ {A = ℕ} 0 1 = cc in absurd (omega arith)), λ h. h.0)

-- so a choice of either kind
choice_kind_breaks : (T : Table) (need : Need) (ms : List ℕ) (τ : ℕ) (pss : List (List ℕ)) (l : Located)
    → (unbroken (kind_parts T (choice need ms) τ pss l) ≡ false)
    ↔ ((unbroken (choice_parts (λ p. follow_at T τ p l) ms pss) ≡ false) × (need ≡ optional → follow T τ (before_choice T τ (first_path pss)) l.holds ≡ some end → ⊥))
unfolding kind_parts
choice_kind_breaks T needed ms τ pss l = (λ e. (e, λ no f. let z : ◌≡◌ {A = ℕ} 0 1 = cc in absurd (omega arith)), λ h. h.0)
choice_kind_breaks T optional ms τ pss l =
    let d = optional_breaks (follow_at T τ (before_choice T τ (first_path pss)) l) (choice_parts (λ p. follow_at T τ p l) ms pss) in
    let same = follow-held T τ (before_choice T τ (first_path pss)) l in
    (λ e. ((d.0 e).0, λ is f. (d.0 e).1 (same ∙ f)), λ h. d.1 (h.0, λ f. h.1 refl (sym same ∙ f)))

-- ---- the own paths of a source element

module _ (X : Setting) (τ : ℕ) (l : Located) where
  abbrev T : Table
  T = X.target

  abbrev at : List ℕ → Option Located
  at p = follow_at T τ p l

  -- Where a path of an element that is no text is missing, its row of children is broken.
  own_breaks : {κ : Kind} {pss : List (List ℕ)} → ValidEdges X τ κ pss → (κ ≡ text → ⊥) → PathMissing T τ pss l.holds κ → unbroken (kind_parts T κ τ pss l) ≡ false
  unfolding kind_parts list_parts first_path
  own_breaks (text_edge g t) other h = absurd (other refl)
  own_breaks no_edge other h = elim h [ ]
  own_breaks (sequence_edges {ms = ms} al pr) other (member_missing {ps = ps} there h) =
      member_breaks X τ (sequence ms) at ps al there (none_at T τ ps l (item_missing_stops h))
  own_breaks (choice_edges {need = need} {ms = ms} {pss = pss} al pr sh) other (no_member_there f g) =
      (choice_kind_breaks T need ms τ pss l).1 (choice_breaks X τ (choice need ms) at al (λ ps there. none_at T τ ps l (f ps there)), g)
  own_breaks (list_edge {m = m} {ps = ps} g) other (item_missing {items = items} {inside = i} f there h) =
      let d : Divided = divide T τ ps in
      let found = held_some (follow_at T τ d.before l) (follow-held T τ d.before l ∙ f) in
      rw found.1
      (item_breaks (follow_at T d.item d.rest) m (subst (λ (k : Content). HeldByOne i k) (sym found.2) there)
      (λ o. none_at T d.item d.rest (located o i) (item_missing_stops h)) found.0.at)

  -- And its row is broken only where a path is missing, if the content conforms.
  own_broken : {κ : Kind} {pss : List (List ℕ)} → ValidEdges X τ κ pss → Holds T (kind_of T τ) l.holds → (κ ≡ text → ⊥) → unbroken (kind_parts T κ τ pss l) ≡ false
      → PathMissing T τ pss l.holds κ
  unfolding kind_parts list_parts first_path right_steps
  own_broken (text_edge g t) h other e = absurd (other refl)
  own_broken no_edge h other e = unfold unbroken in true_false refl e
  own_broken (sequence_edges {ms = ms} al pr) h other e =
      let found = broken_member X τ (sequence ms) at al e in
      let g : GoodPath X τ (sequence ms) found.0 = found.2 in
      member_missing found.1 (stops_item_missing T τ found.0 l.holds g.walks (and_left _ _ g.right) h (at_none T τ found.0 l found.3))
  own_broken (choice_edges {need = need} {ms = ms} {pss = pss} al pr sh) h other e =
      let both = (choice_kind_breaks T need ms τ pss l).0 e in
      no_member_there (λ ps there. at_none T τ ps l (broken_choice X τ (choice need ms) at al both.0 ps there)) both.1
  own_broken (list_edge {m = m} {ps = ps} g) h other e = go (follow_at T τ (divide T τ ps).before l) refl e
    where
      plain : leaves_only sequence_or_list (leaves T τ ps) ≡ true
      plain = and_left _ _ g.good.right

      go : (o : Option Located) → follow_at T τ (divide T τ ps).before l ≡ o → unbroken (list_parts T (divide T τ ps) m o) ≡ false → PathMissing T τ (ps ∷ []) l.holds (list m)
      go none f e = absurd (before_there T τ ps l.holds g.good.walks plain h (at_none T τ _ l f))
      go (some a) f e =
          let d : Divided = divide T τ ps in
          let parts : GoodParts T τ max_steps d = divide_good T τ max_steps ps g.good.walks g.good.short in
          let ends : AtList T τ ps d = divide_at_list T τ ps g.good.walks (list_left g.good) in
          let items : follow T τ d.before l.holds ≡ some a.holds = at_some T τ d.before l a f in
          let held : Holds T (list d.item) a.holds = rw ends.is_list_lem at (follow_holds T τ d.before l.holds a.holds parts.before_walks h items) in
          let found = broken_item (follow_at T d.item d.rest) m held a.at e in
          item_missing items found.1
          (stops_item_missing T d.item d.rest found.0 parts.rest_walks (rest_plain T τ ps g.good.walks plain) (held_holds T d.item held found.1)
          (at_none T d.item d.rest (located found.2 found.0) found.3))

  -- ---- the children of a source element

  -- the type of a child exists, what stands for it conforms, and has fewer levels
  record GoodChild (κ : Kind) (m : ℕ) (a : Located) : Type 0 where
    is_member : Memᴰ m (members_of κ)
    conforms : Holds T (kind_of T (target_of X.embedding m)) a.holds
    lower : levels a.holds < levels l.holds

  -- at the end of a member's path
  good_member : (κ : Kind) {m : ℕ} {a : Located} → right_steps κ [] ≡ false → Holds T (kind_of T τ) l.holds → ByMember X τ κ at (members_of κ) m a → GoodChild κ m a
  good_member κ {m} {a} needs h found =
      let ps : List ℕ = found.0 in
      let g : MemberPath X τ κ m ps = found.2 in
      let there : follow T τ ps l.holds ≡ some a.holds = at_some T τ ps l a found.3 in
      record {
        is_member = found.1;
        conforms = subst (λ (t : ℕ). Holds T (kind_of T t) a.holds) g.ends (follow_holds T τ ps l.holds a.holds g.good.walks h there);
        lower = below ps g.good.right there;
      }
    where
      below : (ps : List ℕ) → right_steps κ (leaves T τ ps) ≡ true → follow T τ ps l.holds ≡ some a.holds → levels a.holds < levels l.holds
      below [] right there = unfold leaves in true_false right needs
      below (p ∷ ps) right there = follow_lower T τ p ps l.holds there

  -- where a choice of either kind has a child, that is the member
  pub part_of_choice_kind : (need : Need) (ms : List ℕ) (pss : List (List ℕ)) {i m : ℕ} {a : Located} → PartAt (kind_parts T (choice need ms) τ pss l) i m a → PartAt (choice_parts at ms pss) i m a
  unfolding kind_parts
  part_of_choice_kind needed ms pss p = p
  part_of_choice_kind optional ms pss p = go (follow_at T τ (before_choice T τ (first_path pss)) l) p
    where
      go : {i m : ℕ} {a : Located} (o : Option Located) → PartAt (optional_parts o (choice_parts at ms pss)) i m a → PartAt (choice_parts at ms pss) i m a
      go none p = unfold optional_parts in p
      go (some b) p = unless b.holds (unfold optional_parts in p)
        where
          unless : {i m : ℕ} {a : Located} (k : Content) → PartAt (unless_empty k (choice_parts at ms pss)) i m a → PartAt (choice_parts at ms pss) i m a
          unless end p = unfold unless_empty in elim p [ ]
          unless (char c r) p = unfold unless_empty in p
          unless (elem t k r) p = unfold unless_empty in p

  good_child : {κ : Kind} {pss : List (List ℕ)} {i m : ℕ} {a : Located} → ValidEdges X τ κ pss → Holds T (kind_of T τ) l.holds → PartAt (kind_parts T κ τ pss l) i m a → GoodChild κ m a
  unfolding kind_parts list_parts first_path members_of
  good_child (text_edge g t) h p = elim p [ ]
  good_child no_edge h p = elim p [ ]
  good_child (sequence_edges {ms = ms} al pr) h p = good_member (sequence ms) (sequence_needs_step ms) h (part_of_members X τ (sequence ms) at al p)
  good_child (choice_edges {need = need} {ms = ms} {pss = pss} al pr sh) h p =
      good_member (choice need ms) (choice_needs_step need ms) h (part_of_choice X τ (choice need ms) at al (part_of_choice_kind need ms pss p))
  good_child (list_edge {m = m} {ps = ps} g) h p = go (follow_at T τ (divide T τ ps).before l) refl p
    where
      go : {i n : ℕ} {a : Located} (o : Option Located) → follow_at T τ (divide T τ ps).before l ≡ o → PartAt (list_parts T (divide T τ ps) m o) i n a → GoodChild (list m) n a
      go none f p = elim p [ ]
      go {n = n} {a = a} (some b) f p =
          let d : Divided = divide T τ ps in
          let parts : GoodParts T τ max_steps d = divide_good T τ max_steps ps g.good.walks g.good.short in
          let ends : AtList T τ ps d = divide_at_list T τ ps g.good.walks (list_left g.good) in
          let items : follow T τ d.before l.holds ≡ some b.holds = at_some T τ d.before l b f in
          let held : Holds T (list d.item) b.holds = rw ends.is_list_lem at (follow_holds T τ d.before l.holds b.holds parts.before_walks h items) in
          let found = part_of_items (follow_at T d.item d.rest) m b.holds b.at p in
          let there : follow T d.item d.rest found.1 ≡ some a.holds = at_some T d.item d.rest (located found.3 found.1) a found.4 in
          let held-there = follow_holds T d.item d.rest found.1 a.holds parts.rest_walks (held_holds T d.item held found.2) there in
          record {
            is_member = Memᴰ.head found.0;
            conforms = subst (λ (t : ℕ). Holds T (kind_of T t) a.holds) (at_end ends found.0) held-there;
            lower = omega (arith, follow_no_higher T d.item d.rest found.1 there, held_lower found.2, follow_no_higher T τ d.before l.holds items);
          }
        where
          at_end : AtList T τ ps (divide T τ ps) → n ≡ m → end_of T (divide T τ ps).item (divide T τ ps).rest ≡ target_of X.embedding n
          at_end ends same = ends.same_end ∙ g.ends ∙ ap (target_of X.embedding) (sym same)

-- ---- reading the children one after the other

yields_missing : {P : Type 0} {r : Reading} {j : Content} {at : ℕ} → r ≡ yields j → r ≡ missing at → P
yields_missing {r = r} {j = j} {at = at} p q = let z : ◌≡◌ {A = ℕ} 0 1 = cc in absurd (omega arith)

rest_missing : (m : ℕ) (k : Content) (r : Reading) {at : ℕ} → with_rest m k r ≡ missing at → r ≡ missing at
unfolding with_rest
rest_missing m k (yields j) e = yields_missing refl e
rest_missing m k (missing at) e = e

rest_yields : (m : ℕ) (k : Content) (r : Reading) {j : Content} → with_rest m k r ≡ yields j → (i : Content) × (r ≡ yields i)
unfolding with_rest
rest_yields m k (yields i) e = (i, refl)
rest_yields m k (missing at) e = yields_missing e refl

element_yields : (m : ℕ) (r : Reading) (rest : Unit {0} → Reading) {j : Content} → with_element m r rest ≡ yields j → ((k : Content) × (r ≡ yields k)) × ((i : Content) × (rest tt ≡ yields i))
unfolding with_element
element_yields m (yields k) rest e = ((k, refl), rest_yields m k (rest tt) e)
element_yields m (missing at) rest e = yields_missing e refl

module _ (read : ℕ → Located → Reading) where
  -- the first child that is missing: those before it yield something
  record FirstMissing (parts : Parts) (at : ℕ) : Type 0 where
    number : ℕ
    member : ℕ
    image : Located
    is-part : PartAt parts number member image
    is-missing : read member image ≡ missing at
    yield-before : (i m : ℕ) (a : Located) → i < number → PartAt parts i m a → (k : Content) × (read m a ≡ yields k)

  -- the first child is missing, or one behind it is
  missing_here : (m : ℕ) (l : Located) (rest : Parts) (at : ℕ) → read m l ≡ missing at → FirstMissing (part m l rest) at
  missing_here m l rest at e =
      record { number = 0; member = m; image = l; is-part = first_part; is-missing = e; yield-before = λ i n a less p. absurd (omega arith) }

  missing_later : (m : ℕ) (l : Located) (rest : Parts) (at : ℕ) (k : Content) → read m l ≡ yields k → FirstMissing rest at → FirstMissing (part m l rest) at
  missing_later m l rest at k e f =
      record {
        number = suc f.number;
        member = f.member;
        image = f.image;
        is-part = later_part f.is-part;
        is-missing = f.is-missing;
        yield-before = λ i n a less p. before less p;
      }
    where
      before : {i n : ℕ} {a : Located} → i < suc f.number → PartAt (part m l rest) i n a → (j : Content) × (read n a ≡ yields j)
      before less first_part = (k, e)
      before less (later_part p) = f.yield-before _ _ _ (omega arith) p

  -- of an unbroken row, a child is what is missing
  parts_missing : (own : ℕ) (parts : Parts) (at : ℕ) → unbroken parts ≡ true → read_parts read own parts ≡ missing at → FirstMissing parts at
  unfolding unbroken read_parts
  parts_missing own done at whole e = yields_missing refl e
  parts_missing own broken at whole e = true_false whole refl
  parts_missing own (part m l rest) at whole e = go (read m l) refl e (parts_missing own rest at whole)
    where
      go : (r : Reading) → read m l ≡ r → with_element m r (λ u. read_parts read own rest) ≡ missing at → (read_parts read own rest ≡ missing at → FirstMissing rest at) → FirstMissing (part m l rest) at
      go (yields k) q e rec = missing_later m l rest at k q (rec (rest_missing m k _ (unfold with_element in e)))
      go (missing o) q e rec = missing_here m l rest at (q ∙ (unfold with_element in e))

  -- of a row that yields something, each child does
  parts_yield : (own : ℕ) {parts : Parts} {i m : ℕ} {a : Located} {j : Content} → PartAt parts i m a → read_parts read own parts ≡ yields j → (k : Content) × (read m a ≡ yields k)
  unfolding read_parts
  parts_yield own (first_part {m = m} {l = l}) e = (element_yields m (read m l) _ e).0
  parts_yield own (later_part {n = n} {a = b} p) e = parts_yield own p (element_yields n (read n b) _ e).1.1

  -- where the own paths are all there, the children are read
  whole_read : (own : ℕ) (parts : Parts) → unbroken parts ≡ true → read_children read own parts ≡ read_parts read own parts
  unfolding read_children read_unbroken
  whole_read own parts e = rw e refl

  broken_read : (own : ℕ) (parts : Parts) → unbroken parts ≡ false → read_children read own parts ≡ missing own
  unfolding read_children read_unbroken
  broken_read own parts e = rw e refl

-- ---- reading a source element

text_or_not : (κ : Kind) → (κ ≡ text) ⊎ (κ ≡ text → ⊥)
text_or_not text = inl refl
text_or_not empty = inr (λ e. let z : ◌≡◌ {A = ℕ} 0 1 = cc in absurd (omega arith))
text_or_not (sequence ms) = inr (λ e. let z : ◌≡◌ {A = ℕ} 0 1 = cc in absurd (omega arith))
text_or_not (choice need ms) = inr (λ e. let z : ◌≡◌ {A = ℕ} 0 1 = cc in absurd (omega arith))
text_or_not (list m) = inr (λ e. let z : ◌≡◌ {A = ℕ} 0 1 = cc in absurd (omega arith))

module _ (X : Setting) (read : ℕ → Located → Reading) (τ : ℕ) (l : Located) where
  abbrev Own : Kind → List (List ℕ) → Type 0
  Own κ pss = PathMissing X.target τ pss l.holds κ

  abbrev parts : Kind → List (List ℕ) → Parts
  parts κ pss = kind_parts X.target κ τ pss l

  abbrev read_it : Kind → List (List ℕ) → Reading
  read_it κ pss = read_kind read X.target κ τ pss l

  -- a text whose path is missing
  text_stops : {κ : Kind} {pss : List (List ℕ)} → κ ≡ text → Own κ pss → read_it κ pss ≡ missing (opened_at l)
  unfolding read_kind read_characters
  text_stops {pss = pss} e (text_missing h) = rw (none_at X.target τ (first_path pss) l (item_missing_stops h)) refl
  text_stops e (member_missing i h) = let z : ◌≡◌ {A = ℕ} 0 1 = cc in absurd (omega arith)
  text_stops e (item_missing f i h) = let z : ◌≡◌ {A = ℕ} 0 1 = cc in absurd (omega arith)
  text_stops e (no_member_there f g) = let z : ◌≡◌ {A = ℕ} 0 1 = cc in absurd (omega arith)

  -- An element whose own path is missing is itself what is missing.
  own_stops : {κ : Kind} {pss : List (List ℕ)} → ValidEdges X τ κ pss → Own κ pss → read_it κ pss ≡ missing (opened_at l)
  own_stops {κ} {pss} v h = go (text_or_not κ)
    where
      go : (κ ≡ text) ⊎ (κ ≡ text → ⊥) → read_it κ pss ≡ missing (opened_at l)
      go (inl e) = text_stops e h
      go (inr other) = by_children read X.target κ τ pss l other ∙ broken_read read (opened_at l) (parts κ pss) (own_breaks X τ l v other h)

  -- a text is missing itself, and then its path is
  text_missed : {κ : Kind} {pss : List (List ℕ)} {at : ℕ} → ValidEdges X τ κ pss → κ ≡ text → Holds X.target (kind_of X.target τ) l.holds → read_it κ pss ≡ missing at
      → (at ≡ opened_at l) × Own κ pss
  unfolding read_kind first_path right_steps
  text_missed {at = at} (text_edge {ps = ps} g t) is h e = go (follow_at X.target τ ps l) refl e
    where
      go : (o : Option Located) → follow_at X.target τ ps l ≡ o → read_characters (opened_at l) o ≡ missing at → (at ≡ opened_at l) × Own text (ps ∷ [])
      go none f e =
          let own : missing (opened_at l) ≡ missing at = unfold read_characters in e in
          (cc, text_missing (stops_item_missing X.target τ ps l.holds g.walks g.right h (at_none X.target τ ps l f)))
      go (some a) f e = unfold read_characters in yields_missing refl e
  text_missed no_edge is h e = let z : ◌≡◌ {A = ℕ} 0 1 = cc in absurd (omega arith)
  text_missed (sequence_edges al pr) is h e = let z : ◌≡◌ {A = ℕ} 0 1 = cc in absurd (omega arith)
  text_missed (choice_edges al pr sh) is h e = let z : ◌≡◌ {A = ℕ} 0 1 = cc in absurd (omega arith)
  text_missed (list_edge g) is h e = let z : ◌≡◌ {A = ℕ} 0 1 = cc in absurd (omega arith)

  -- What is missing is the element itself, where an own path is missing, or else the first of its children that is.
  kind_missing : {κ : Kind} {pss : List (List ℕ)} {at : ℕ} → ValidEdges X τ κ pss → Holds X.target (kind_of X.target τ) l.holds → read_it κ pss ≡ missing at
      → ((at ≡ opened_at l) × Own κ pss) ⊎ ((Own κ pss → ⊥) × FirstMissing read (parts κ pss) at)
  kind_missing {κ} {pss} {at} v h e = go (text_or_not κ)
    where
      by_parts : (κ ≡ text → ⊥) → (b : Bool) → unbroken (parts κ pss) ≡ b → ((at ≡ opened_at l) × Own κ pss) ⊎ ((Own κ pss → ⊥) × FirstMissing read (parts κ pss) at)
      by_parts other true q =
          inr (
            λ own. true_false q (own_breaks X τ l v other own),
            parts_missing read (opened_at l) (parts κ pss) at q (sym (whole_read read (opened_at l) (parts κ pss) q) ∙ sym (by_children read X.target κ τ pss l other) ∙ e),
          )
      by_parts other false q =
          let own : missing (opened_at l) ≡ missing at = sym (broken_read read (opened_at l) (parts κ pss) q) ∙ sym (by_children read X.target κ τ pss l other) ∙ e in
          inl (cc, own_broken X τ l v h other q)

      go : (κ ≡ text) ⊎ (κ ≡ text → ⊥) → ((at ≡ opened_at l) × Own κ pss) ⊎ ((Own κ pss → ⊥) × FirstMissing read (parts κ pss) at)
      go (inl is) = inl (text_missed v is h e)
      go (inr other) = by_parts other (unbroken (parts κ pss)) refl

  -- a text has no children
  text_no_child : {P : Type 0} {κ : Kind} (pss : List (List ℕ)) {i m : ℕ} {a : Located} → κ ≡ text → PartAt (parts κ pss) i m a → P
  text_no_child {P} pss {i} {m} {a} is p = none-there (rw is at p)
    where
      none-there : PartAt (parts text pss) i m a → P
      none-there p = unfold kind_parts in elim p [ ]

  -- Where the element yields something, each of its children does.
  kind_yields : (κ : Kind) (pss : List (List ℕ)) {i m : ℕ} {a : Located} {j : Content} → read_it κ pss ≡ yields j → PartAt (parts κ pss) i m a → (k : Content) × (read m a ≡ yields k)
  kind_yields κ pss {i} {m} {a} {j} e p = go (text_or_not κ)
    where
      by_parts : (κ ≡ text → ⊥) → (b : Bool) → unbroken (parts κ pss) ≡ b → (k : Content) × (read m a ≡ yields k)
      by_parts other true q = parts_yield read (opened_at l) p (sym (whole_read read (opened_at l) (parts κ pss) q) ∙ sym (by_children read X.target κ τ pss l other) ∙ e)
      by_parts other false q = yields_missing e (by_children read X.target κ τ pss l other ∙ broken_read read (opened_at l) (parts κ pss) q)

      go : (κ ≡ text) ⊎ (κ ≡ text → ⊥) → (k : Content) × (read m a ≡ yields k)
      go (inl is) = text_no_child pss is p
      go (inr other) = by_parts other (unbroken (parts κ pss)) refl

-- ---- addresses

-- a row of children has one child of each number
one_child : {parts : Parts} {i m n : ℕ} {a b : Located} → PartAt parts i m a → PartAt parts i n b → (m ≡ n) × (a ≡ b)
one_child first_part first_part = (refl, refl)
one_child (later_part p) (later_part q) = one_child p q

-- what stands at the same child
same_child : {X : Setting} {parts : Parts} {i j m n at : ℕ} {a b : Located} {address : List ℕ} → i ≡ j → PartAt parts i m a → PartAt parts j n b → Unreadable X m a address at → Unreadable X n b address at
same_child {X} {parts} {n = n} {at = at} {a = a} {address = address} same p q u =
    let both = one_child (rw same at p) q in
    subst (λ (c : Located). Unreadable X n c address at) both.1 (subst (λ (t : ℕ). Unreadable X t a address at) both.0 u)

-- an address leads to one element
one_place : {X : Setting} {s at o : ℕ} {l : Located} {address other : List ℕ} → Unreadable X s l address at → Unreadable X s l other o → address ≡ other → at ≡ o
one_place (own_missing h) (own_missing g) e = refl
one_place (own_missing h) (child_missing q w) e = let z : ◌≡◌ {A = ℕ} 0 1 = cc in absurd (omega arith)
one_place (child_missing p u) (own_missing g) e = let z : ◌≡◌ {A = ℕ} 0 1 = cc in absurd (omega arith)
one_place (child_missing {i = i} {address = address} p u) (child_missing {i = j} {address = other} q w) e =
    let numbers : i ≡ j = cc in
    let rests : other ≡ address = cc in
    one_place u (same_child (sym numbers) q p w) (sym rests)

-- of two addresses with a step each, the first child is earlier, or it is the same and the rest isn't after
not_after_step : {x y : List ℕ} (i j : ℕ) (a b : List ℕ) → NotAfter x y → x ≡ i ∷ a → y ≡ j ∷ b → (i < j) ⊎ ((i ≡ j) × NotAfter a b)
not_after_step i j a b not_after_below e f = let z : ◌≡◌ {A = ℕ} 0 1 = cc in absurd (omega arith)
not_after_step i j a b (not_after_later {i = m} {j = n} less) e f =
    let first : m ≡ i = cc in
    let second : n ≡ j = cc in
    inl (omega arith)
not_after_step i j a b (not_after_same {i = m} {a = c} {b = d} h) e f =
    let numbers : i ≡ j = cc in
    let first : c ≡ a = cc in
    let second : d ≡ b = cc in
    inr (numbers, subst (λ (z : List ℕ). NotAfter a z) second (subst (λ (z : List ℕ). NotAfter z d) first h))

-- neither of two addresses is after the other only if they are the same
not_after_both : (a b : List ℕ) → NotAfter a b → NotAfter b a → a ≡ b
not_after_both [] [] p q = refl
not_after_both [] (j ∷ b) p q = elim q [ ]
not_after_both (i ∷ a) [] p q = elim p [ ]
not_after_both (i ∷ a) (j ∷ b) p q = go (not_after_step i j a b p refl refl) (not_after_step j i b a q refl refl) (not_after_both a b)
  where
    go : (i < j) ⊎ ((i ≡ j) × NotAfter a b) → (j < i) ⊎ ((j ≡ i) × NotAfter b a) → (NotAfter a b → NotAfter b a → a ≡ b) → i ∷ a ≡ j ∷ b
    go (inl less) (inl more) rec = absurd (omega arith)
    go (inl less) (inr h) rec = absurd (omega (arith, h.0))
    go (inr h) (inl more) rec = absurd (omega (arith, h.0))
    go (inr h) (inr g) rec = ap₂ (λ (n : ℕ) (z : List ℕ). n ∷ z) h.0 (rec h.1 g.1)

-- ---- all source elements

module _ (X : Setting) (v : Valid X) where
  -- what stands for a source element of type s conforms
  abbrev Stands : ℕ → Located → Type 0
  Stands s l = Holds X.target (kind_of X.target (target_of X.embedding s)) l.holds

  -- and a child of it is such too
  abbrev Child : ℕ → Located → ℕ → Located → Type 0
  Child s l m a = GoodChild X (target_of X.embedding s) l (kind_of X.source s) m a

  child_of : (s : ℕ) (l : Located) {i m : ℕ} {a : Located} → s < length X.source → Stands s l → PartAt (child_parts X s l) i m a → Child s l m a
  child_of s l exists held p = good_child X (target_of X.embedding s) l (v.edges s exists) held p

  -- a child's type exists
  child_exists : (s : ℕ) (l : Located) {m : ℕ} {a : Located} → Child s l m a → m < length X.source
  child_exists s l {m} c = v.source_sound.well_formed.members_exist s m c.is_member

  -- What yields something has nothing unreadable below it.
  yields_readable : {s : ℕ} {l : Located} {address : List ℕ} {at : ℕ} → Unreadable X s l address at → s < length X.source → Stands s l → (n : ℕ) {j : Content}
      → read_to X n s l ≡ yields j → ⊥
  unfolding read_to
  yields_readable (own_missing h) exists held zero e = yields_missing e refl
  yields_readable (child_missing p u) exists held zero e = yields_missing e refl
  yields_readable (own_missing {s = s} {l = l} h) exists held (suc n) e = yields_missing e (own_stops X _ (target_of X.embedding s) l (v.edges s exists) h)
  yields_readable (child_missing {s = s} {m = m} {l = l} {a = a} p u) exists held (suc n) e =
      let child : Child s l m a = child_of s l exists held p in
      let found = kind_yields X _ (target_of X.embedding s) l (kind_of X.source s) (paths_of X.embedding s) e p in
      yields_readable u (child_exists s l child) child.conforms n found.1

  -- The first unreadable element below the first child that is missing is the first below the element, where its own paths are there.
  first_below : (n s at : ℕ) (l : Located) → s < length X.source → Stands s l
      → (PathMissing X.target (target_of X.embedding s) (paths_of X.embedding s) l.holds (kind_of X.source s) → ⊥)
      → (f : FirstMissing (λ t inside. read_to X n t inside) (child_parts X s l) at) → FirstUnreadable X f.member f.image at → FirstUnreadable X s l at
  first_below n s at l exists held whole f below =
      record { address = f.number ∷ below.address; is_unreadable = child_missing f.is-part below.is_unreadable; is_first = λ other there u. after u }
    where
      at_child_lem : (i m : ℕ) (a : Located) (other : List ℕ) (there : ℕ) → PartAt (child_parts X s l) i m a → Unreadable X m a other there → NotAfter (f.number ∷ below.address) (i ∷ other)
      at_child_lem i m a other there p u = go (ltb i f.number) refl
        where
          not_earlier : i < f.number → ⊥
          not_earlier less =
              let child : Child s l m a = child_of s l exists held p in
              let found = f.yield-before i m a less p in
              yields_readable u (child_exists s l child) child.conforms n found.1

          here : i ≡ f.number → NotAfter (f.number ∷ below.address) (i ∷ other)
          here same =
              subst (λ (j : ℕ). NotAfter (f.number ∷ below.address) (j ∷ other)) (sym same)
              (not_after_same (below.is_first other there (same_child same p f.is-part u)))

          from : (b : Bool) → eqb i f.number ≡ b → f.number ≤ i → NotAfter (f.number ∷ below.address) (i ∷ other)
          from true q more = here (eqb-true i f.number q)
          from false q more =
              let less : f.number < i = omega (arith, eqb-false i f.number q) in
              not_after_later less

          go : (b : Bool) → ltb i f.number ≡ b → NotAfter (f.number ∷ below.address) (i ∷ other)
          go true q = absurd (not_earlier (ltb-true i f.number q))
          go false q = from (eqb i f.number) refl (ltb-false i f.number q)

      after : {other : List ℕ} {there : ℕ} → Unreadable X s l other there → NotAfter (f.number ∷ below.address) other
      after (own_missing h) = absurd (whole h)
      after (child_missing p u) = at_child_lem _ _ _ _ _ p u

  -- What is missing is the first unreadable element; n is more than the levels.
  missing_first : (n s : ℕ) (l : Located) (at : ℕ) → s < length X.source → Stands s l → levels l.holds < n → read_to X n s l ≡ missing at → FirstUnreadable X s l at
  unfolding read_to
  missing_first zero s l at exists held high e = absurd (omega arith)
  missing_first (suc n) s l at exists held high e =
      go (kind_missing X (λ t inside. read_to X n t inside) (target_of X.embedding s) l (v.edges s exists) held e) (λ m a. missing_first n m a at)
    where
      own : Type 0
      own = PathMissing X.target (target_of X.embedding s) (paths_of X.embedding s) l.holds (kind_of X.source s)

      go : ((at ≡ opened_at l) × own) ⊎ ((own → ⊥) × FirstMissing (λ t inside. read_to X n t inside) (child_parts X s l) at)
          → ((m : ℕ) (a : Located) → m < length X.source → Stands m a → levels a.holds < n → read_to X n m a ≡ missing at → FirstUnreadable X m a at) → FirstUnreadable X s l at
      go (inl h) rec =
          record { address = []; is_unreadable = subst (λ (o : ℕ). Unreadable X s l [] o) (sym h.0) (own_missing h.1); is_first = λ other there u. not_after_below }
      go (inr h) rec =
          let f : FirstMissing (λ t inside. read_to X n t inside) (child_parts X s l) at = h.1 in
          let child : Child s l f.member f.image = child_of s l exists held f.is-part in
          let lower : levels f.image.holds < n = omega (arith, child.lower) in
          first_below n s at l exists held h.0 f (rec f.member f.image (child_exists s l child) child.conforms lower f.is-missing)

-- Reading a conforming target document fails with a mark exactly where the first unreadable element stands.
pub missing_exactly : (X : Setting) → Valid X → (k : Content) → Holds X.target (kind_of X.target 0) k → (at : ℕ) → (reading X k ≡ missing at) ↔ FirstUnreadable X 0 (located 2 k) at
unfolding reading
missing_exactly X v k h at = (found at, λ f. go (reading X k) refl f)
  where
    held : Holds X.target (kind_of X.target (target_of X.embedding 0)) k
    held = subst (λ (t : ℕ). Holds X.target (kind_of X.target t) k) (sym v.root_to_root_lem) h

    root : 0 < length X.source
    root = v.source_sound.well_formed.has_root

    found : (o : ℕ) → reading X k ≡ missing o → FirstUnreadable X 0 (located 2 k) o
    found o e = missing_first X v (length (document 0 k)) 0 (located 2 k) o root held (levels_below_length k) e

    go : (r : Reading) → reading X k ≡ r → FirstUnreadable X 0 (located 2 k) at → reading X k ≡ missing at
    go (yields j) e f = absurd (yields_readable X v f.is_unreadable root held (length (document 0 k)) e)
    go (missing o) e f =
        let g = found o e in
        e ∙ ap missing (one_place g.is_unreadable f.is_unreadable (not_after_both g.address f.address (g.is_first _ _ f.is_unreadable) (f.is_first _ _ g.is_unreadable)))
