-- Images conform: what the image of a conforming source element holds conforms to the target table.
use Rattle.std.specs.Prelude.{◌≡◌, Bool, true, false, ◌⊎◌, ℕ, suc, ◌+◌, ◌<◌, eqb}
use Rattle.std.proofs.Math.Path.{refl, subst}
use Rattle.std.proofs.Common.{sym, ap, ◌∙◌, inl, inr, add-zero, add-suc, suc-add, eqb-true}
use mathlib.Core.List.Memᴰ
use mathlib.Core.List.{List, [], ◌∷◌, Memᴰ}
use Rattle.std.proofs.Math.Option.{some}
use Rattle.std.proofs.Math.ListN.{length}
use Rattle.std.proofs.lemmas.Bool.{eqb-false}
use Rattle.model.specs.Definitions.Basics.{entry, some_of}
use Rattle.model.specs.Definitions.Commands.{Need, needed, optional}
use Rattle.model.specs.Definitions.Table.{Kind, text, empty, sequence, choice, list, Table, kind_of, members_of, step_from, is_text, is_optional, is_list}
use Rattle.model.specs.Definitions.Content.{Content, end, char}
use Rattle.model.specs.Definitions.Conformance.{Holds, no_character, one_character, no_member, one_member, chosen, left_out, no_item, one_item}
use Rattle.model.specs.Definitions.Embedding.{target_of, paths_of, first_path, next, end_of, leaves, divide, Divided, before_choice}
use Rattle.model.specs.Definitions.EmbeddingChecks.{max_steps, right_steps, leaves_only, sequence_or_list}
use Rattle.model.specs.Definitions.Filler.{content, known}
use Rattle.model.specs.Definitions.Image.{Setting, Placement, placed, under, grow_members, grow_kind, grow, place, children, image_of_element, placements, letters_of, along_paths, along_choice, path_of_member, items_of, along_list}
use Rattle.model.proofs.Theorems.Facts.{WellFormed, GoodPath, MemberPath, Along, along_none, along_both, ValidEdges, text_edge, no_edge, sequence_edges, choice_edges, list_edge, Valid, All, all_none, all_more, ToOptional, Fits, nothing_placed, right_here, below_sequence, below_choice, below_list}
use Rattle.model.proofs.Theorems.Tools.{entry_member, true_false, pick_true, pick_false, and_right, one_plus}
use Rattle.model.proofs.Theorems.Placing.{entry_next, item_next, under_all, single_fits, placements_fit, GoodParts, divide_good, AtList, divide_at_list}
use Rattle.model.proofs.Theorems.ByElements.{Each, each_elem, by_elements}

-- ---- content grown from placements

-- what is placed conforms to the type at the end of its path
abbrev pub Settled : Table → ℕ → Placement Content → Type 0
Settled T τ (placed path k) = Holds T (kind_of T (end_of T τ path)) k

-- beyond a step to type m, what is placed is as settled
settled_under : (T : Table) (τ p m : ℕ) (ps : List (Placement Content)) → next T τ p ≡ m → All (Settled T τ) ps → All (Settled T m) (under p ps)
unfolding end_of
settled_under T τ p m ps e al =
    under_all (Settled T τ) (Settled T m) p (λ path k h. subst (λ (t : ℕ). Holds T (kind_of T (end_of T t path)) k) e h) ps al

-- all members of a sequence, from member number p on
members_hold : (T : Table) (inside : ℕ → List (Placement Content) → Content) (ps : List (Placement Content)) (p : ℕ) (ms : List ℕ)
    → ((j m : ℕ) → entry (suc j) ms ≡ some m → Holds T (kind_of T m) (inside m (under (p + j) ps)))
    → Holds T (sequence ms) (grow_members content inside ps p ms)
unfolding grow_members content entry
members_hold T inside ps p [] f = no_member
members_hold T inside ps p (m ∷ ms) f =
    one_member (rw add-zero at (f 0 m refl))
    (members_hold T inside ps (suc p) ms (λ j n e. subst (λ (i : ℕ). Holds T (kind_of T n) (inside n (under i ps))) (add-suc p j ∙ sym (suc-add p j)) (f (suc j) n e)))

module _ (T : Table) (wf : WellFormed T) (fs : List Content) (fill : (t : ℕ) → t < length T → Holds T (kind_of T t) (known content fs t)) where
  -- content grown from settled placements that fit conforms
  pub grow_conforms : {n τ : ℕ} {ps : List (Placement Content)} → Fits T n τ ps → τ < length T → All (Settled T τ) ps
      → Holds T (kind_of T τ) (grow content T fs n τ ps)
  unfolding grow grow_kind content end_of members_of step_from
  grow_conforms (nothing_placed {τ = τ}) h al = fill τ h
  grow_conforms right_here h (all_more k al) = k
  grow_conforms (below_sequence {n = n} {τ = τ} {q = q} {path = path} {a = a} {ps = ps} ms e st sub) h al =
      rw e
      (members_hold T (λ m qs. grow content T fs n m qs) (placed (q ∷ path) a ∷ ps) 1 ms
      (λ j m g.
      rw (one_plus j)
      (grow_conforms (sub (suc j) m g) (wf.members_exist τ m (rw e (entry_member (suc j) ms g)))
      (settled_under T τ (suc j) m (placed (q ∷ path) a ∷ ps) (entry_next T τ (suc j) m e g) al))))
  grow_conforms (below_choice {τ = τ} {q = q} {path = path} {a = a} {ps = ps} need ms e w st sub) h al =
      rw e
      (chosen (entry_member q ms w)
      (grow_conforms sub (wf.members_exist τ (next T τ q) (rw e (entry_member q ms w))) (settled_under T τ q (next T τ q) (placed (q ∷ path) a ∷ ps) refl al)))
  grow_conforms (below_list {τ = τ} {path = path} {a = a} {ps = ps} m e st sub) h al =
      rw e
      (one_item
      (grow_conforms sub (wf.members_exist τ m (rw e (Memᴰ.head refl))) (settled_under T τ 1 m (placed (1 ∷ path) a ∷ ps) (item_next T τ m e) al))
      no_item)

-- ---- the placements of a source element are settled

pub is_text_lem : (κ : Kind) → is_text κ ≡ true → κ ≡ text
unfolding is_text
is_text_lem text e = refl
is_text_lem empty e = true_false refl (sym e)
is_text_lem (sequence ms) e = true_false refl (sym e)
is_text_lem (choice need ms) e = true_false refl (sym e)
is_text_lem (list m) e = true_false refl (sym e)

-- an optional choice may hold nothing
optional_nothing : (T : Table) (κ : Kind) → is_optional κ ≡ true → Holds T κ end
unfolding is_optional
optional_nothing T text e = true_false refl (sym e)
optional_nothing T empty e = true_false refl (sym e)
optional_nothing T (sequence ms) e = true_false refl (sym e)
optional_nothing T (choice needed ms) e = true_false refl (sym e)
optional_nothing T (choice optional ms) e = left_out
optional_nothing T (list m) e = true_false refl (sym e)

-- characters are characters under every table
pub text_anywhere : {S : Table} (T : Table) {k : Content} → Holds S text k → Holds T text k
text_anywhere T no_character = no_character
text_anywhere T (one_character a h) = one_character a (text_anywhere T h)

-- the letters among the children of a text are its content
pub letters_back : {S : Table} (X : Setting) (fs : List Content) {k : Content} → Holds S text k → letters_of content (children content X fs k) ≡ k
unfolding letters_of children content
letters_back X fs no_character = refl
letters_back X fs (one_character {c = c} a h) = ap (char c) (letters_back X fs h)

-- the path of a list leaves a list
pub list_left : {X : Setting} {τ m : ℕ} {ps : List ℕ} → GoodPath X τ (list m) ps → some_of is_list (leaves X.target τ ps) ≡ true
unfolding right_steps
list_left {X} {τ} {m} {ps} g = and_right (leaves_only sequence_or_list (leaves X.target τ ps)) (some_of is_list (leaves X.target τ ps)) g.right

-- the path of a member of a choice ends where the member is mapped to
pub member_ends : (X : Setting) (τ t : ℕ) (κ : Kind) {ms : List ℕ} {pss : List (List ℕ)} → Along (MemberPath X τ κ) ms pss → Memᴰ t ms
    → end_of X.target τ (path_of_member t ms pss) ≡ target_of X.embedding t
unfolding path_of_member
member_ends X τ t κ along_none h = absurd (Memᴰ.not-nil h)
member_ends X τ t κ (along_both {a = m} {b = ps} {xs = ms} {ys = pss} g al) h = go (eqb t m) refl (member_ends X τ t κ al) (Memᴰ.cases_cons h)
  where
    go : (b : Bool) → eqb t m ≡ b → (Memᴰ t ms → end_of X.target τ (path_of_member t ms pss) ≡ target_of X.embedding t)
        → (t ≡ m) ⊎ Memᴰ t ms → end_of X.target τ (path_of_member t (m ∷ ms) (ps ∷ pss)) ≡ target_of X.embedding t
    go true e rec c = rw (pick_true (eqb t m) ps (path_of_member t ms pss) e) (g.ends ∙ ap (target_of X.embedding) (sym (eqb-true t m e)))
    go false e rec (inl same) = absurd (eqb-false t m e same)
    go false e rec (inr there) = rw (pick_false (eqb t m) ps (path_of_member t ms pss) e) (rec there)

module _ (X : Setting) (fs : List Content) where
  -- the image of an element conforms to the type that its own is mapped to
  abbrev pub ImageHolds : ℕ → Content → Type 0
  ImageHolds s k = Holds X.target (kind_of X.target (target_of X.embedding s)) (image_of_element content X fs s (children content X fs k))

  -- members along their paths
  members_settled : (τ : ℕ) (κ : Kind) {ns : List ℕ} {pss : List (List ℕ)} {k : Content} → Along (MemberPath X τ κ) ns pss
      → Holds X.source (sequence ns) k → Each ImageHolds k → All (Settled X.target τ) (along_paths pss (children content X fs k))
  unfolding along_paths children
  members_settled τ κ along_none h ea = all_none
  members_settled τ κ (along_both {b = ps} g al) (one_member {m = m} {k = k} hk hr) (each_elem p ea) =
      let image : Content = image_of_element content X fs m (children content X fs k) in
      let settled : Settled X.target τ (placed ps image) = subst (λ (t : ℕ). Holds X.target (kind_of X.target t) image) (sym g.ends) p in
      all_more settled (members_settled τ κ al hr ea)

  -- the one member of a choice along its path, or nothing in the optional choice that the paths share
  choice_settled : (τ : ℕ) (κ : Kind) (need : Need) {ms : List ℕ} {pss : List (List ℕ)} {k : Content} → Along (MemberPath X τ κ) ms pss
      → (need ≡ optional → ToOptional X τ pss) → Holds X.source (choice need ms) k → Each ImageHolds k
      → All (Settled X.target τ) (along_choice content (before_choice X.target τ (first_path pss)) ms pss (children content X fs k))
  unfolding along_choice children content
  choice_settled τ κ need {ms} {pss} al sh left_out ea =
      let settled : Settled X.target τ (placed (before_choice X.target τ (first_path pss)) end) = optional_nothing X.target _ (sh refl) in
      all_more settled all_none
  choice_settled τ κ need {ms} {pss} al sh (chosen {m = m} {k = k} e hk) (each_elem p ea) =
      let image : Content = image_of_element content X fs m (children content X fs k) in
      let settled : Settled X.target τ (placed (path_of_member m ms pss) image) = subst (λ (t : ℕ). Holds X.target (kind_of X.target t) image) (sym (member_ends X τ m κ al e)) p in
      all_more settled all_none

  -- the items of a list, each with the rest of the path under it
  items_hold : (inside : List (Placement Content) → Content) (d : Divided) (m : ℕ) {k : Content}
      → ((a : Content) → Holds X.target (kind_of X.target (target_of X.embedding m)) a → Holds X.target (kind_of X.target d.item) (inside (placed d.rest a ∷ [])))
      → Holds X.source (list m) k → Each ImageHolds k → Holds X.target (list d.item) (items_of content inside d (children content X fs k))
  unfolding items_of children content
  items_hold inside d m f no_item ea = no_item
  items_hold inside d m f (one_item {k = k} hk hr) (each_elem p ea) = one_item (f (image_of_element content X fs m (children content X fs k)) p) (items_hold inside d m f hr ea)

  module _ (wf : WellFormed X.target) (fill : (t : ℕ) → t < length X.target → Holds X.target (kind_of X.target t) (known content fs t)) where
    list-settled : (τ m : ℕ) (ps : List ℕ) {k : Content} → MemberPath X τ (list m) m ps → Holds X.source (list m) k → Each ImageHolds k
        → All (Settled X.target τ) (along_list content X.target fs (divide X.target τ ps) (children content X fs k))
    unfolding along_list place right_steps
    list-settled τ m ps {k} g h ea =
        let d : Divided = divide X.target τ ps in
        let parts : GoodParts X.target τ max_steps d = divide_good X.target τ max_steps ps g.good.walks g.good.short in
        let at : AtList X.target τ ps d = divide_at_list X.target τ ps g.good.walks (list_left g.good) in
        let exists : d.item < length X.target = wf.members_exist (end_of X.target τ d.before) d.item (rw at.is_list_lem list-member) in
        let items : Holds X.target (list d.item) (items_of content (λ qs. grow content X.target fs (suc max_steps) d.item qs) d (children content X fs k)) =
        items_hold _ d m
        (λ a ha. grow_conforms X.target wf fs fill (single_fits X.target max_steps a parts.rest_walks parts.rest_short) exists
        (all_more (subst (λ (t : ℕ). Holds X.target (kind_of X.target t) a) (sym (at.same_end ∙ g.ends)) ha) all_none)) h ea in
        let settled : Holds X.target (kind_of X.target (end_of X.target τ d.before)) (items_of content (λ qs. grow content X.target fs (suc max_steps) d.item qs) d (children content X fs k)) =
        rw at.is_list_lem items in
        all_more settled all_none
      where
        list-member : {t : ℕ} → Memᴰ t (members_of (list t))
        list-member = unfold members_of in Memᴰ.head refl

    -- what is placed below the image of a source element is settled
    placements-settled : (τ : ℕ) {κ : Kind} {pss : List (List ℕ)} {k : Content} → ValidEdges X τ κ pss → Holds X.source κ k → Each ImageHolds k
        → All (Settled X.target τ) (placements content X.target fs κ τ pss (children content X fs k))
    unfolding placements first_path
    placements-settled τ {k = k} (text_edge {ps = ps} g e) h ea =
        let settled : Holds X.target (kind_of X.target (end_of X.target τ ps)) (letters_of content (children content X fs k)) =
        rw (is_text_lem (kind_of X.target (end_of X.target τ ps)) e, letters_back X fs h) (text_anywhere X.target h) in
        all_more settled all_none
    placements-settled τ no_edge h ea = all_none
    placements-settled τ (sequence_edges {ms = ms} al pr) h ea = members_settled τ (sequence ms) al h ea
    placements-settled τ (choice_edges {need = need} {ms = ms} al pr sh) h ea = choice_settled τ (choice need ms) need al sh h ea
    placements-settled τ (list_edge {m = m} {ps = ps} g) h ea = list-settled τ m ps g h ea

-- Images conform: the image of every element of a conforming source document, to the type that the element's is mapped to.
pub image_holds : (X : Setting) → Valid X → (fs : List Content) → ((t : ℕ) → t < length X.target → Holds X.target (kind_of X.target t) (known content fs t))
    → (s : ℕ) (k : Content) → s < length X.source → Holds X.source (kind_of X.source s) k → ImageHolds X fs s k
image_holds X v fs fill =
    by_elements X.source v.source_sound.well_formed (ImageHolds X fs)
    (λ s k h holds ea. step s k h holds ea)
  where
    step : (s : ℕ) (k : Content) → s < length X.source → Holds X.source (kind_of X.source s) k → Each (ImageHolds X fs) k → ImageHolds X fs s k
    step s k h holds ea =
        unfold image_of_element place in
        grow_conforms X.target v.target_sound.well_formed fs fill
        (placements_fit content X fs (target_of X.embedding s) (kind_of X.source s) (paths_of X.embedding s) (children content X fs k) (v.edges s h))
        (v.target_exists s h)
        (placements-settled X fs v.target_sound.well_formed fill (target_of X.embedding s) (v.edges s h) holds ea)
