-- A source document has at most the levels and at most the bytes of its image. Levels and length are two instances of
-- one theorem, on a measure that joins what stands side by side and wraps what stands inside an element.
use Rattle.std.specs.Prelude.{◌≡◌, Bool}
use Rattle.std.proofs.Math.Path.{refl, sym, ap}
use Rattle.std.proofs.Common.{◌∙◌, suc-add, add-suc, add_comm, add_assoc, add-zero, arith}
use Rattle.std.proofs.Math.Bool.{true, false}
use mathlib.Core.List.{List, [], ◌∷◌, Memᴰ}
use Rattle.std.proofs.Math.Option.{some}
use Prim.Native.Nat.{ℕ, zero, suc, ◌+◌, ◌≤◌, ◌<◌, max, zero-le}
use Rattle.std.proofs.Math.Nat.{le_refl, le_trans, le_of_eq, zero-add, max_comm, max-zero}
use Rattle.std.proofs.Math.Numerals.{add-one}
use Rattle.std.proofs.Math.ListN.{length}
use Rattle.std.proofs.Math.Dec.{eqb}
use borrow.Author.Tests.{eqb-false, eq-eqb}
use Rattle.model.specs.Definitions.Basics.{pick, entry, some_of}
use Rattle.model.specs.Definitions.Commands.{Need, needed, optional}
use Rattle.model.specs.Definitions.Table.{Kind, text, sequence, choice, list, Table, kind_of, members_of, step_from}
use Rattle.model.specs.Definitions.Content.{Content, end, char, elem, bytes, document, levels}
use Rattle.model.specs.Definitions.Conformance.{Holds, no_character, one_character, nothing, no_member, one_member, chosen, left_out, no_item, one_item}
use Rattle.model.specs.Definitions.Embedding.{leaves, Divided, divide, target_of, paths_of, first_path}
use Rattle.model.specs.Definitions.EmbeddingChecks.{right_steps, leaves_only, optional_first, max_steps}
use Rattle.model.specs.Definitions.Filler.{Builder, content, levels_of, length_of, fillers}
use Rattle.model.specs.Definitions.Image.{Setting, Placement, placed, beyond, under, is_placed, grow_members, grow_kind, grow, place, letters_of, along_paths, along_choice, items_of, along_list, placements, image_of_element, children, image_by, image}
use Rattle.model.proofs.Theorems.Facts.{MemberPath, Along, along_none, along_both, ValidEdges, text_edge, no_edge, sequence_edges, choice_edges, list_edge, Valid, Starts, starts_none, starts_more, Leads, Fits, nothing_placed, right_here, below_sequence, below_choice, below_list}
use Rattle.model.proofs.Theorems.Tools.{pick_true, true_false, some_none}
use Rattle.model.proofs.Theorems.Measures.{image_hom, levels_hom, size, size_elem, size_hom, document-length}
use Rattle.model.proofs.Theorems.Placing.{path_of_member_lem, placements_fit, divide_good, single_fits}

-- ---- measures

-- A measure of source content, and a builder that measures of an image at least what paths build: `join` measures what stands side
-- by side, `wrap` an element by what it holds. What the builder makes of a filler element is left open, so that it may count it or not.
pub record Measure (B : Builder ℕ) (μ : Content → ℕ) : Type 0 where
  pub join : ℕ → ℕ → ℕ
  pub wrap : ℕ → ℕ
  pub measure_end : μ end ≡ 0
  pub measure_char : (c : ℕ) (r : Content) → μ (char c r) ≡ B.letter c (μ r)
  pub measure_elem : (t : ℕ) (k r : Content) → μ (elem t k r) ≡ join (wrap (μ k)) (μ r)
  pub of_none : B.none ≡ 0
  pub of_built : (t k r : ℕ) → B.element true t k r ≡ join (wrap k) r
  pub of_filler : (t k r : ℕ) → r ≤ B.element false t k r
  pub join_comm : (a b : ℕ) → join a b ≡ join b a
  pub join_assoc : (a b c : ℕ) → join (join a b) c ≡ join a (join b c)
  pub join_zero : (a : ℕ) → join a 0 ≡ a
  pub join_mono : (a b c d : ℕ) → a ≤ b → c ≤ d → join a c ≤ join b d
  pub wrap_mono : (a b : ℕ) → a ≤ b → wrap a ≤ wrap b
  pub wrap_more : (a : ℕ) → a ≤ wrap a

-- ---- what is taken from the theorems on placements

-- what is placed for a source element fits below its image
abbrev pub PlacementsFit : {A : Type 0} → Builder A → Setting → List A → Type 0
PlacementsFit B X fs =
    (s : ℕ) → s < length X.source → (k : Content) → Holds X.source (kind_of X.source s) k
    → Fits X.target (suc max_steps) (target_of X.embedding s)
    (placements B X.target fs (kind_of X.source s) (target_of X.embedding s) (paths_of X.embedding s) (children B X fs k))

-- what a source list's item holds fits below the target item, along the rest of the list's path
abbrev pub RestFits : Type 0 → Setting → Type 0
RestFits A X =
    (s m : ℕ) → s < length X.source → kind_of X.source s ≡ list m → (a : A)
    → Fits X.target (suc max_steps) (divide X.target (target_of X.embedding s) (first_path (paths_of X.embedding s))).item
    (placed (divide X.target (target_of X.embedding s) (first_path (paths_of X.embedding s))).rest a ∷ [])

-- ---- placements and their paths

-- a step that a sequence has is one of its members' numbers
entry_range : {A : Type 0} (p : ℕ) (xs : List A) {x : A} → entry p xs ≡ some x → (1 ≤ p) × (p < 1 + length xs)
unfolding entry
entry_range zero xs {x} e = some_none e refl
entry_range (suc p) [] {x} e = some_none e refl
entry_range (suc zero) (y ∷ xs) {x} e = omega arith
entry_range (suc (suc p)) (y ∷ xs) {x} e = let later : (1 ≤ suc p) × (suc p < 1 + length xs) = entry_range (suc p) xs e in omega arith

pub leads_range : (ms : List ℕ) (p : ℕ) → Leads (sequence ms) p → (1 ≤ p) × (p < 1 + length ms)
unfolding step_from members_of
leads_range ms p leads = entry_range p ms leads.1

pub starts_map : {A : Type 0} {ok ok' : ℕ → Type 0} {ps : List (Placement A)} → ((q : ℕ) → ok q → ok' q) → Starts ok ps → Starts ok' ps
starts_map f starts_none = starts_none
starts_map f (starts_more {q = q} h later) = starts_more (f q h) (starts_map f later)

-- the paths of a sequence's members, and of a choice's, have a step
pub sequence_needs_step : (ms : List ℕ) → right_steps (sequence ms) [] ≡ false
unfolding right_steps leaves_only some_of
sequence_needs_step ms = refl

pub choice_needs_step : (need : Need) (ms : List ℕ) → right_steps (choice need ms) [] ≡ false
unfolding right_steps leaves_only some_of optional_first
choice_needs_step needed ms = refl
choice_needs_step optional ms = refl

-- each element of some content measures at most what its image holds
data Bounded (B : Builder ℕ) (μ : Content → ℕ) (X : Setting) (fs : List ℕ) : Content → Type 0 where
  bounded_end : Bounded B μ X fs end
  bounded_char : {c : ℕ} {r : Content} → Bounded B μ X fs r → Bounded B μ X fs (char c r)
  bounded_elem : {t : ℕ} {k r : Content} → μ k ≤ image_of_element B X fs t (children B X fs k) → Bounded B μ X fs r → Bounded B μ X fs (elem t k r)

-- ---- what grows is at least what is placed

module _ (B : Builder ℕ) (μ : Content → ℕ) (M : Measure B μ) where
  open M use {join, wrap}

  -- joining with more makes no less
  join_left : (a b : ℕ) → a ≤ join a b
  join_left a b = rw (M.join_zero a) at (M.join_mono a a 0 b (le_refl a) zero-le)

  join_right : (a b : ℕ) → b ≤ join a b
  join_right a b = rw M.join_comm (join_left b a)

  join_swap : (a b c : ℕ) → join a (join b c) ≡ join b (join a c)
  join_swap a b c = rw (← M.join_assoc a b c, M.join_comm a b, M.join_assoc b a c)

  element_alone : (t k : ℕ) → B.element true t k B.none ≡ wrap k
  element_alone t k = M.of_built t k B.none ∙ ap (join (wrap k)) M.of_none ∙ M.join_zero (wrap k)

  -- what is placed, each wrapped
  wrapped : List (Placement ℕ) → ℕ
  wrapped [] = 0
  wrapped (placed path a ∷ ps) = join (wrap a) (wrapped ps)

  -- what is placed, each wrapped where its path has a step
  weigh : List (Placement ℕ) → ℕ
  weigh [] = 0
  weigh (placed [] a ∷ ps) = join a (weigh ps)
  weigh (placed (q ∷ path) a ∷ ps) = join (wrap a) (weigh ps)

  weigh_wrapped : {ok : ℕ → Type 0} {ps : List (Placement ℕ)} → Starts ok ps → weigh ps ≡ wrapped ps
  unfolding weigh wrapped
  weigh_wrapped starts_none = refl
  weigh_wrapped (starts_more {a = a} h later) = ap (join (wrap a)) (weigh_wrapped later)

  -- what is placed below the members of a sequence, from member number p on, each wrapped
  spread : List (Placement ℕ) → ℕ → List ℕ → ℕ
  spread ps p [] = 0
  spread ps p (m ∷ ms) = join (wrapped (under p ps)) (spread ps (suc p) ms)

  -- one placement more makes no less
  wrapped_more : (p : ℕ) (path : List ℕ) (a : ℕ) (ps : List (Placement ℕ)) → wrapped (under p ps) ≤ wrapped (under p (placed path a ∷ ps))
  unfolding under beyond wrapped pick
  wrapped_more p [] a ps = le_refl (wrapped (under p ps))
  wrapped_more p (q ∷ path) a ps = go (eqb p q)
    where
      go : (b : Bool) → wrapped (under p ps) ≤ wrapped (pick b (placed path a ∷ under p ps) (under p ps))
      go true = join_right (wrap a) (wrapped (under p ps))
      go false = le_refl (wrapped (under p ps))

  spread_more : (path : List ℕ) (a : ℕ) (ps : List (Placement ℕ)) (p : ℕ) (ms : List ℕ) → spread ps p ms ≤ spread (placed path a ∷ ps) p ms
  unfolding spread
  spread_more path a ps p [] = le_refl 0
  spread_more path a ps p (m ∷ ms) = M.join_mono _ _ _ _ (wrapped_more p path a ps) (spread_more path a ps (suc p) ms)

  -- and one whose first step is among the members' numbers adds what it holds, wrapped
  spread_one : (q : ℕ) (path : List ℕ) (a : ℕ) (ps : List (Placement ℕ)) (p : ℕ) (ms : List ℕ) → p ≤ q → q < p + length ms
      → join (wrap a) (spread ps p ms) ≤ spread (placed (q ∷ path) a ∷ ps) p ms
  unfolding spread under beyond pick wrapped
  spread_one q path a ps p [] low high = absurd (omega arith)
  spread_one q path a ps p (m ∷ ms) low high =
      go (eqb p q) refl (spread_one q path a ps (suc p) ms)
    where
      go : (b : Bool) → eqb p q ≡ b
          → (suc p ≤ q → q < suc p + length ms → join (wrap a) (spread ps (suc p) ms) ≤ spread (placed (q ∷ path) a ∷ ps) (suc p) ms)
          → join (wrap a) (join (wrapped (under p ps)) (spread ps (suc p) ms))
          ≤ join (wrapped (pick (eqb p q) (placed path a ∷ under p ps) (under p ps))) (spread (placed (q ∷ path) a ∷ ps) (suc p) ms)
      go true e later = rw (e, ← M.join_assoc) (M.join_mono _ _ _ _ (le_refl (join (wrap a) (wrapped (under p ps)))) (spread_more (q ∷ path) a ps (suc p) ms))
      go false e later =
          let apart : p ≡ q → ⊥ = eqb-false p q e in
          rw (e, join_swap) (M.join_mono _ _ _ _ (le_refl (wrapped (under p ps))) (later (omega arith) (omega arith)))

  wrapped_spread : (p : ℕ) (ms : List ℕ) {ps : List (Placement ℕ)} → Starts (λ q. (p ≤ q) × (q < p + length ms)) ps → wrapped ps ≤ spread ps p ms
  unfolding wrapped
  wrapped_spread p ms starts_none = zero-le
  wrapped_spread p ms (starts_more {q = q} {path} {a} {ps} h later) =
      le_trans (M.join_mono _ _ _ _ (le_refl (wrap a)) (wrapped_spread p ms later)) (spread_one q path a ps p ms h.0 h.1)

  -- a placement whose first step is q counts under q
  wrapped_under : (q : ℕ) {ps : List (Placement ℕ)} → Starts (λ p. p ≡ q) ps → wrapped ps ≡ wrapped (under q ps)
  unfolding wrapped under beyond
  wrapped_under q starts_none = refl
  wrapped_under q (starts_more {q = p} {path} {a} {ps} h later) = rw (pick_true (eqb q p) (placed path a ∷ under q ps) (under q ps) (eq-eqb q p (sym h))) (ap (join (wrap a)) (wrapped_under q later))

  -- a member of a sequence is at least what is placed below it, whether a path builds it or it is filler
  member_grows : (m inside rest : ℕ) (qs : List (Placement ℕ)) (later : ℕ) → wrapped qs ≤ wrap inside → later ≤ rest
      → join (wrapped qs) later ≤ B.element (is_placed qs) m inside rest
  unfolding wrapped is_placed
  member_grows m inside rest [] later here behind = rw (M.join_comm, M.join_zero) (le_trans behind (M.of_filler m inside rest))
  member_grows m inside rest (q ∷ qs) later here behind = rw M.of_built (M.join_mono _ _ _ _ here behind)

  -- all members of a sequence together are at least what is placed below them
  members_grow : (inside : ℕ → List (Placement ℕ) → ℕ) (ps : List (Placement ℕ)) (p : ℕ) (ms : List ℕ)
      → ((i m : ℕ) → entry (suc i) ms ≡ some m → wrapped (under (i + p) ps) ≤ wrap (inside m (under (i + p) ps)))
      → spread ps p ms ≤ grow_members B inside ps p ms
  unfolding spread grow_members entry
  members_grow inside ps p [] each = zero-le
  members_grow inside ps p (m ∷ ms) each =
      member_grows m (inside m (under p ps)) _ (under p ps) _ (rw zero-add at (each 0 m refl))
      (members_grow inside ps (suc p) ms (λ i m' e. rw (add-suc, ← suc-add) (each (suc i) m' e)))

  -- what is placed along paths that all have a step is wrapped once more
  wrapped_again : {ok : ℕ → Type 0} {ps : List (Placement ℕ)} (g : ℕ) → Starts ok ps → weigh ps ≤ g → wrapped ps ≤ wrap g
  wrapped_again g starts h = rw (← weigh_wrapped starts) (le_trans h (M.wrap_more g))

  module _ (T : Table) (fs : List ℕ) where
    -- an element wraps all that is placed in it
    grow-wraps : {n τ : ℕ} {ps : List (Placement ℕ)} → Fits T n τ ps → weigh ps ≤ grow B T fs n τ ps → wrapped ps ≤ wrap (grow B T fs n τ ps)
    grow-wraps nothing_placed h = unfold wrapped in zero-le
    grow-wraps (right_here {a = a}) h = unfold wrapped grow in le_of_eq (M.join_zero (wrap a))
    grow-wraps (below_sequence ms e starts fits) h = wrapped_again _ starts h
    grow-wraps (below_choice need ms e leads starts fits) h = wrapped_again _ starts h
    grow-wraps (below_list m e starts fits) h = wrapped_again _ starts h

    -- What grows is at least what is placed, each wrapped where its path has a step.
    grow-enough : {n τ : ℕ} {ps : List (Placement ℕ)} → Fits T n τ ps → weigh ps ≤ grow B T fs n τ ps
    unfolding grow weigh grow_kind
    grow-enough nothing_placed = zero-le
    grow-enough (right_here {a = a}) = le_of_eq (M.join_zero a)
    grow-enough (below_sequence {n} {τ} {q} {path} {a} {ps} ms e starts fits) =
        rw (weigh_wrapped starts, e)
        (le_trans
        (wrapped_spread 1 ms (starts_map (leads_range ms) starts))
        (members_grow (λ m qs. grow B T fs n m qs) (placed (q ∷ path) a ∷ ps) 1 ms
        (λ i m at. rw add-one (grow-wraps (fits (suc i) m at) (grow-enough (fits (suc i) m at))))))
    grow-enough (below_choice {n} {τ} {q} {path} {a} {ps} need ms e leads starts fits) =
        rw (weigh_wrapped starts, e, wrapped_under q starts, element_alone) (grow-wraps fits (grow-enough fits))
    grow-enough (below_list {n} {τ} {path} {a} {ps} m e starts fits) =
        rw (weigh_wrapped starts, e, wrapped_under 1 starts, element_alone) (grow-wraps fits (grow-enough fits))

  -- ---- a source element and its image

  -- one placement alone weighs at least what it holds
  weigh_one : (path : List ℕ) (a : ℕ) → a ≤ weigh (placed path a ∷ [])
  unfolding weigh
  weigh_one [] a = join_left a 0
  weigh_one (q ∷ path) a = le_trans (M.wrap_more a) (join_left (wrap a) 0)

  -- a path that must have a step wraps what is placed along it
  weigh_step : (T : Table) (τ : ℕ) (κ : Kind) (path : List ℕ) (a : ℕ) (ps : List (Placement ℕ))
      → right_steps κ [] ≡ false → right_steps κ (leaves T τ path) ≡ true → weigh (placed path a ∷ ps) ≡ join (wrap a) (weigh ps)
  unfolding weigh leaves
  weigh_step T τ κ [] a ps none-wrong right = true_false right none-wrong
  weigh_step T τ κ (q ∷ path) a ps none-wrong right = refl

  module _ (X : Setting) (fs : List ℕ) where
    letters-measure : {k : Content} → Holds X.source text k → letters_of B (children B X fs k) ≡ μ k
    unfolding letters_of children
    letters-measure no_character = M.of_none ∙ sym M.measure_end
    letters-measure (one_character {c} {r} ok later) = rw (letters-measure later) (sym (M.measure_char c r))

    sequence-weighs : (τ : ℕ) (κ : Kind) {ms : List ℕ} {pss : List (List ℕ)} {k : Content} → right_steps κ [] ≡ false → Along (MemberPath X τ κ) ms pss
        → Holds X.source (sequence ms) k → Bounded B μ X fs k → μ k ≤ weigh (along_paths pss (children B X fs k))
    unfolding along_paths children
    sequence-weighs τ κ none-wrong along_none no_member bounded_end = rw M.measure_end zero-le
    sequence-weighs τ κ none-wrong (along_both good goods) (one_member held later) (bounded_elem here there) =
        rw (M.measure_elem, weigh_step X.target τ κ _ _ _ none-wrong good.good.right)
        (M.join_mono _ _ _ _ (M.wrap_mono _ _ here) (sequence-weighs τ κ none-wrong goods later there))

    -- a choice of either kind: its one member, or nothing, which measures nothing
    choice-weighs : (τ : ℕ) (κ : Kind) (shared : List ℕ) {need : Need} {ms : List ℕ} {pss : List (List ℕ)} {k : Content} → right_steps κ [] ≡ false
        → Along (MemberPath X τ κ) ms pss → Holds X.source (choice need ms) k → Bounded B μ X fs k → μ k ≤ weigh (along_choice B shared ms pss (children B X fs k))
    unfolding along_choice children weigh
    choice-weighs τ κ shared none-wrong goods left_out bounded = rw M.measure_end zero-le
    choice-weighs τ κ shared none-wrong goods (chosen {m = m} mem held) (bounded_elem here there) =
        rw (M.measure_elem, M.measure_end, weigh_step X.target τ κ _ _ [] none-wrong (path_of_member_lem m mem goods).right)
        (M.join_mono _ _ _ _ (M.wrap_mono _ _ here) zero-le)

    items-weigh : (d : Divided) {m : ℕ} {k : Content} → ((a : ℕ) → Fits X.target (suc max_steps) d.item (placed d.rest a ∷ []))
        → Holds X.source (list m) k → Bounded B μ X fs k → μ k ≤ items_of B (place B X.target fs d.item) d (children B X fs k)
    unfolding items_of children place
    items-weigh d fits no_item bounded_end = rw M.measure_end zero-le
    items-weigh d fits (one_item held later) (bounded_elem here there) =
        rw (M.measure_elem, M.of_built)
        (M.join_mono _ _ _ _ (M.wrap_mono _ _ (le_trans here (le_trans (weigh_one d.rest _) (grow-enough X.target fs (fits _))))) (items-weigh d fits later there))

    placed-enough : (τ : ℕ) (κ : Kind) {pss : List (List ℕ)} {k : Content}
        → ValidEdges X τ κ pss
        → ((m a : ℕ) → κ ≡ list m → Fits X.target (suc max_steps) (divide X.target τ (first_path pss)).item (placed (divide X.target τ (first_path pss)).rest a ∷ []))
        → Holds X.source κ k → Bounded B μ X fs k → μ k ≤ weigh (placements B X.target fs κ τ pss (children B X fs k))
    unfolding placements first_path along_list
    placed-enough τ κ (text_edge {ps} good ends) rest held bounded = rw (letters-measure held) (weigh_one _ _)
    placed-enough τ κ no_edge rest nothing bounded = rw M.measure_end zero-le
    placed-enough τ κ (sequence_edges {ms} along apart) rest held bounded = sequence-weighs τ (sequence ms) (sequence_needs_step ms) along held bounded
    placed-enough τ κ (choice_edges {need} {ms} along apart shared) rest held bounded = choice-weighs τ (choice need ms) _ (choice_needs_step need ms) along held bounded
    placed-enough τ κ (list_edge {m} {ps} good) rest held bounded = le_trans (items-weigh (divide X.target τ ps) (λ a. rest m a refl) held bounded) (weigh_one _ _)

  module _ (X : Setting) (fs : List ℕ) (valid : Valid X) (fits : PlacementsFit B X fs) (rest : RestFits ℕ X) where
    -- a source element whose children measure at most their images measures at most its image
    element-grows : (s : ℕ) → s < length X.source → (k : Content) → Holds X.source (kind_of X.source s) k
        → Bounded B μ X fs k → μ k ≤ image_of_element B X fs s (children B X fs k)
    unfolding image_of_element place
    element-grows s exists k held bounded =
        le_trans
        (placed-enough X fs (target_of X.embedding s) (kind_of X.source s) (valid.edges s exists) (λ m a e. rest s m exists e a) held bounded)
        (grow-enough X.target fs (fits s exists k held))

    -- so all do
    all-bounded : {κ : Kind} {k : Content} → Holds X.source κ k → ((m : ℕ) → Memᴰ m (members_of κ) → m < length X.source) → Bounded B μ X fs k
    unfolding members_of
    all-bounded no_character exist = bounded_end
    all-bounded (one_character ok later) exist = bounded_char (all-bounded later exist)
    all-bounded nothing exist = bounded_end
    all-bounded no_member exist = bounded_end
    all-bounded (one_member {m} {k = k} held later) exist =
        bounded_elem
        (element-grows m (exist m (Memᴰ.head refl)) k held (all-bounded held (valid.source_sound.well_formed.members_exist m)))
        (all-bounded later (λ n there. exist n (Memᴰ.tail there)))
    all-bounded (chosen {m = m} {k = k} mem held) exist =
        bounded_elem (element-grows m (exist m mem) k held (all-bounded held (valid.source_sound.well_formed.members_exist m))) bounded_end
    all-bounded left_out exist = bounded_end
    all-bounded no_item exist = bounded_end
    all-bounded (one_item {m} {k} held later) exist =
        bounded_elem
        (element-grows m (exist m (Memᴰ.head refl)) k held (all-bounded held (valid.source_sound.well_formed.members_exist m)))
        (all-bounded later exist)

    -- what a source element holds measures at most what its image holds
    pub measure-grows : (s : ℕ) → s < length X.source → (k : Content) → Holds X.source (kind_of X.source s) k
        → μ k ≤ image_of_element B X fs s (children B X fs k)
    measure-grows s exists k held = element-grows s exists k held (all-bounded held (valid.source_sound.well_formed.members_exist s))

-- ---- levels and bytes

-- a builder of levels, which may or may not count those of filler
pub levels_measure : {B : Builder ℕ} → B.none ≡ 0 → ((c r : ℕ) → B.letter c r ≡ r) → ((t k r : ℕ) → B.element true t k r ≡ max (suc k) r)
    → ((t k r : ℕ) → r ≤ B.element false t k r) → Measure B levels
unfolding levels
levels_measure none letter built filler =
    record {
      join = max;
      wrap = suc;
      measure_end = refl;
      measure_char = λ c r. sym (letter c (levels r));
      measure_elem = λ t k r. refl;
      of_none = none;
      of_built = built;
      of_filler = filler;
      join_comm = max_comm;
      join_assoc = λ a b c. omega arith;
      join_zero = max-zero;
      join_mono = λ a b c d p q. omega arith;
      wrap_mono = λ a b p. omega arith;
      wrap_more = λ a. omega arith;
    }

-- and one of bytes
pub size_measure : {B : Builder ℕ} → B.none ≡ 0 → ((c r : ℕ) → B.letter c r ≡ 2 + r) → ((t k r : ℕ) → B.element true t k r ≡ 3 + k + r)
    → ((t k r : ℕ) → r ≤ B.element false t k r) → Measure B size
unfolding bytes
size_measure none letter built filler =
    record {
      join = ◌+◌;
      wrap = λ k. 3 + k;
      measure_end = refl;
      measure_char = λ c r. omega (arith, letter c (size r));
      measure_elem = size_elem;
      of_none = none;
      of_built = built;
      of_filler = filler;
      join_comm = add_comm;
      join_assoc = add_assoc;
      join_zero = add-zero;
      join_mono = λ a b c d p q. omega arith;
      wrap_mono = λ a b p. omega arith;
      wrap_more = λ a. omega arith;
    }

-- ---- with a valid embedding

placements_always_fit : {A : Type 0} (B : Builder A) (X : Setting) (fs : List A) → Valid X → PlacementsFit B X fs
placements_always_fit B X fs valid s exists k held =
    placements_fit B X fs (target_of X.embedding s) (kind_of X.source s) (paths_of X.embedding s) (children B X fs k) (valid.edges s exists)

-- the rest of a list's path, under each item
rest_edges_fit : {A : Type 0} {X : Setting} (τ m : ℕ) {κ : Kind} {pss : List (List ℕ)} → ValidEdges X τ κ pss → κ ≡ list m → (a : A)
    → Fits X.target (suc max_steps) (divide X.target τ (first_path pss)).item (placed (divide X.target τ (first_path pss)).rest a ∷ [])
unfolding first_path
rest_edges_fit τ m (text_edge good ends) e a = let z : ◌≡◌ {A = ℕ} 0 1 = cc in absurd (omega arith)
rest_edges_fit τ m no_edge e a = let z : ◌≡◌ {A = ℕ} 0 1 = cc in absurd (omega arith)
rest_edges_fit τ m (sequence_edges along apart) e a = let z : ◌≡◌ {A = ℕ} 0 1 = cc in absurd (omega arith)
rest_edges_fit τ m (choice_edges along apart shared) e a = let z : ◌≡◌ {A = ℕ} 0 1 = cc in absurd (omega arith)
rest_edges_fit {X = X} τ m (list_edge {ps = ps} good) e a =
    let parts = divide_good X.target τ max_steps ps good.good.walks good.good.short in
    single_fits X.target max_steps a parts.rest_walks parts.rest_short

pub rest_always_fits : {A : Type 0} (X : Setting) → Valid X → RestFits A X
rest_always_fits X valid s m exists e a = rest_edges_fit (target_of X.embedding s) m (valid.edges s exists) e a

-- what a source document's root holds measures at most what its image's root holds
pub measure_never_more : (B : Builder ℕ) (μ : Content → ℕ) → Measure B μ → (X : Setting) → Valid X
    → (k : Content) → Holds X.source (kind_of X.source 0) k → μ k ≤ image_by B X k
unfolding image_by
measure_never_more B μ M X valid k held =
    measure-grows B μ M X (fillers B X.target) valid (placements_always_fit B X _ valid) (rest_always_fits X valid) 0 valid.source_sound.well_formed.has_root k held

-- a source document has at most the levels of its image
pub levels_never_more : (X : Setting) → Valid X → (k : Content) → Holds X.source (kind_of X.source 0) k → levels k ≤ levels (image X k)
unfolding levels_of image
levels_never_more X valid k held =
    rw (image_hom content levels_of levels levels_hom X k)
    (measure_never_more levels_of levels (levels_measure refl (λ c r. refl) (λ t j r. refl) (λ t j r. omega arith)) X valid k held)

-- what its root holds has at most the bytes of what its image's root holds
pub bytes_never_more : (X : Setting) → Valid X → (k : Content) → Holds X.source (kind_of X.source 0) k → length (bytes k) ≤ length (bytes (image X k))
unfolding length_of image
bytes_never_more X valid k held =
    rw (image_hom content length_of size size_hom X k)
    (measure_never_more length_of size (size_measure refl (λ c r. refl) (λ t j r. refl) (λ t j r. omega arith)) X valid k held)

-- and so it has at most the bytes of its image
pub document_never_longer : (X : Setting) → Valid X → (k : Content) → Holds X.source (kind_of X.source 0) k → length (document 0 k) ≤ length (document 0 (image X k))
document_never_longer X valid k held = omega (arith, document-length 0 k, document-length 0 (image X k), bytes_never_more X valid k held)
