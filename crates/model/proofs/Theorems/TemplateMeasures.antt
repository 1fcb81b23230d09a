-- Levels, length and number of filler elements of what a template makes: what it has with nothing in its holes, joined with
-- what its holes hold, each once.
use Rattle.std.specs.Prelude.{◌≡◌, Bool, false, length, eqb}
use Rattle.std.proofs.Math.Path.{refl, sym, ap, ap₂}
use Rattle.std.proofs.Common.{◌∙◌, suc-add, add-suc, arith, eqb-true, eq-eqb, ne_eqb}
use Rattle.std.proofs.Math.Bool.{true}
use Rattle.std.proofs.Math.Option.{Option, some}
use mathlib.Core.List.{List, [], ◌∷◌, map}
use Prim.Native.Nat.{ℕ, suc, ◌+◌, ◌≤◌, ◌<◌, max}
use Rattle.std.proofs.Math.Nat.{zero-add, max_comm, max-zero}
use Rattle.std.proofs.Math.Numerals.{add-one}
use Rattle.std.proofs.lemmas.Bool.{eqb-false}
use Rattle.model.specs.Definitions.Basics.{entry}
use Rattle.model.specs.Definitions.Table.{list, Table, kind_of}
use Rattle.model.specs.Definitions.Embedding.{target_of, paths_of, next, Divided}
use Rattle.model.specs.Definitions.EmbeddingChecks.{max_steps}
use Rattle.model.specs.Definitions.Filler.{Builder, levels_of, fillers}
use Rattle.model.specs.Definitions.Image.{Setting, Placement, placed, beyond, under, grow_members, grow_kind, grow, place}
use Rattle.model.specs.Definitions.Templates.{Hole, holes_of, template_by, divided_of, item_by}
use Rattle.model.proofs.Theorems.Facts.{Valid, Starts, starts_none, starts_more, Fits, nothing_placed, right_here, below_sequence, below_choice, below_list}
use Rattle.model.proofs.Theorems.Tools.{pick_true}
use Rattle.model.proofs.Theorems.Measures.{on_placement, under-map, is_placed-map}
use Rattle.model.proofs.Theorems.Placing.{under_same, under_other}
use Rattle.model.proofs.Theorems.NeverLonger.{leads_range, starts_map, rest_always_fits}
use Rattle.model.proofs.Theorems.TemplateShapes.{holes_of-map, holes_fit}

-- A measure: `join` measures what stands side by side, `wrap` an element by what it holds; what is in a hole adds to an
-- element around it by `lift`.
pub record Joins (B : Builder ℕ) : Type 0 where
  pub join : ℕ → ℕ → ℕ
  pub wrap : Bool → ℕ → ℕ
  pub lift : ℕ → ℕ
  pub of_none : B.none ≡ 0
  pub of_element : (built : Bool) (t k r : ℕ) → B.element built t k r ≡ join (wrap built k) r
  pub join_comm : (a b : ℕ) → join a b ≡ join b a
  pub join_assoc : (a b c : ℕ) → join (join a b) c ≡ join a (join b c)
  pub join_zero : (a : ℕ) → join a 0 ≡ a
  pub wrap_join : (built : Bool) (k a : ℕ) → wrap built (join k a) ≡ join (wrap built k) (lift a)

-- nothing where something was placed
abbrev vacant : List (Placement ℕ) → List (Placement ℕ)
vacant ps = map (on_placement (λ a. 0)) ps

module _ (B : Builder ℕ) (M : Joins B) where
  open M use {join, wrap, lift}

  -- lifted once for each step
  unfoldable pub lifts : List ℕ → ℕ → ℕ
  lifts [] a = a
  lifts (p ∷ path) a = lift (lifts path a)

  -- what is placed, each lifted by its path
  unfoldable pub total : List (Placement ℕ) → ℕ
  total [] = 0
  total (placed path a ∷ ps) = join (lifts path a) (total ps)

  -- and once more
  raised : List (Placement ℕ) → ℕ
  raised [] = 0
  raised (placed path a ∷ ps) = join (lift (lifts path a)) (raised ps)

  swap : (a b c : ℕ) → join a (join b c) ≡ join b (join a c)
  swap a b c = rw (← M.join_assoc a b c, M.join_comm a b, M.join_assoc b a c)

  four : (a b c d : ℕ) → join (join a b) (join c d) ≡ join (join a c) (join b d)
  four a b c d = rw (M.join_assoc a b (join c d), swap b c d, ← M.join_assoc a c (join b d))

  -- what an element holds more, it measures more, lifted
  wrap_raised : (built : Bool) (k : ℕ) (ps : List (Placement ℕ)) → wrap built (join k (total ps)) ≡ join (wrap built k) (raised ps)
  unfolding total raised
  wrap_raised built k [] = rw (M.join_zero k, M.join_zero (wrap built k))
  wrap_raised built k (placed path a ∷ ps) =
      rw (swap k (lifts path a) (total ps), M.join_comm (lifts path a) (join k (total ps)), M.wrap_join, wrap_raised built k ps, M.join_assoc, M.join_comm (raised ps))

  -- what is placed below the members of a sequence, from member number p on
  spread : List (Placement ℕ) → ℕ → List ℕ → ℕ
  spread ps p [] = 0
  spread ps p (m ∷ ms) = join (raised (under p ps)) (spread ps (suc p) ms)

  -- a placement whose first step is below p isn't among them
  spread_before : (q : ℕ) (path : List ℕ) (a : ℕ) (ps : List (Placement ℕ)) (p : ℕ) (ms : List ℕ) → q < p
      → spread (placed (q ∷ path) a ∷ ps) p ms ≡ spread ps p ms
  unfolding spread
  spread_before q path a ps p [] low = refl
  spread_before q path a ps p (m ∷ ms) low =
      ap₂ join (ap raised (under_other p q path a ps (ne_eqb p q (λ e. omega arith)))) (spread_before q path a ps (suc p) ms (omega arith))

  -- one whose first step is among the members' numbers counts once
  spread_one : (q : ℕ) (path : List ℕ) (a : ℕ) (ps : List (Placement ℕ)) (p : ℕ) (ms : List ℕ) → p ≤ q → q < p + length ms
      → spread (placed (q ∷ path) a ∷ ps) p ms ≡ join (lift (lifts path a)) (spread ps p ms)
  unfolding spread
  spread_one q path a ps p [] low high = absurd (omega arith)
  spread_one q path a ps p (m ∷ ms) low high = go (eqb p q) refl (spread_one q path a ps (suc p) ms)
    where
      raised-more : raised (placed path a ∷ under p ps) ≡ join (lift (lifts path a)) (raised (under p ps))
      raised-more = unfold raised in refl

      go : (b : Bool) → eqb p q ≡ b
          → (suc p ≤ q → q < suc p + length ms → spread (placed (q ∷ path) a ∷ ps) (suc p) ms ≡ join (lift (lifts path a)) (spread ps (suc p) ms))
          → join (raised (under p (placed (q ∷ path) a ∷ ps))) (spread (placed (q ∷ path) a ∷ ps) (suc p) ms)
          ≡ join (lift (lifts path a)) (join (raised (under p ps)) (spread ps (suc p) ms))
      go true e later =
          let same : p ≡ q = eqb-true p q e in
          let here : under p (placed (q ∷ path) a ∷ ps) ≡ placed path a ∷ under p ps = rw (← same) (under_same p path a ps) in
          rw (here, spread_before q path a ps (suc p) ms (omega arith), raised-more, M.join_assoc)
      go false e later =
          let apart : p ≡ q → ⊥ = eqb-false p q e in
          rw (under_other p q path a ps e, later (omega arith) (omega arith), swap (raised (under p ps)))

  spread_none : (p : ℕ) (ms : List ℕ) → spread [] p ms ≡ 0
  unfolding spread under raised
  spread_none p [] = refl
  spread_none p (m ∷ ms) = ap (join 0) (spread_none (suc p) ms) ∙ M.join_zero 0

  total_spread : (p : ℕ) (ms : List ℕ) {ps : List (Placement ℕ)} → Starts (λ q. (p ≤ q) × (q < p + length ms)) ps → total ps ≡ spread ps p ms
  unfolding total lifts
  total_spread p ms starts_none = sym (spread_none p ms)
  total_spread p ms (starts_more {q = q} {path} {a} {ps} h later) =
      ap (join (lift (lifts path a))) (total_spread p ms later) ∙ sym (spread_one q path a ps p ms h.0 h.1)

  -- where all paths begin with q
  total_under : (q : ℕ) {ps : List (Placement ℕ)} → Starts (λ p. p ≡ q) ps → total ps ≡ raised (under q ps)
  unfolding total raised under beyond lifts
  total_under q starts_none = refl
  total_under q (starts_more {q = p} {path} {a} {ps} h later) =
      rw (pick_true (eqb q p) (placed path a ∷ under q ps) (under q ps) (eq-eqb q p (sym h))) (ap (join (lift (lifts path a))) (total_under q later))

  -- the members of a sequence
  members_parts : (inside : ℕ → List (Placement ℕ) → ℕ) (ps : List (Placement ℕ)) (p : ℕ) (ms : List ℕ)
      → ((i m : ℕ) → entry (suc i) ms ≡ some m → inside m (under (i + p) ps) ≡ join (inside m (vacant (under (i + p) ps))) (total (under (i + p) ps)))
      → grow_members B inside ps p ms ≡ join (grow_members B inside (vacant ps) p ms) (spread ps p ms)
  unfolding spread grow_members entry
  members_parts inside ps p [] each = sym (M.join_zero _)
  members_parts inside ps p (m ∷ ms) each =
      let here : inside m (under p ps) ≡ join (inside m (vacant (under p ps))) (total (under p ps)) = rw zero-add at (each 0 m refl) in
      let later : grow_members B inside ps (suc p) ms ≡ join (grow_members B inside (vacant ps) (suc p) ms) (spread ps (suc p) ms) =
      members_parts inside ps (suc p) ms (λ i m' e. rw (add-suc, ← suc-add) (each (suc i) m' e)) in
      rw (M.of_element _ m (inside m (under p ps)), M.of_element, under-map, is_placed-map, here, later, wrap_raised) (four _ _ _ _)

  zero_join : (a : ℕ) → join 0 a ≡ a
  zero_join a = M.join_comm 0 a ∙ M.join_zero a

  element_alone : (built : Bool) (t k : ℕ) → B.element built t k B.none ≡ wrap built k
  element_alone built t k = M.of_element built t k B.none ∙ ap (join (wrap built k)) M.of_none ∙ M.join_zero (wrap built k)

  -- the member of a choice, the item of a list
  one_part : (built : Bool) (t q : ℕ) (ps : List (Placement ℕ)) (inside : List (Placement ℕ) → ℕ)
      → inside (under q ps) ≡ join (inside (vacant (under q ps))) (total (under q ps))
      → B.element built t (inside (under q ps)) B.none ≡ join (B.element built t (inside (under q (vacant ps))) B.none) (raised (under q ps))
  one_part built t q ps inside e =
      element_alone built t _ ∙ ap (wrap built) e ∙ wrap_raised built _ (under q ps)
      ∙ ap (λ (k : ℕ). join k (raised (under q ps))) (sym (element_alone built t _ ∙ ap (λ (qs : List (Placement ℕ)). wrap built (inside qs)) (under-map (λ (a : ℕ). 0) q ps)))

  wrapped_more : (k a g r : ℕ) → g ≡ join k (join a 0) → join (wrap true g) r ≡ join (wrap true k) (join (lift a) r)
  wrapped_more k a g r e = rw (e, M.join_zero a, M.wrap_join, M.join_assoc)

  module _ (T : Table) (fs : List ℕ) where
    -- What grows is what grows with nothing placed, joined with all that is placed, each once.
    grow-parts : {n τ : ℕ} {ps : List (Placement ℕ)} → Fits T n τ ps → grow B T fs n τ ps ≡ join (grow B T fs n τ (vacant ps)) (total ps)
    unfolding grow grow_kind on_placement
    grow-parts nothing_placed = unfold total in sym (M.join_zero _)
    grow-parts (right_here {a = a}) = unfold total lifts in sym (zero_join (join a 0) ∙ M.join_zero a)
    grow-parts (below_sequence {n} {τ} {q} {path} {a} {ps} ms e starts fits) =
        rw (e, total_spread 1 ms (starts_map (leads_range ms) starts))
        (members_parts (λ m qs. grow B T fs n m qs) (placed (q ∷ path) a ∷ ps) 1 ms (λ i m at. rw add-one (grow-parts (fits (suc i) m at))))
    grow-parts (below_choice {n} {τ} {q} {path} {a} {ps} need ms e leads starts fits) =
        rw (e, total_under q starts) (one_part true (next T τ q) q (placed (q ∷ path) a ∷ ps) (λ qs. grow B T fs n (next T τ q) qs) (grow-parts fits))
    grow-parts (below_list {n} {τ} {path} {a} {ps} m e starts fits) = rw (e, total_under 1 starts) (one_part true m 1 (placed (1 ∷ path) a ∷ ps) (λ qs. grow B T fs n m qs) (grow-parts fits))

-- ---- templates

module _ (B : Builder ℕ) (M : Joins B) (X : Setting) (valid : Valid X) where
  -- A template measures what it does with nothing in its holes, joined with what its holes hold, each once and lifted by its path.
  pub template_parts : (s : ℕ) (t : Option ℕ) (σ : Hole → ℕ) → s < length X.source
      → template_by B σ X s t
      ≡ M.join (template_by B (λ i. 0) X s t) (total B M (holes_of σ X.target (kind_of X.source s) (target_of X.embedding s) (paths_of X.embedding s) t))
  unfolding template_by place
  template_parts s t σ exists =
      grow-parts B M X.target (fillers B X.target) (holes_fit B X _ t σ (valid.edges s exists)) ∙ rw (holes_of-map {A' = ℕ} (λ (a : ℕ). 0) σ (λ i. 0) (λ i. refl))

  -- so does an item
  pub item_parts_lem : (s m : ℕ) (a r : ℕ) → s < length X.source → kind_of X.source s ≡ list m
      → item_by B X s a r ≡ M.join (item_by B X s 0 0) (M.join (M.lift (lifts B M (divided_of X s).rest a)) r)
  unfolding item_by place divided_of
  item_parts_lem s m a r exists e =
      let d : Divided = divided_of X s in
      let g : ℕ → ℕ = λ b. grow B X.target (fillers B X.target) (suc max_steps) d.item (placed d.rest b ∷ []) in
      let inside : g a ≡ M.join (g 0) (M.join (lifts B M d.rest a) 0) =
      (unfold total on_placement in grow-parts B M X.target (fillers B X.target) (rest_always_fits X valid s m exists e a)) in
      M.of_element true d.item (g a) r ∙ wrapped_more B M (g 0) (lifts B M d.rest a) (g a) r inside
      ∙ ap (λ (x : ℕ). M.join x (M.join (M.lift (lifts B M d.rest a)) r)) (sym (M.of_element true d.item (g 0) 0 ∙ M.join_zero _))

-- ---- levels

unfoldable pub levels_join : Joins levels_of
unfolding levels_of
levels_join =
    record {
      join = max;
      wrap = λ built k. suc k;
      lift = suc;
      of_none = refl;
      of_element = λ built t k r. refl;
      join_comm = max_comm;
      join_assoc = λ a b c. omega arith;
      join_zero = max-zero;
      wrap_join = λ built k a. omega arith;
    }

-- each step of a hole's path is a level
pub levels_lift : (path : List ℕ) (a : ℕ) → lifts levels_of levels_join path a ≡ length path + a
unfolding lifts levels_join
levels_lift [] a = sym (zero-add a)
levels_lift (p ∷ path) a = omega (arith, levels_lift path a)
