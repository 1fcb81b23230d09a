-- The placements of a source element under a valid embedding have a place for each of them, none in another's way
-- (`placements_fit`). A single path always has; several paths leave only sequences and lists and part from each other,
-- so wherever one ends no other goes on.
use Rattle.std.specs.Prelude.{◌≡◌, Bool, true, not, ◌⊎◌, ℕ, zero, suc, ◌≤◌, length, eqb}
use Rattle.std.proofs.Math.Path.{refl, ap}
use Rattle.std.proofs.Common.{sym, ◌∙◌, subst, inl, inr, arith, eqb-true, eq-eqb}
use Rattle.std.proofs.Math.Bool.{false}
use mathlib.Core.List.Memᴰ
use mathlib.Core.List.{List, [], ◌∷◌, Memᴰ}
use Rattle.std.proofs.Math.Option.{none, some}
use Rattle.std.proofs.lemmas.Bool.{eqb-false}
use Rattle.model.specs.Definitions.Basics.{pick, entry, some_of, is_there}
use Rattle.model.specs.Definitions.Table.{Kind, text, empty, sequence, choice, list, Table, kind_of, members_of, step_from, is_sequence, is_choice, is_list}
use Rattle.model.specs.Definitions.Embedding.{first_path, next, or_root, end_of, leaves, Behind, both_end, first_ends, second_ends, apart, parting, Divided, divide, divide_at, before_choice}
use Rattle.model.specs.Definitions.EmbeddingChecks.{max_steps, leaves_only, sequence_or_list, right_steps, where_one_ends, clash_reason, clash}
use Rattle.model.specs.Definitions.Filler.{Builder}
use Rattle.model.specs.Definitions.Image.{Setting, Placement, placed, under, beyond, Child, letter, element, along_paths, along_choice, path_of_member, along_list, placements}
use Rattle.model.proofs.Theorems.Facts.{Walks, arrived, onward, GoodPath, MemberPath, Along, along_none, along_both, All, all_none, all_more, Pairs, pairs_none, pairs_more, Compatible, ValidEdges, text_edge, no_edge, sequence_edges, choice_edges, list_edge, Starts, starts_none, starts_more, Leads, Fits, nothing_placed, right_here, below_sequence, below_choice, below_list}
use Rattle.model.proofs.Theorems.Tools.{pick_true, pick_false, true_false, some_none, and_left}
use Rattle.model.proofs.Theorems.Partings.{behind_shared}

-- ---- steps

-- a step that exists leads to the next type
pub next_is : (T : Table) (τ p m : ℕ) {κ : Kind} → kind_of T τ ≡ κ → step_from κ p ≡ some m → next T τ p ≡ m
unfolding next or_root
next_is T τ p m e f = rw (e, f)

pub entry_nil : {A : Type 0} (p : ℕ) → entry {A = A} p [] ≡ none
unfolding entry
entry_nil zero = refl
entry_nil (suc p) = refl

-- a list has only step 1
pub list_step : (m p : ℕ) {t : ℕ} → step_from (list m) p ≡ some t → p ≡ 1
unfolding step_from members_of entry
list_step m zero e = some_none e refl
list_step m (suc zero) e = refl
list_step m (suc (suc p)) e = some_none e refl

-- text and empty types have none
no_step : {X : Type 0} (p : ℕ) {t : ℕ} (κ : Kind) → members_of κ ≡ [] → step_from κ p ≡ some t → X
unfolding step_from
no_step p κ e f = some_none (rw e at f) (entry_nil p)

pub no_text_step : {X : Type 0} (p : ℕ) {t : ℕ} → step_from text p ≡ some t → X
unfolding members_of
no_text_step p f = no_step p text refl f

pub no_empty_step : {X : Type 0} (p : ℕ) {t : ℕ} → step_from empty p ≡ some t → X
unfolding members_of
no_empty_step p f = no_step p empty refl f

-- ---- what is placed under a step

pub under_same : {A : Type 0} (p : ℕ) (path : List ℕ) (a : A) (ps : List (Placement A)) → under p (placed (p ∷ path) a ∷ ps) ≡ placed path a ∷ under p ps
unfolding under beyond
under_same p path a ps = pick_true (eqb p p) _ _ (eq-eqb p p refl)

pub under_other : {A : Type 0} (p q : ℕ) (path : List ℕ) (a : A) (ps : List (Placement A)) → eqb p q ≡ false → under p (placed (q ∷ path) a ∷ ps) ≡ under p ps
unfolding under beyond
under_other p q path a ps e = pick_false (eqb p q) _ _ e

-- ---- a single path fits

-- no path has n steps or more, so there is a step to go
single_under : {A : Type 0} (T : Table) (n m p q : ℕ) (path : List ℕ) (a : A)
    → (p ≡ q → Fits T (suc n) m (placed path a ∷ [])) → Fits T (suc n) m (under p (placed (q ∷ path) a ∷ []))
unfolding under
single_under T n m p q path a f = go (eqb p q) refl
  where
    go : (b : Bool) → eqb p q ≡ b → Fits T (suc n) m (under p (placed (q ∷ path) a ∷ []))
    go true e = subst (λ (r : ℕ). Fits T (suc n) m (under p (placed (r ∷ path) a ∷ []))) (eqb-true p q e) (rw (under_same p path a []) (f (eqb-true p q e)))
    go false e = rw (under_other p q path a [] e) nothing_placed

-- a member of a sequence is where its step leads
pub entry_next : (T : Table) (τ p m : ℕ) {ms : List ℕ} → kind_of T τ ≡ sequence ms → entry p ms ≡ some m → next T τ p ≡ m
unfolding step_from members_of
entry_next T τ p m e f = next_is T τ p m e f

-- a list's item is where step 1 leads
pub item_next : (T : Table) (τ m : ℕ) → kind_of T τ ≡ list m → next T τ 1 ≡ m
unfolding step_from members_of entry
item_next T τ m e = next_is T τ 1 m e refl

single_step : {A : Type 0} (T : Table) (n τ p : ℕ) (path : List ℕ) (a : A) (κ : Kind)
    → kind_of T τ ≡ κ → step_from (kind_of T τ) p ≡ some (next T τ p)
    → Fits T (suc n) (next T τ p) (placed path a ∷ []) → Fits T (suc (suc n)) τ (placed (p ∷ path) a ∷ [])
single_step T n τ p path a text e w f = no_text_step p (rw e at w)
single_step T n τ p path a empty e w f = no_empty_step p (rw e at w)
single_step T n τ p path a (sequence ms) e w f =
    below_sequence ms e (starts_more (next T τ p, rw e at w) starts_none)
    (λ q m g. single_under T n m q p path a
    (λ same. subst (λ (t : ℕ). Fits T (suc n) t (placed path a ∷ [])) (entry_next T τ p m e (rw same at g)) f))
single_step T n τ p path a (choice need ms) e w f =
    below_choice need ms e (rw e at w) (starts_more refl starts_none) (single_under T n (next T τ p) p p path a (λ same. f))
single_step T n τ p path a (list m) e w f =
    let one : p ≡ 1 = list_step m p (rw e at w) in
    subst (λ (q : ℕ). Fits T (suc (suc n)) τ (placed (q ∷ path) a ∷ [])) (sym one)
    (below_list m e (starts_more refl starts_none)
    (single_under T n m 1 1 path a
    (λ same. subst (λ (t : ℕ). Fits T (suc n) t (placed path a ∷ [])) (ap (next T τ) one ∙ item_next T τ m e) f)))

-- a single path that exists fits
pub single_fits : {A : Type 0} (T : Table) (n : ℕ) {τ : ℕ} {path : List ℕ} (a : A)
    → Walks T τ path → length path ≤ n → Fits T (suc n) τ (placed path a ∷ [])
single_fits T n a arrived h = right_here
single_fits T zero a (onward e w) h = absurd (omega arith)
single_fits T (suc n) a (onward {τ = τ} {p = p} {ps = path} e w) h = single_step T n τ p path a (kind_of T τ) refl e (single_fits T n a w (omega arith))

-- ---- several paths fit that leave only sequences and lists and part from each other

-- two paths differ at a step that both have
pub data Diverge : List ℕ → List ℕ → Type 0 where
  at_once : {p q : ℕ} {ps qs : List ℕ} → eqb p q ≡ false → Diverge (p ∷ ps) (q ∷ qs)
  later : {p q : ℕ} {ps qs : List ℕ} → p ≡ q → Diverge ps qs → Diverge (p ∷ ps) (q ∷ qs)

-- a path that exists, has at most n steps, and leaves only sequences and lists
pub record Plain (T : Table) (τ n : ℕ) (path : List ℕ) : Type 0 where
  pub walks : Walks T τ path
  pub short : length path ≤ n
  pub plain : leaves_only sequence_or_list (leaves T τ path) ≡ true

abbrev PlainPlaced : {A : Type 0} → Table → ℕ → ℕ → Placement A → Type 0
PlainPlaced T τ n (placed path a) = Plain T τ n path

abbrev DivergePlaced : {A : Type 0} → Placement A → Placement A → Type 0
DivergePlaced (placed path a) (placed other b) = Diverge path other

nil_diverges : {X : Type 0} {path : List ℕ} → Diverge [] path → X
nil_diverges h = elim h [ ]

diverges_end : {X : Type 0} {path other : List ℕ} → Diverge path other → other ≡ [] → X
diverges_end (at_once e) f = let z : ◌≡◌ {A = ℕ} 0 1 = cc in absurd (omega arith)
diverges_end (later e h) f = let z : ◌≡◌ {A = ℕ} 0 1 = cc in absurd (omega arith)

-- nothing diverges from a path without steps
none_beside : {A : Type 0} (a : A) (ps : List (Placement A)) → All (DivergePlaced (placed [] a)) ps → ps ≡ []
none_beside a [] h = refl
none_beside a (placed path b ∷ ps) (all_more d h) = nil_diverges d

-- after a common first step, paths that diverge still do
diverge_rest : (p : ℕ) (ps qs : List ℕ) → Diverge (p ∷ ps) (p ∷ qs) → Diverge ps qs
diverge_rest p ps qs (at_once e) = true_false (eq-eqb p p refl) e
diverge_rest p ps qs (later e h) = h

-- the first kind left, and the others
pub leaves_only_lem : (test : Kind → Bool) (κ : Kind) (κs : List Kind) → leaves_only test (κ ∷ κs) ≡ true → (test κ ≡ true) × (leaves_only test κs ≡ true)
unfolding leaves_only some_of
leaves_only_lem test κ κs e = go (test κ) refl
  where
    go : (b : Bool) → test κ ≡ b → (test κ ≡ true) × (not (some_of (λ κ'. not (test κ')) κs) ≡ true)
    go true f = (f, rw f at e)
    go false f = true_false (rw f at e) refl

pub walks_step : {T : Table} {τ p : ℕ} {path : List ℕ} → Walks T τ (p ∷ path) → step_from (kind_of T τ) p ≡ some (next T τ p)
walks_step (onward e w) = e

pub walks_rest : {T : Table} {τ p : ℕ} {path : List ℕ} → Walks T τ (p ∷ path) → Walks T (next T τ p) path
walks_rest (onward e w) = w

-- what holds of all placements beyond a step
pub under_all : {A : Type 0} (P Q : Placement A → Type 0) (p : ℕ) → ((path : List ℕ) (a : A) → P (placed (p ∷ path) a) → Q (placed path a))
    → (ps : List (Placement A)) → All P ps → All Q (under p ps)
unfolding under beyond pick
under_all P Q p f [] all_none = all_none
under_all P Q p f (placed [] a ∷ ps) (all_more h al) = under_all P Q p f ps al
under_all {A} P Q p f (placed (q ∷ path) a ∷ ps) (all_more h al) = go (eqb p q) refl (under_all P Q p f ps al)
  where
    go : (b : Bool) → eqb p q ≡ b → All Q (under p ps) → All Q (under p (placed (q ∷ path) a ∷ ps))
    go true e rest = rw e (all_more (f path a (subst (λ (r : ℕ). P (placed (r ∷ path) a)) (sym (eqb-true p q e)) h)) rest)
    go false e rest = rw e rest

under_pairs : {A : Type 0} (p : ℕ) (ps : List (Placement A)) → Pairs DivergePlaced ps → Pairs DivergePlaced (under p ps)
unfolding under beyond pick
under_pairs p [] pairs_none = pairs_none
under_pairs p (placed [] a ∷ ps) (pairs_more d pr) = under_pairs p ps pr
under_pairs {A} p (placed (q ∷ path) a ∷ ps) (pairs_more d pr) = go (eqb p q) refl (under_pairs p ps pr)
  where
    beside : p ≡ q → All (DivergePlaced (placed path a)) (under p ps)
    beside same =
        under_all (DivergePlaced (placed (p ∷ path) a)) (DivergePlaced (placed path a)) p (λ other b h. diverge_rest p path other h) ps
        (subst (λ (r : ℕ). All (DivergePlaced (placed (r ∷ path) a)) ps) (sym same) d)

    go : (b : Bool) → eqb p q ≡ b → Pairs DivergePlaced (under p ps) → Pairs DivergePlaced (under p (placed (q ∷ path) a ∷ ps))
    go true e rest = rw e (pairs_more (beside (eqb-true p q e)) rest)
    go false e rest = rw e rest

-- the rest of a plain path, after the step to m
plain_rest : (T : Table) (τ n p m : ℕ) (path : List ℕ) → next T τ p ≡ m → Plain T τ (suc n) (p ∷ path) → Plain T m n path
unfolding leaves
plain_rest T τ n p m path e h =
    record {
      walks = subst (λ (t : ℕ). Walks T t path) e (walks_rest h.walks);
      short = omega arith;
      plain = subst (λ (t : ℕ). leaves_only sequence_or_list (leaves T t path) ≡ true) e (leaves_only_lem sequence_or_list _ _ h.plain).1;
    }

-- paths that diverge from one with a step have a step each
all_start : {A : Type 0} (T : Table) (τ n q : ℕ) (path : List ℕ) (a : A) (ok : ℕ → Type 0)
    → ((p : ℕ) → step_from (kind_of T τ) p ≡ some (next T τ p) → ok p)
    → (ps : List (Placement A)) → All (PlainPlaced T τ n) ps → All (DivergePlaced (placed (q ∷ path) a)) ps → Starts ok ps
all_start T τ n q path a ok f [] all_none all_none = starts_none
all_start T τ n q path a ok f (placed [] b ∷ ps) (all_more h al) (all_more d ds) = diverges_end d refl
all_start T τ n q path a ok f (placed (p ∷ other) b ∷ ps) (all_more h al) (all_more d ds) =
    starts_more (f p (walks_step h.walks)) (all_start T τ n q path a ok f ps al ds)

many_step : {A : Type 0} (T : Table) (n τ q : ℕ) (path : List ℕ) (a : A) (ps : List (Placement A)) (κ : Kind) → kind_of T τ ≡ κ
    → All (PlainPlaced T τ (suc n)) (placed (q ∷ path) a ∷ ps) → Pairs DivergePlaced (placed (q ∷ path) a ∷ ps)
    → ((m : ℕ) (qs : List (Placement A)) → All (PlainPlaced T m n) qs → Pairs DivergePlaced qs → Fits T (suc n) m qs)
    → Fits T (suc (suc n)) τ (placed (q ∷ path) a ∷ ps)
unfolding leaves sequence_or_list is_sequence is_list
many_step T n τ q path a ps text e (all_more h al) pr rec = no_text_step q (rw e at (walks_step h.walks))
many_step T n τ q path a ps empty e (all_more h al) pr rec = no_empty_step q (rw e at (walks_step h.walks))
many_step T n τ q path a ps (sequence ms) e (all_more h al) (pairs_more d pr) rec =
    below_sequence ms e (starts_more (next T τ q, rw e at (walks_step h.walks)) (all_start T τ (suc n) q path a (Leads (sequence ms)) (λ p w. (next T τ p, rw e at w)) ps al d))
    (λ p m g. rec m (under p (placed (q ∷ path) a ∷ ps))
    (under_all (PlainPlaced T τ (suc n)) (PlainPlaced T m n) p (λ other b k. plain_rest T τ n p m other (entry_next T τ p m e g) k) (placed (q ∷ path) a ∷ ps) (all_more h al))
    (under_pairs p (placed (q ∷ path) a ∷ ps) (pairs_more d pr)))
many_step T n τ q path a ps (choice need ms) e (all_more h al) pr rec = no_choice (leaves_only_lem sequence_or_list _ _ h.plain).0
  where
    no_choice : {X : Type 0} → sequence_or_list (kind_of T τ) ≡ true → X
    no_choice f = true_false (rw e at f) refl
many_step T n τ q path a ps (list m) e (all_more h al) (pairs_more d pr) rec =
    let one : q ≡ 1 = list_step m q (rw e at (walks_step h.walks)) in
    subst (λ (r : ℕ). Fits T (suc (suc n)) τ (placed (r ∷ path) a ∷ ps)) (sym one)
    (below_list m e (starts_more refl (all_start T τ (suc n) q path a (λ p. p ≡ 1) (λ p w. list_step m p (rw e at w)) ps al d))
    (rec m (under 1 (placed (1 ∷ path) a ∷ ps))
    (under_all (PlainPlaced T τ (suc n)) (PlainPlaced T m n) 1 (λ other b k. plain_rest T τ n 1 m other (item_next T τ m e) k) (placed (1 ∷ path) a ∷ ps)
    (all_more (subst (λ (r : ℕ). Plain T τ (suc n) (r ∷ path)) one h) al))
    (under_pairs 1 (placed (1 ∷ path) a ∷ ps) (pairs_more (subst (λ (r : ℕ). All (DivergePlaced (placed (r ∷ path) a)) ps) one d) pr))))

-- several paths fit; the first argument bounds their steps
many_fit : {A : Type 0} (T : Table) (n τ : ℕ) (ps : List (Placement A)) → All (PlainPlaced T τ n) ps → Pairs DivergePlaced ps → Fits T (suc n) τ ps
many_fit T zero τ [] al pr = nothing_placed
many_fit {A} T zero τ (placed [] a ∷ ps) al (pairs_more d pr) = subst (λ (r : List (Placement A)). Fits T 1 τ (placed [] a ∷ r)) (sym (none_beside a ps d)) right_here
many_fit T zero τ (placed (q ∷ path) a ∷ ps) (all_more h al) pr = absurd (omega arith)
many_fit T (suc n) τ [] al pr = nothing_placed
many_fit {A} T (suc n) τ (placed [] a ∷ ps) al (pairs_more d pr) =
    subst (λ (r : List (Placement A)). Fits T (suc (suc n)) τ (placed [] a ∷ r)) (sym (none_beside a ps d)) right_here
many_fit T (suc n) τ (placed (q ∷ path) a ∷ ps) al pr = many_step T n τ q path a ps (kind_of T τ) refl al pr (λ m qs. many_fit T n m qs)

-- ---- the placements of a source element

-- two paths of a sequence that don't clash diverge
apart_diverge : (T : Table) (τ : ℕ) (ps qs : List ℕ) (κ : Kind) → (parting T τ ps qs).behind ≡ apart κ → Diverge ps qs
unfolding parting
apart_diverge T τ [] [] κ e = let z : ◌≡◌ {A = ℕ} 0 1 = cc in absurd (omega arith)
apart_diverge T τ [] (q ∷ qs) κ e = let z : ◌≡◌ {A = ℕ} 0 1 = cc in absurd (omega arith)
apart_diverge T τ (p ∷ ps) [] κ e = let z : ◌≡◌ {A = ℕ} 0 1 = cc in absurd (omega arith)
apart_diverge T τ (p ∷ ps) (q ∷ qs) κ e = go (eqb p q) refl (apart_diverge T (next T τ p) ps qs κ)
  where
    go : (b : Bool) → eqb p q ≡ b → ((parting T (next T τ p) ps qs).behind ≡ apart κ → Diverge ps qs) → Diverge (p ∷ ps) (q ∷ qs)
    go true f rec = later (eqb-true p q f) (rec (sym (behind_shared T τ p q ps qs f) ∙ e))
    go false f rec = at_once f

pub sequence_diverge : (T : Table) (τ : ℕ) (ms ps qs : List ℕ) → clash T (sequence ms) τ ps qs ≡ false → Diverge ps qs
unfolding clash clash_reason where_one_ends is_there
sequence_diverge T τ ms ps qs e = go (parting T τ ps qs).behind refl
  where
    go : (b : Behind) → (parting T τ ps qs).behind ≡ b → Diverge ps qs
    go both_end f = true_false refl (rw f at e)
    go first_ends f = true_false refl (rw f at e)
    go second_ends f = true_false refl (rw f at e)
    go (apart κ) f = apart_diverge T τ ps qs κ f

module _ {A : Type 0} (X : Setting) (τ : ℕ) (ms : List ℕ) where
  -- paths of a sequence's members are plain
  along_plain : (ns : List ℕ) (pss : List (List ℕ)) (ks : List (Child A)) → Along (MemberPath X τ (sequence ms)) ns pss
      → All (PlainPlaced X.target τ max_steps) (along_paths pss ks)
  unfolding along_paths right_steps
  along_plain [] [] ks al = all_none
  along_plain [] (ps ∷ pss) ks al = elim al [ ]
  along_plain (n ∷ ns) [] ks al = elim al [ ]
  along_plain (n ∷ ns) (ps ∷ pss) [] (along_both h al) = all_none
  along_plain (n ∷ ns) (ps ∷ pss) (letter c ∷ ks) (along_both h al) = all_none
  along_plain (n ∷ ns) (ps ∷ pss) (element t a ∷ ks) (along_both h al) =
      let p : Plain X.target τ max_steps ps = record { walks = h.good.walks; short = h.good.short; plain = and_left _ _ h.good.right } in
      all_more p (along_plain ns pss ks al)

  beside_diverge : (ps : List ℕ) (a : A) (pss : List (List ℕ)) (ks : List (Child A)) → All (Compatible X τ (sequence ms) ps) pss
      → All (DivergePlaced (placed ps a)) (along_paths pss ks)
  unfolding along_paths
  beside_diverge ps a [] ks all_none = all_none
  beside_diverge ps a (qs ∷ pss) [] (all_more h al) = all_none
  beside_diverge ps a (qs ∷ pss) (letter c ∷ ks) (all_more h al) = all_none
  beside_diverge ps a (qs ∷ pss) (element t b ∷ ks) (all_more h al) =
      all_more (sequence_diverge X.target τ ms ps qs h) (beside_diverge ps a pss ks al)

  along_diverge : (pss : List (List ℕ)) (ks : List (Child A)) → Pairs (Compatible X τ (sequence ms)) pss → Pairs DivergePlaced (along_paths pss ks)
  unfolding along_paths
  along_diverge [] ks pairs_none = pairs_none
  along_diverge (ps ∷ pss) [] (pairs_more h pr) = pairs_none
  along_diverge (ps ∷ pss) (letter c ∷ ks) (pairs_more h pr) = pairs_none
  along_diverge (ps ∷ pss) (element t a ∷ ks) (pairs_more h pr) = pairs_more (beside_diverge ps a pss ks h) (along_diverge pss ks pr)

-- the path of a member of a choice exists; so does the path without steps, which stands for no member
pub member_walks : (X : Setting) (τ t : ℕ) (κ : Kind) (ms : List ℕ) (pss : List (List ℕ)) → Along (MemberPath X τ κ) ms pss
    → Walks X.target τ (path_of_member t ms pss) × (length (path_of_member t ms pss) ≤ max_steps)
unfolding path_of_member
member_walks X τ t κ [] [] along_none = (arrived, omega arith)
member_walks X τ t κ [] (ps ∷ pss) x'' = elim x'' [ ]
member_walks X τ t κ (m ∷ ms) [] x3 = elim x3 [ ]
member_walks X τ t κ (m ∷ ms) (ps ∷ pss) (along_both h al) = go (eqb t m) refl (member_walks X τ t κ ms pss al)
  where
    go : (b : Bool) → eqb t m ≡ b → Walks X.target τ (path_of_member t ms pss) × (length (path_of_member t ms pss) ≤ max_steps)
        → Walks X.target τ (path_of_member t (m ∷ ms) (ps ∷ pss)) × (length (path_of_member t (m ∷ ms) (ps ∷ pss)) ≤ max_steps)
    go true e rec = rw (pick_true (eqb t m) ps (path_of_member t ms pss) e) (h.good.walks, h.good.short)
    go false e rec = rw (pick_false (eqb t m) ps (path_of_member t ms pss) e) rec

-- the path of a choice's member is one of the good ones
pub path_of_member_lem : {X : Setting} {τ : ℕ} {κ : Kind} {ms : List ℕ} {pss : List (List ℕ)} (t : ℕ)
    → Memᴰ t ms → Along (MemberPath X τ κ) ms pss → GoodPath X τ κ (path_of_member t ms pss)
unfolding path_of_member
path_of_member_lem t mem along_none = absurd (Memᴰ.not-nil mem)
path_of_member_lem {X} {τ} {κ} t mem (along_both {a = m} {b = p} {xs = ms} {ys = pss} r rs) = go (eqb t m) refl (λ inTail. path_of_member_lem t inTail rs)
  where
    go : (b : Bool) → eqb t m ≡ b → (Memᴰ t ms → GoodPath X τ κ (path_of_member t ms pss)) → GoodPath X τ κ (pick (eqb t m) p (path_of_member t ms pss))
    go true e rec = rw (pick_true (eqb t m) p (path_of_member t ms pss) e) r.good
    go false e rec = rw (pick_false (eqb t m) p (path_of_member t ms pss) e) (rec (in_tail (Memᴰ.cases_cons mem)))
      where
        in_tail : (t ≡ m) ⊎ Memᴰ t ms → Memᴰ t ms
        in_tail (inl same) = absurd (eqb-false t m e same)
        in_tail (inr found) = found

-- the first path of a choice exists
first_walks : (X : Setting) (τ : ℕ) (κ : Kind) {ms : List ℕ} {pss : List (List ℕ)} → Along (MemberPath X τ κ) ms pss
    → Walks X.target τ (first_path pss) × (length (first_path pss) ≤ max_steps)
unfolding first_path
first_walks X τ κ along_none = (arrived, omega arith)
first_walks X τ κ (along_both h al) = (h.good.walks, h.good.short)

-- the steps of a path before its first choice step exist, and are no more than the path's
before_walks : (T : Table) (τ : ℕ) (ps : List ℕ) → Walks T τ ps → Walks T τ (before_choice T τ ps) × (length (before_choice T τ ps) ≤ length ps)
unfolding before_choice
before_walks T τ [] w = (arrived, omega arith)
before_walks T τ (p ∷ ps) w = go (is_choice (kind_of T τ)) (before_walks T (next T τ p) ps (walks_rest w))
  where
    go : (b : Bool) → Walks T (next T τ p) (before_choice T (next T τ p) ps) × (length (before_choice T (next T τ p) ps) ≤ length ps)
        → Walks T τ (pick b [] (p ∷ before_choice T (next T τ p) ps)) × (length (pick b [] (p ∷ before_choice T (next T τ p) ps)) ≤ suc (length ps))
    go true rec = unfold pick in (arrived, omega arith)
    go false rec = unfold pick in (onward (walks_step w) rec.0, omega arith)

-- so do those that the paths of an optional choice share
pub shared_walks : (X : Setting) (τ : ℕ) (κ : Kind) {ms : List ℕ} {pss : List (List ℕ)} → Along (MemberPath X τ κ) ms pss
    → Walks X.target τ (before_choice X.target τ (first_path pss)) × (length (before_choice X.target τ (first_path pss)) ≤ max_steps)
shared_walks X τ κ {pss = pss} al =
    let whole = first_walks X τ κ al in
    let part = before_walks X.target τ (first_path pss) whole.0 in
    (part.0, omega arith)

-- a path divided at its first list: both parts exist, and are no longer than the whole
pub record GoodParts (T : Table) (τ n : ℕ) (d : Divided) : Type 0 where
  pub before_walks : Walks T τ d.before
  pub before_short : length d.before ≤ n
  pub rest_walks : Walks T d.item d.rest
  pub rest_short : length d.rest ≤ n

-- a step in front that leaves no list
one_step_more_lem : (T : Table) (τ n p : ℕ) (ps : List ℕ) (d : Divided) → Walks T τ (p ∷ ps) → GoodParts T (next T τ p) n d
    → GoodParts T τ (suc n) (record { before = p ∷ d.before; item = d.item; rest = d.rest })
one_step_more_lem T τ n p ps d w g = record { before_walks = onward (walks_step w) g.before_walks; before_short = omega arith; rest_walks = g.rest_walks; rest_short = omega arith }

divide_step : (T : Table) (τ n p : ℕ) (ps : List ℕ) (d : Divided) (κ : Kind) → kind_of T τ ≡ κ → Walks T τ (p ∷ ps) → length ps ≤ n
    → GoodParts T (next T τ p) n d → GoodParts T τ (suc n) (divide_at κ p ps d)
unfolding divide_at
divide_step T τ n p ps d text e w h g = one_step_more_lem T τ n p ps d w g
divide_step T τ n p ps d empty e w h g = one_step_more_lem T τ n p ps d w g
divide_step T τ n p ps d (sequence ms) e w h g = one_step_more_lem T τ n p ps d w g
divide_step T τ n p ps d (choice need ms) e w h g = one_step_more_lem T τ n p ps d w g
divide_step T τ n p ps d (list m) e w h g =
    record {
      before_walks = arrived;
      before_short = omega arith;
      rest_walks = subst (λ (t : ℕ). Walks T t ps) (ap (next T τ) (list_step m p (rw e at (walks_step w))) ∙ item_next T τ m e) (walks_rest w);
      rest_short = omega arith;
    }

pub divide_good : (T : Table) (τ n : ℕ) (ps : List ℕ) → Walks T τ ps → length ps ≤ n → GoodParts T τ n (divide T τ ps)
unfolding divide
divide_good T τ n [] w h = record { before_walks = arrived; before_short = omega arith; rest_walks = arrived; rest_short = omega arith }
divide_good T τ zero (p ∷ ps) w h = absurd (omega arith)
divide_good T τ (suc n) (p ∷ ps) w h =
    divide_step T τ n p ps (divide T (next T τ p) ps) (kind_of T τ) refl w (omega arith) (divide_good T (next T τ p) n ps (walks_rest w) (omega arith))

-- a path that leaves a list, divided there: the part before it ends at the list, and the rest ends where the path does
pub record AtList (T : Table) (τ : ℕ) (ps : List ℕ) (d : Divided) : Type 0 where
  pub is_list_lem : kind_of T (end_of T τ d.before) ≡ list d.item
  pub same_end : end_of T d.item d.rest ≡ end_of T τ ps

list_further : (T : Table) (τ p : ℕ) (ps : List ℕ) (d : Divided) → AtList T (next T τ p) ps d
    → AtList T τ (p ∷ ps) (record { before = p ∷ d.before; item = d.item; rest = d.rest })
unfolding end_of
list_further T τ p ps d h = record { is_list_lem = h.is_list_lem; same_end = h.same_end }

list_step_at : (T : Table) (τ p : ℕ) (ps : List ℕ) (d : Divided) (κ : Kind) → kind_of T τ ≡ κ → step_from (kind_of T τ) p ≡ some (next T τ p)
    → some_of is_list (κ ∷ leaves T (next T τ p) ps) ≡ true
    → (some_of is_list (leaves T (next T τ p) ps) ≡ true → AtList T (next T τ p) ps d) → AtList T τ (p ∷ ps) (divide_at κ p ps d)
unfolding divide_at some_of is_list
list_step_at T τ p ps d text e w f rec = list_further T τ p ps d (rec f)
list_step_at T τ p ps d empty e w f rec = list_further T τ p ps d (rec f)
list_step_at T τ p ps d (sequence ms) e w f rec = list_further T τ p ps d (rec f)
list_step_at T τ p ps d (choice need ms) e w f rec = list_further T τ p ps d (rec f)
list_step_at T τ p ps d (list m) e w f rec = at-list (ap (next T τ) (list_step m p (rw e at w)) ∙ item_next T τ m e)
  where
    at-list : next T τ p ≡ m → AtList T τ (p ∷ ps) (record { before = []; item = m; rest = ps })
    at-list to_item = unfold end_of in record { is_list_lem = e; same_end = ap (λ (t : ℕ). end_of T t ps) (sym to_item) }

pub divide_at_list : (T : Table) (τ : ℕ) (ps : List ℕ) → Walks T τ ps → some_of is_list (leaves T τ ps) ≡ true → AtList T τ ps (divide T τ ps)
unfolding divide leaves
divide_at_list T τ [] w f = true_false f (no_kind is_list)
  where
    no_kind : (test : Kind → Bool) → some_of test [] ≡ false
    no_kind test = unfold some_of in refl
divide_at_list T τ (p ∷ ps) w f =
    list_step_at T τ p ps (divide T (next T τ p) ps) (kind_of T τ) refl (walks_step w) f (divide_at_list T (next T τ p) ps (walks_rest w))

-- what a choice of either kind places can be placed: its member at the end of a path, nothing at the end of the shared steps
choice_fits : {A : Type 0} (B : Builder A) (X : Setting) (τ : ℕ) (κ : Kind) (ms : List ℕ) (pss : List (List ℕ)) (ks : List (Child A))
    → Along (MemberPath X τ κ) ms pss → Fits X.target (suc max_steps) τ (along_choice B (before_choice X.target τ (first_path pss)) ms pss ks)
unfolding along_choice
choice_fits B X τ κ ms pss [] al = single_fits X.target max_steps _ (shared_walks X τ κ al).0 (shared_walks X τ κ al).1
choice_fits B X τ κ ms pss (letter c ∷ ks) al = single_fits X.target max_steps _ (shared_walks X τ κ al).0 (shared_walks X τ κ al).1
choice_fits B X τ κ ms pss (element t a ∷ ks) al =
    single_fits X.target max_steps a (member_walks X τ t κ ms pss al).0 (member_walks X τ t κ ms pss al).1

-- whatever a source element's children are, there is a place for all of them below its image
pub placements_fit : {A : Type 0} (B : Builder A) (X : Setting) (fs : List A) (τ : ℕ) (κ : Kind) (pss : List (List ℕ)) (ks : List (Child A))
    → ValidEdges X τ κ pss → Fits X.target (suc max_steps) τ (placements B X.target fs κ τ pss ks)
unfolding placements first_path along_list
placements_fit B X fs τ text (ps ∷ []) ks (text_edge g e) = single_fits X.target max_steps _ g.walks g.short
placements_fit B X fs τ empty [] ks no_edge = nothing_placed
placements_fit B X fs τ (sequence ms) pss ks (sequence_edges al pr) =
    many_fit X.target max_steps τ (along_paths pss ks) (along_plain X τ ms ms pss ks al) (along_diverge X τ ms pss ks pr)
placements_fit B X fs τ (choice need ms) pss ks (choice_edges al pr sh) = choice_fits B X τ (choice need ms) ms pss ks al
placements_fit B X fs τ (list m) (ps ∷ []) ks (list_edge g) =
    let parts : GoodParts X.target τ max_steps (divide X.target τ ps) = divide_good X.target τ max_steps ps g.good.walks g.good.short in
    single_fits X.target max_steps _ parts.before_walks parts.before_short
placements_fit {A = A} B X fs τ text [] ks x'' = elim x'' [ ]
placements_fit {A = A} B X fs τ text (ps ∷ (_ ∷ _)) ks x7 = elim x7 [ ]
placements_fit {A = A} B X fs τ empty (ps ∷ _) ks x4 = elim x4 [ ]
placements_fit {A = A} B X fs τ (list m) [] ks x4 = elim x4 [ ]
placements_fit {A = A} B X fs τ (list m) (ps ∷ (_ ∷ _)) ks x9 = elim x9 [ ]
