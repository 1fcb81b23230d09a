-- 02, N14: paths build as many elements of an image as `path_elements` counts in the source document. Several paths build an element for
-- each of their different beginnings; the path of a source list builds its steps before the list once, and the others for each item.
use Rattle.std.specs.Prelude.{◌≡◌, Bool, ◌&&◌, ◌||◌}
use Rattle.std.proofs.Math.Path.{refl, sym, ap, ap₂}
use Rattle.std.proofs.Common.{◌∙◌, zero-add, suc-add, add-suc, suc-mul, add-one}
use Rattle.std.proofs.Math.Bool.{true, false}
use mathlib.Core.List.{List, [], ◌∷◌, ◌++◌, map}
use Rattle.std.proofs.Math.Option.{some}
use Prim.Native.Nat.{ℕ, suc, ◌+◌, ◌-◌, ◌≤◌, ◌<◌}
use native.Mathlib.Omega.{arith}
use Rattle.std.proofs.Math.ListN.{length}
use Rattle.std.proofs.Math.Dec.{eqb}
use borrow.Author.Tests.{eqb-true, eqb-false, eq-eqb, ne_eqb}
use Rattle.model.specs.Definitions.Basics.{pick, entry, some_of}
use Rattle.model.specs.Definitions.Commands.{Need}
use Rattle.model.specs.Definitions.Table.{Kind, text, sequence, choice, list, Table, kind_of}
use Rattle.model.specs.Definitions.Content.{Content}
use Rattle.model.specs.Definitions.Conformance.{Holds, no_character, one_character, nothing, no_member, one_member, chosen, left_out, no_item, one_item}
use Rattle.model.specs.Definitions.Embedding.{target_of, first_path, next, Divided, divide, same_steps}
use Rattle.model.specs.Definitions.EmbeddingChecks.{max_steps}
use Rattle.model.specs.Definitions.Filler.{fillers}
use Rattle.model.specs.Definitions.Image.{Setting, Placement, placed, beyond, under, is_placed, grow_members, grow_kind, grow, place, Child, letter, element, letters_of, along_paths, path_of_member, along_choice, items_of, along_list, placements, image_of_element, children, image_by}
use Rattle.model.specs.Definitions.Templates.{first_in}
use Rattle.model.specs.Definitions.Counting.{beginnings, beginnings_of, different, child_count, choice_steps, list_steps, kind_elements, own_elements, elements_below, path_elements}
use Rattle.model.proofs.Theorems.Facts.{GoodPath, Along, along_none, along_both, ValidEdges, text_edge, no_edge, sequence_edges, choice_edges, list_edge, Valid, Starts, starts_none, starts_more, Fits, nothing_placed, right_here, below_sequence, below_choice, below_list}
use Rattle.model.proofs.Theorems.Tools.{pick_true}
use Rattle.model.proofs.Theorems.Placing.{under_same, under_other, single_fits, divide_good, placements_fit}
use Rattle.model.proofs.Theorems.ImageConforms.{list_left}
use Rattle.model.proofs.Theorems.NeverLonger.{leads_range, starts_map}
use Rattle.model.proofs.Theorems.TemplateSizes.{divided_length}
use Rattle.model.proofs.Theorems.WithoutFiller.{built_of}
use Rattle.model.proofs.Theorems.BuiltElements.{filler_not_built}
use Rattle.model.proofs.Theorems.ByElements.{Each, each_end, each_elem, by_elements}

-- ---- different rows

-- a row that occurs again is not counted
repeated_adds_nothing : (row : List ℕ) (rows : List (List ℕ)) → some_of (same_steps row) rows ≡ true → different (row ∷ rows) ≡ different rows
unfolding different pick
repeated_adds_nothing row rows e = rw e (omega arith)

-- a row that doesn't is
new_adds_one : (row : List ℕ) (rows : List (List ℕ)) → some_of (same_steps row) rows ≡ false → different (row ∷ rows) ≡ suc (different rows)
unfolding different pick
new_adds_one row rows e = rw e (omega arith)

-- the rows that have a step
stepped : List (List ℕ) → List (List ℕ)
stepped [] = []
stepped ([] ∷ rows) = stepped rows
stepped ((q ∷ row) ∷ rows) = (q ∷ row) ∷ stepped rows

-- a row with a step occurs where it does among them
same-stepped : (q : ℕ) (row : List ℕ) (rows : List (List ℕ)) → some_of (same_steps (q ∷ row)) rows ≡ some_of (same_steps (q ∷ row)) (stepped rows)
unfolding stepped some_of same_steps
same-stepped q row [] = refl
same-stepped q row ([] ∷ rows) = same-stepped q row rows
same-stepped q row ((p ∷ other) ∷ rows) = ap (λ (b : Bool). (eqb q p && same_steps row other) || b) (same-stepped q row rows)

-- the row without steps counts once, if it occurs
different-stepped : (rows : List (List ℕ)) → different rows ≡ pick (some_of (same_steps []) rows) 1 0 + different (stepped rows)
unfolding stepped some_of same_steps pick different
different-stepped [] = refl
different-stepped ([] ∷ rows) = go (some_of (same_steps []) rows) refl (different-stepped rows)
  where
    go : (b : Bool) → some_of (same_steps []) rows ≡ b → different rows ≡ pick (some_of (same_steps []) rows) 1 0 + different (stepped rows)
        → different ([] ∷ rows) ≡ 1 + different (stepped rows)
    go true e later = repeated_adds_nothing [] rows e ∙ (rw e at later)
    go false e later = omega (arith, new_adds_one [] rows e, rw e at later)
different-stepped ((q ∷ row) ∷ rows) = rw (same-stepped q row rows, different-stepped rows) (omega arith)

-- ---- the rows that begin with a step

-- their remainders, that step taken off
tails_of : ℕ → List (List ℕ) → List (List ℕ)
tails_of p [] = []
tails_of p ([] ∷ rows) = tails_of p rows
tails_of p ((q ∷ row) ∷ rows) = pick (eqb p q) (row ∷ tails_of p rows) (tails_of p rows)

-- a row occurs where its remainder does behind its first step
same_tails : (q : ℕ) (row : List ℕ) (rows : List (List ℕ)) → some_of (same_steps (q ∷ row)) rows ≡ some_of (same_steps row) (tails_of q rows)
unfolding tails_of some_of same_steps
same_tails q row [] = refl
same_tails q row ([] ∷ rows) = same_tails q row rows
same_tails q row ((p ∷ other) ∷ rows) = go (eqb q p) (same_tails q row rows)
  where
    go : (b : Bool) → some_of (same_steps (q ∷ row)) rows ≡ some_of (same_steps row) (tails_of q rows)
        → ((b && same_steps row other) || some_of (same_steps (q ∷ row)) rows) ≡ some_of (same_steps row) (pick b (other ∷ tails_of q rows) (tails_of q rows))
    go true later = unfold pick in ap (λ (b : Bool). same_steps row other || b) later
    go false later = unfold pick in later

-- some rows with step q in front of each
abbrev behind_step : ℕ → List (List ℕ) → List (List ℕ)
behind_step q rows = map (λ (qs : List ℕ). q ∷ qs) rows

-- rows that all begin with p have all that stands behind it
tails_here : (p q : ℕ) (behind rows : List (List ℕ)) → eqb p q ≡ true → tails_of p (behind_step q behind ++ rows) ≡ behind ++ tails_of p rows
unfolding tails_of pick
tails_here p q [] rows e = refl
tails_here p q (row ∷ behind) rows e = rw (e, tails_here p q behind rows e)

-- rows that all begin with another step have none
tails_elsewhere : (p q : ℕ) (behind rows : List (List ℕ)) → eqb p q ≡ false → tails_of p (behind_step q behind ++ rows) ≡ tails_of p rows
unfolding tails_of pick
tails_elsewhere p q [] rows e = refl
tails_elsewhere p q (row ∷ behind) rows e = rw (e, tails_elsewhere p q behind rows e)

-- ---- sums over the members of a sequence

-- a number for each member, the first being member number p
sum_from : (ℕ → ℕ) → ℕ → List ℕ → ℕ
sum_from f p [] = 0
sum_from f p (m ∷ ms) = f p + sum_from f (suc p) ms

sum_zero : (p : ℕ) (ms : List ℕ) → sum_from (λ i. 0) p ms ≡ 0
unfolding sum_from
sum_zero p [] = refl
sum_zero p (m ∷ ms) = omega (arith, sum_zero (suc p) ms)

module _ (f g : ℕ → ℕ) (q : ℕ) (elsewhere : (i : ℕ) → eqb i q ≡ false → f i ≡ g i) where
  -- two sums that differ at most at a member before theirs
  sum_behind : (p : ℕ) (ms : List ℕ) → q < p → sum_from f p ms ≡ sum_from g p ms
  unfolding sum_from
  sum_behind p [] low = refl
  sum_behind p (m ∷ ms) low = omega (arith, elsewhere p (ne_eqb p q (λ e. omega arith)), sum_behind (suc p) ms (omega arith))

  -- two sums that differ by d at one of their members differ by d
  sum_one_more : (d : ℕ) → f q ≡ d + g q → (p : ℕ) (ms : List ℕ) → p ≤ q → q < p + length ms → sum_from f p ms ≡ d + sum_from g p ms
  unfolding sum_from
  sum_one_more d more p [] low high = absurd (omega arith)
  sum_one_more d more p (m ∷ ms) low high = go (eqb p q) refl (sum_one_more d more (suc p) ms)
    where
      go : (b : Bool) → eqb p q ≡ b → (suc p ≤ q → q < suc p + length ms → sum_from f (suc p) ms ≡ d + sum_from g (suc p) ms)
          → f p + sum_from f (suc p) ms ≡ d + (g p + sum_from g (suc p) ms)
      go true e later =
          let same : p ≡ q = eqb-true p q e in
          let here : f p ≡ d + g p = rw same more in
          omega (arith, here, sum_behind (suc p) ms (omega arith))
      go false e later =
          let apart : p ≡ q → ⊥ = eqb-false p q e in
          omega (arith, elsewhere p e, later (omega arith) (omega arith))

-- Different rows are as many as their different remainders behind each first step together.
abbrev Spreads : ℕ → List ℕ → List (List ℕ) → Type 0
Spreads p ms rows = different rows ≡ sum_from (λ i. different (tails_of i rows)) p ms

-- One row more: only the number behind its own step changes, and by as much.
row_spreads : (p q : ℕ) (ms row : List ℕ) (rows : List (List ℕ)) → p ≤ q → q < p + length ms → Spreads p ms rows → Spreads p ms ((q ∷ row) ∷ rows)
unfolding different
row_spreads p q ms row rows low high e =
    let here : different (tails_of q ((q ∷ row) ∷ rows)) ≡ pick (some_of (same_steps (q ∷ row)) rows) 0 1 + different (tails_of q rows) =
    ap different (tails_here q q (row ∷ []) rows (eq-eqb q q refl)) ∙ rw (same_tails q row rows) in
    ap (λ (n : ℕ). pick (some_of (same_steps (q ∷ row)) rows) 0 1 + n) e
    ∙ sym (sum_one_more _ (λ i. different (tails_of i rows)) q (λ i apart. ap different (tails_elsewhere i q (row ∷ []) rows apart)) _ here p ms low high)

rows_spread : (p q : ℕ) (ms : List ℕ) (behind rows : List (List ℕ)) → p ≤ q → q < p + length ms → Spreads p ms rows → Spreads p ms (behind_step q behind ++ rows)
rows_spread p q ms [] rows low high e = e
rows_spread p q ms (row ∷ behind) rows low high e = row_spreads p q ms row (behind_step q behind ++ rows) low high (rows_spread p q ms behind rows low high e)

-- ---- placements

-- their paths
paths_in : {A : Type 0} → List (Placement A) → List (List ℕ)
paths_in [] = []
paths_in (placed path a ∷ ps) = path ∷ paths_in ps

-- the beginnings of these
abbrev begun : {A : Type 0} → List (Placement A) → List (List ℕ)
begun ps = beginnings_of (paths_in ps)

-- all that is placed
sum_in : List (Placement ℕ) → ℕ
sum_in [] = 0
sum_in (placed path a ∷ ps) = a + sum_in ps

-- what is to grow: an element for each different beginning, and all that is placed
abbrev tally : List (Placement ℕ) → ℕ
tally ps = different (begun ps) + sum_in ps

stepped_behind : (q : ℕ) (behind rows : List (List ℕ)) → stepped (behind_step q behind ++ rows) ≡ behind_step q behind ++ stepped rows
unfolding stepped
stepped_behind q [] rows = refl
stepped_behind q (row ∷ behind) rows = ap (λ (l : List (List ℕ)). (q ∷ row) ∷ l) (stepped_behind q behind rows)

-- every beginning has a step
stepped-beginnings : (path : List ℕ) (rows : List (List ℕ)) → stepped (beginnings path ++ rows) ≡ beginnings path ++ stepped rows
unfolding beginnings
stepped-beginnings [] rows = refl
stepped-beginnings (q ∷ path) rows = stepped_behind q ([] ∷ beginnings path) rows

module _ {A : Type 0} (p : ℕ) where
  -- Behind step p, the beginnings that have a step are those of what is placed there.
  begun_under : (ps : List (Placement A)) → stepped (tails_of p (begun ps)) ≡ begun (under p ps)
  unfolding paths_in beginnings_of beginnings under beyond pick stepped tails_of
  begun_under [] = refl
  begun_under (placed [] a ∷ ps) = begun_under ps
  begun_under (placed (q ∷ path) a ∷ ps) = go (eqb p q) refl (begun_under ps)
    where
      go : (b : Bool) → eqb p q ≡ b → stepped (tails_of p (begun ps)) ≡ begun (under p ps)
          → stepped (tails_of p (begun (placed (q ∷ path) a ∷ ps))) ≡ begun (under p (placed (q ∷ path) a ∷ ps))
      go true e later =
          ap stepped (tails_here p q ([] ∷ beginnings path) (begun ps) e)
          ∙ stepped-beginnings path (tails_of p (begun ps)) ∙ rw (later, e)
      go false e later = ap stepped (tails_elsewhere p q ([] ∷ beginnings path) (begun ps) e) ∙ rw (later, e)

  -- One of the beginnings ends with step p where something is placed behind it.
  ends_under : (ps : List (Placement A)) → some_of (same_steps []) (tails_of p (begun ps)) ≡ is_placed (under p ps)
  unfolding paths_in beginnings_of beginnings under beyond pick is_placed some_of same_steps tails_of
  ends_under [] = refl
  ends_under (placed [] a ∷ ps) = ends_under ps
  ends_under (placed (q ∷ path) a ∷ ps) = go (eqb p q) refl (ends_under ps)
    where
      go : (b : Bool) → eqb p q ≡ b → some_of (same_steps []) (tails_of p (begun ps)) ≡ is_placed (under p ps)
          → some_of (same_steps []) (tails_of p (begun (placed (q ∷ path) a ∷ ps))) ≡ is_placed (under p (placed (q ∷ path) a ∷ ps))
      go true e later = ap (some_of (same_steps [])) (tails_here p q ([] ∷ beginnings path) (begun ps) e) ∙ rw e
      go false e later = ap (some_of (same_steps [])) (tails_elsewhere p q ([] ∷ beginnings path) (begun ps) e) ∙ rw (later, e)

  -- So step p counts as one where something is placed behind it.
  different_under : (ps : List (Placement A)) → different (tails_of p (begun ps)) ≡ pick (is_placed (under p ps)) 1 0 + different (begun (under p ps))
  different_under ps = different-stepped (tails_of p (begun ps)) ∙ rw (ends_under ps, begun_under ps)

-- the steps with the numbers from p on, one for each of ms
abbrev Within : ℕ → List ℕ → ℕ → Type 0
Within p ms q = (p ≤ q) × (q < p + length ms)

-- the beginnings of paths whose first steps are among these
begun_spreads : {A : Type 0} (p : ℕ) (ms : List ℕ) {ps : List (Placement A)} → Starts (Within p ms) ps → Spreads p ms (begun ps)
unfolding paths_in beginnings_of beginnings
begun_spreads p ms starts_none = unfold tails_of different in sym (sum_zero p ms)
begun_spreads p ms (starts_more {q} {path} {a} {ps} h later) = rows_spread p q ms ([] ∷ beginnings path) (begun ps) h.0 h.1 (begun_spreads p ms later)

-- each thing that is placed is under the first step of its path, and under no other
placed_spreads : (p : ℕ) (ms : List ℕ) {ps : List (Placement ℕ)} → Starts (Within p ms) ps → sum_in ps ≡ sum_from (λ i. sum_in (under i ps)) p ms
unfolding sum_in
placed_spreads p ms starts_none = unfold under in sym (sum_zero p ms)
placed_spreads p ms (starts_more {q} {path} {a} {ps} h later) =
    ap (λ (n : ℕ). a + n) (placed_spreads p ms later)
    ∙ sym (sum_one_more _ (λ i. sum_in (under i ps)) q (λ i apart. ap sum_in (under_other i q path a ps apart)) a (ap sum_in (under_same q path a ps)) p ms h.0 h.1)

-- what paths build and what is placed, from the first steps with the numbers from p on
abbrev shares : List (Placement ℕ) → ℕ → List ℕ → ℕ
shares ps p ms = sum_from (λ i. different (tails_of i (begun ps))) p ms + sum_from (λ i. sum_in (under i ps)) p ms

tally_spreads : (p : ℕ) (ms : List ℕ) {ps : List (Placement ℕ)} → Starts (Within p ms) ps → tally ps ≡ shares ps p ms
tally_spreads p ms starts = ap₂ ◌+◌ (begun_spreads p ms starts) (placed_spreads p ms starts)

-- a step that all paths begin with builds one element
tally-under : (q : ℕ) (path : List ℕ) (a : ℕ) (ps : List (Placement ℕ)) → Starts (λ p. p ≡ q) (placed (q ∷ path) a ∷ ps)
    → tally (placed (q ∷ path) a ∷ ps) ≡ suc (tally (under q (placed (q ∷ path) a ∷ ps)))
unfolding sum_from
tally-under q path a ps starts =
    let there : is_placed (under q (placed (q ∷ path) a ∷ ps)) ≡ true = rw (under_same q path a ps) (unfold is_placed in refl) in
    omega (arith, tally_spreads q (0 ∷ []) (starts_map (λ p e. (omega arith, omega arith)) starts), different_under q (placed (q ∷ path) a ∷ ps), pick_true {X = ℕ} _ 1 0 there)

-- a path alone builds its steps
path_built : (path : List ℕ) (a : ℕ) → tally (placed path a ∷ []) ≡ length path + a
unfolding under
path_built [] a = unfold paths_in beginnings_of beginnings different sum_in in omega arith
path_built (q ∷ path) a =
    let behind : tally (under q (placed (q ∷ path) a ∷ [])) ≡ tally (placed path a ∷ []) = ap tally (under_same q path a []) in
    omega (arith, tally-under q path a [] (starts_more refl starts_none), behind, path_built path a)

-- ---- what grows

-- the members of a sequence from member number p on: an element is built where something is placed under its step
members_built : (inside : ℕ → List (Placement ℕ) → ℕ) (ps : List (Placement ℕ)) (p : ℕ) (ms : List ℕ)
    → ((i m : ℕ) → entry (suc i) ms ≡ some m → inside m (under (i + p) ps) ≡ tally (under (i + p) ps)) → grow_members built_of inside ps p ms ≡ shares ps p ms
unfolding grow_members sum_from built_of entry
members_built inside ps p [] each = refl
members_built inside ps p (m ∷ ms) each =
    let here : inside m (under p ps) ≡ tally (under p ps) = rw zero-add at (each 0 m refl) in
    omega (arith, here, different_under p ps, members_built inside ps (suc p) ms (λ i n e. rw (add-suc, ← suc-add) (each (suc i) n e)))

-- the member of a choice, the item of a list
built_alone : (t k : ℕ) → built_of.element true t k built_of.none ≡ suc k
unfolding built_of pick
built_alone t k = omega arith

-- What grows of placements that fit has an element for each different beginning of their paths, and what is placed.
grow_built : (T : Table) {n τ : ℕ} {ps : List (Placement ℕ)} → Fits T n τ ps → grow built_of T (fillers built_of T) n τ ps ≡ tally ps
unfolding grow grow_kind
grow_built T (nothing_placed {τ = τ}) = unfold paths_in beginnings_of different sum_in in filler_not_built T τ
grow_built T (right_here {a = a}) = sym (path_built [] a ∙ zero-add a)
grow_built T (below_sequence {n} {τ} {q} {path} {a} {ps} ms e starts fits) =
    rw e
    (members_built (λ m qs. grow built_of T (fillers built_of T) n m qs) (placed (q ∷ path) a ∷ ps) 1 ms (λ i m at. rw add-one (grow_built T (fits (suc i) m at)))
    ∙ sym (tally_spreads 1 ms (starts_map (leads_range ms) starts)))
grow_built T (below_choice {n} {τ} {q} {path} {a} {ps} need ms e leads starts fits) =
    rw e (built_alone (next T τ q) _ ∙ ap suc (grow_built T fits) ∙ sym (tally-under q path a ps starts))
grow_built T (below_list {n} {τ} {path} {a} {ps} m e starts fits) = rw e (built_alone m _ ∙ ap suc (grow_built T fits) ∙ sym (tally-under 1 path a ps starts))

-- ---- a source list

-- without items, the steps before the list
list_steps_none : (path before : List ℕ) → list_steps path before 0 ≡ length before
unfolding list_steps
list_steps_none path before = omega arith

-- each item adds the step to it and those behind it
list_steps_more : (path before rest : List ℕ) (n : ℕ) → length before + suc (length rest) ≡ length path
    → list_steps path before (suc n) ≡ suc (length rest) + list_steps path before n
unfolding list_steps
list_steps_more path before rest n e = rw suc-mul (omega arith)

-- ---- the image of a document

-- no element is built for a character
letters_build_nothing : (ks : List (Child ℕ)) → letters_of built_of ks ≡ 0
unfolding letters_of built_of
letters_build_nothing [] = refl
letters_build_nothing (letter c ∷ ks) = letters_build_nothing ks
letters_build_nothing (element t a ∷ ks) = letters_build_nothing ks

module _ (X : Setting) where
  abbrev fill : List ℕ
  fill = fillers built_of X.target

  -- what paths build in the image of an element is what is counted of it and of the elements below it
  BuiltAsCounted : ℕ → Content → Type 0
  BuiltAsCounted s k = image_of_element built_of X fill s (children built_of X fill k) ≡ own_elements X s k + elements_below X k

  no_elements_in_text : {k : Content} → Holds X.source text k → elements_below X k ≡ 0
  unfolding elements_below
  no_elements_in_text no_character = refl
  no_elements_in_text (one_character ok later) = no_elements_in_text later

  -- the members of a sequence are placed along all its paths
  member_paths_in : {P : ℕ → List ℕ → Type 0} {ms : List ℕ} {pss : List (List ℕ)} {k : Content} → Along P ms pss → Holds X.source (sequence ms) k
      → paths_in (along_paths pss (children built_of X fill k)) ≡ pss
  unfolding paths_in along_paths children
  member_paths_in along_none no_member = refl
  member_paths_in (along_both {b = path} h al) (one_member held later) = ap (λ (l : List (List ℕ)). path ∷ l) (member_paths_in al later)

  -- and with them what is counted of each
  members_counted : {P : ℕ → List ℕ → Type 0} {ms : List ℕ} {pss : List (List ℕ)} {k : Content} → Along P ms pss → Holds X.source (sequence ms) k → Each BuiltAsCounted k
      → sum_in (along_paths pss (children built_of X fill k)) ≡ elements_below X k
  unfolding sum_in along_paths children elements_below BuiltAsCounted
  members_counted along_none no_member each_end = refl
  members_counted (along_both h al) (one_member held later) (each_elem e es) = ap₂ ◌+◌ e (members_counted al later es)

  -- a choice of either kind: its member, or nothing
  choice_counted : (shared : List ℕ) {need : Need} {ms : List ℕ} (pss : List (List ℕ)) {k : Content} → Holds X.source (choice need ms) k → Each BuiltAsCounted k
      → tally (along_choice built_of shared ms pss (children built_of X fill k)) ≡ choice_steps shared ms pss (first_in k) + elements_below X k
  unfolding along_choice children first_in choice_steps elements_below BuiltAsCounted built_of
  choice_counted shared pss (chosen {m = m} {ms = ms} {k = k} mem held) (each_elem e each_end) =
      omega (arith, path_built (path_of_member m ms pss) (image_of_element built_of X fill m (children built_of X fill k)), e)
  choice_counted shared pss left_out each_end = omega (arith, path_built shared 0)

  -- the items of a list, each with the rest of the path under it
  items_counted : (inside : List (Placement ℕ) → ℕ) (path : List ℕ) (d : Divided) {m : ℕ} {k : Content}
      → ((a : ℕ) → inside (placed d.rest a ∷ []) ≡ length d.rest + a) → length d.before + suc (length d.rest) ≡ length path
      → Holds X.source (list m) k → Each BuiltAsCounted k
      → length d.before + items_of built_of inside d (children built_of X fill k) ≡ list_steps path d.before (child_count k) + elements_below X k
  unfolding items_of children child_count elements_below BuiltAsCounted built_of pick
  items_counted inside path d under-item whole no_item each_end = omega (arith, list_steps_none path d.before)
  items_counted inside path d under-item whole (one_item {m} {k} {r} held later) (each_elem e es) =
      omega
      (arith, under-item (image_of_element built_of X fill m (children built_of X fill k)), e, list_steps_more path d.before d.rest (child_count r) whole, items_counted inside path d under-item whole later es)

  -- a list: the steps before it, and below it the items
  list_counted : (τ m : ℕ) (path : List ℕ) {k : Content} → GoodPath X τ (list m) path → Holds X.source (list m) k → Each BuiltAsCounted k
      → tally (along_list built_of X.target fill (divide X.target τ path) (children built_of X fill k))
      ≡ list_steps path (divide X.target τ path).before (child_count k) + elements_below X k
  unfolding along_list place
  list_counted τ m path good held each =
      let parts = divide_good X.target τ max_steps path good.walks good.short in
      path_built _ _
      ∙ items_counted _ path (divide X.target τ path)
      (λ a. grow_built X.target (single_fits X.target max_steps a parts.rest_walks parts.rest_short) ∙ path_built _ a)
      (divided_length X.target τ path (list_left good)) held each

  -- what is to grow below the image of an element
  placed_counted : (τ : ℕ) {κ : Kind} {pss : List (List ℕ)} {k : Content} → ValidEdges X τ κ pss → Holds X.source κ k → Each BuiltAsCounted k
      → tally (placements built_of X.target fill κ τ pss (children built_of X fill k)) ≡ kind_elements X.target κ τ pss k + elements_below X k
  unfolding placements kind_elements first_path
  placed_counted τ {k = k} (text_edge {ps = path} good ends) held each =
      omega
      (arith, path_built path (letters_of built_of (children built_of X fill k)), letters_build_nothing (children built_of X fill k), no_elements_in_text held)
  placed_counted τ no_edge nothing each = unfold paths_in beginnings_of different sum_in elements_below in refl
  placed_counted τ (sequence_edges al apart) held each =
      ap₂ ◌+◌ (ap (λ (pss : List (List ℕ)). different (beginnings_of pss)) (member_paths_in al held)) (members_counted al held each)
  placed_counted τ (choice_edges al apart shared) held each = choice_counted _ _ held each
  placed_counted τ (list_edge {m = m} {ps = path} h) held each = list_counted τ m path h.good held each

  element_counted : Valid X → (s : ℕ) (k : Content) → s < length X.source → Holds X.source (kind_of X.source s) k → Each BuiltAsCounted k → BuiltAsCounted s k
  unfolding BuiltAsCounted image_of_element place own_elements
  element_counted valid s k exists held each =
      grow_built X.target (placements_fit built_of X fill _ _ _ (children built_of X fill k) (valid.edges s exists))
      ∙ placed_counted (target_of X.embedding s) (valid.edges s exists) held each

-- The elements that paths build in the image are those counted over the source document's elements.
pub image_path_elements : (X : Setting) → Valid X → (k : Content) → Holds X.source (kind_of X.source 0) k → image_by built_of X k ≡ path_elements X k
unfolding image_by path_elements BuiltAsCounted
image_path_elements X valid k held =
    by_elements X.source valid.source_sound.well_formed (BuiltAsCounted X) (element_counted X valid) 0 k valid.source_sound.well_formed.has_root held
