-- An accepted embedding between accepted tables is valid (`embedding_valid`).
-- As for tables, what a passing run of a machine says of the commands is proved by going back from their end.
use Rattle.std.specs.Prelude.{◌≡◌, refl, Bool, true, ◌&&◌, ℕ, zero, suc, ◌+◌, ◌≤◌, ◌<◌, length, get_or, ltb}
use Rattle.std.proofs.Common.{sym, ap, ◌∙◌, subst, arith}
use Rattle.std.proofs.Math.Bool.{false}
use mathlib.Core.List.{List, [], ◌∷◌, map, Memᴰ}
use Rattle.std.proofs.Math.Option.{Option, none, some}
use borrow.Author.Tests.{ltb-true, eqb-true}
use Rattle.model.specs.Definitions.Basics.{Verdict, passes, fails, goes, pick, or_else, some_of}
use Rattle.model.specs.Definitions.Commands.{Need, optional, EmbeddingCommand, maps_to, path, step, embedding_end, alien_e, embedding_commands, embedding_width}
use Rattle.model.specs.Definitions.Table.{Kind, text, empty, sequence, choice, list, Table, kind_of, edges_of, step_from, is_choice, is_optional, table_of}
use Rattle.model.specs.Definitions.Embedding.{Edge, TypeMap, Embedding, no_map, target_of, paths_of, EmbeddingTail, with_embedding_command, embedding_tail, embedding_of, or_root, next, end_of, leaves, first_path, before_choice}
use Rattle.model.specs.Definitions.EmbeddingChecks.{EmbeddingState, due, embedding_ended, embedding_step, embedding_complete, embedding_form, max_steps, step_count, embedding_limits, Reached, reaches, path_step, embedding_operands, root_to_root, first_edge, each_type, ends_at, ends_at_text, ends_of, wrong_end_verdict, optional_first, right_steps, agrees, steps_of, wrong_steps_verdict, clash, first_clash, clashes_of, path_clash_verdict}
use Rattle.model.specs.Definitions.Image.{Setting}
use Rattle.model.specs.Definitions.Refusals.{too_long, bad_form, over_limit, bad_operand, root_moved, wrong_end, wrong_steps, path_clash, Judged, sound, fault_at, fault_unless, fits}
use Rattle.model.specs.Definitions.Entries.{judged_table, judged_embedding, setting_of}
use Rattle.model.proofs.Theorems.Facts.{SoundTable, Walks, arrived, onward, GoodPath, MemberPath, Along, along_none, along_both, All, all_none, all_more, Pairs, pairs_none, pairs_more, Compatible, ToOptional, ValidEdges, text_edge, no_edge, sequence_edges, choice_edges, list_edge, Valid}
use Rattle.model.proofs.Theorems.Tools.{true_false, pick_true, pick_false, and_left}
use Rattle.model.proofs.Theorems.JudgedTables.{goes_if_lem, pick_passes, run_holds, all_at, neither, no_fault_at, no_fault_unless, table_sound}
use Rattle.model.proofs.Theorems.Runs.{passes_fails, goes_stops}

-- ---- check 2, form

-- the edges of the last type and of the types to come that a state still needs
abbrev edges_due : EmbeddingState → ℕ
edges_due (due k ns on_path) = k
edges_due embedding_ended = 0

abbrev types_due : EmbeddingState → List ℕ
types_due (due k ns on_path) = ns
types_due embedding_ended = []

-- the rest of an embedding of the right form has what its machine's state needs, no less and no more
record Due (s : EmbeddingState) (r : EmbeddingTail) : Type 0 where
  edges_due_lem : length r.edges ≡ edges_due s
  types_due_lem : Along (λ (n : ℕ) (f : TypeMap). length f.edges ≡ n) (types_due s) r.maps

due_step : (s then : EmbeddingState) (c : EmbeddingCommand) (at : ℕ) (r : EmbeddingTail) → embedding_step s c ≡ goes then → Due then r
    → Due s (with_embedding_command at c r)
unfolding embedding_step with_embedding_command
due_step (due zero [] on_path) then (maps_to t) at r e h = goes_stops e refl
due_step (due zero (n ∷ ns) on_path) then (maps_to t) at r e h =
    let same : then ≡ due n ns false = cc in
    let d : Due (due n ns false) r = rw same at h in
    record { edges_due_lem = refl; types_due_lem = along_both d.edges_due_lem d.types_due_lem }
due_step (due (suc k) ns on_path) then (maps_to t) at r e h = goes_stops e refl
due_step (due zero ns on_path) then path at r e h = goes_stops e refl
due_step (due (suc k) ns on_path) then path at r e h =
    let same : then ≡ due k ns true = cc in
    let d : Due (due k ns true) r = rw same at h in
    record { edges_due_lem = ap suc d.edges_due_lem; types_due_lem = d.types_due_lem }
due_step (due k ns on_path) then (step p) at r e h =
    let same = (goes_if_lem on_path (due k ns true) e).1 in
    let d : Due (due k ns true) r = rw (← same) at h in
    record { edges_due_lem = d.edges_due_lem; types_due_lem = d.types_due_lem }
due_step (due zero [] on_path) then embedding_end at r e h =
    let same : then ≡ embedding_ended = cc in
    let d : Due embedding_ended r = rw same at h in
    record { edges_due_lem = d.edges_due_lem; types_due_lem = d.types_due_lem }
due_step (due zero (n ∷ ns) on_path) then embedding_end at r e h = goes_stops e refl
due_step (due (suc k) ns on_path) then embedding_end at r e h = goes_stops e refl
due_step (due k ns on_path) then alien_e at r e h = goes_stops e refl
due_step embedding_ended then (maps_to t) at r e h = goes_stops e refl
due_step embedding_ended then path at r e h = goes_stops e refl
due_step embedding_ended then (step p) at r e h = goes_stops e refl
due_step embedding_ended then embedding_end at r e h = goes_stops e refl
due_step embedding_ended then alien_e at r e h = goes_stops e refl

due_end : (s : EmbeddingState) → embedding_complete s ≡ true → (at : ℕ) → Due s (embedding_tail at [])
unfolding embedding_complete embedding_tail
due_end (due k ns on_path) e at = true_false e refl
due_end embedding_ended e at = record { edges_due_lem = refl; types_due_lem = along_none }

-- a relation along an image of a list is one along the list
along-map : {A B C : Type 0} {R : B → C → Type 0} (f : A → B) (xs : List A) {ys : List C} → Along R (map f xs) ys → Along (λ x y. R (f x) y) xs ys
along-map f [] along_none = along_none
along-map f (x ∷ xs) (along_both r h) = along_both r (along-map f xs h)

-- each source type has a map with as many edges as its kind has
pub form_holds : (S : Table) (bs : List ℕ) → embedding_form S bs ≡ passes
    → Along (λ (κ : Kind) (f : TypeMap). length f.edges ≡ edges_of κ) S (embedding_of bs)
unfolding embedding_form embedding_of embedding_tail
form_holds S bs e =
    let holds = run_holds embedding_width embedding_step embedding_complete (λ s cs. (at : ℕ) → Due s (embedding_tail at cs)) due_end
    (λ s then c cs e later at. due_step s then c at (embedding_tail (at + embedding_width c) cs) e (later (at + embedding_width c)))
    (due 0 (map edges_of S) false) 0 (embedding_commands bs) e 0 in
    along-map edges_of S holds.types_due_lem

-- ---- check 3, limits

abbrev ShortEdge : Edge → Type 0
ShortEdge e = length e.steps ≤ max_steps

-- the rest of an embedding has no path too long, the one begun with n steps included
record Short (n : ℕ) (r : EmbeddingTail) : Type 0 where
  steps_short : n + length r.steps ≤ max_steps
  edges_short : All ShortEdge r.edges
  maps_short : All (λ f. All ShortEdge f.edges) r.maps

short_step : (n then : ℕ) (c : EmbeddingCommand) (at : ℕ) (r : EmbeddingTail) → step_count n c ≡ goes then → (then ≤ max_steps → Short then r)
    → n ≤ max_steps → Short n (with_embedding_command at c r)
unfolding step_count with_embedding_command
short_step n then (maps_to t) at r e later h =
    let same : then ≡ 0 = cc in
    let d = later (omega arith) in
    record { steps_short = omega arith; edges_short = all_none; maps_short = all_more d.edges_short d.maps_short }
short_step n then path at r e later h =
    let same : then ≡ 0 = cc in
    let d = later (omega arith) in
    let fits-it : length r.steps ≤ max_steps = omega arith in
    record { steps_short = omega arith; edges_short = all_more fits-it d.edges_short; maps_short = d.maps_short }
short_step n then (step p) at r e later h =
    let facts = goes_if_lem (ltb n max_steps) (suc n) e in
    let below = ltb-true n max_steps facts.0 in
    let d = later (omega arith) in
    record { steps_short = omega arith; edges_short = d.edges_short; maps_short = d.maps_short }
short_step n then embedding_end at r e later h = let same : n ≡ then = cc in rw same (later (omega arith))
short_step n then alien_e at r e later h = let same : n ≡ then = cc in rw same (later (omega arith))

-- no path of an embedding that passes has too many steps
pub limits_hold : (bs : List ℕ) → embedding_limits bs ≡ passes → All (λ f. All ShortEdge f.edges) (embedding_of bs)
unfolding embedding_limits embedding_of embedding_tail
limits_hold bs e =
    let holds = run_holds embedding_width step_count (λ n. true) (λ n cs. (at : ℕ) → n ≤ max_steps → Short n (embedding_tail at cs))
    (λ n done at h. record { steps_short = omega arith; edges_short = all_none; maps_short = all_none })
    (λ n then c cs e later at. short_step n then c at (embedding_tail (at + embedding_width c) cs) e (later (at + embedding_width c)))
    0 0 (embedding_commands bs) e 0 (omega arith) in
    holds.maps_short

-- ---- check 4, operands

-- the paths of edges from a type of the target can be walked
abbrev EdgeWalks : Table → ℕ → Edge → Type 0
EdgeWalks T τ e = Walks T τ e.steps

-- a map goes to a type of the target, and its paths can be walked from there
record MapWalks (T : Table) (f : TypeMap) : Type 0 where
  target_known : f.target < length T
  all_walk : All (EdgeWalks T f.target) f.edges

-- the paths of the rest of an embedding can be walked, the one begun from the type reached
record AllWalk (T : Table) (s : Reached) (r : EmbeddingTail) : Type 0 where
  steps_walk : Walks T s.now r.steps
  edges_walk : All (EdgeWalks T s.start) r.edges
  maps_walk : All (MapWalks T) r.maps

-- a step that is taken leads to the next type
step_reaches : (start : ℕ) (o : Option ℕ) {then : Reached} → reaches start o ≡ goes then → (o ≡ some (or_root o)) × (record { start = start; now = or_root o } ≡ then)
unfolding reaches or_root
step_reaches start none e = goes_stops e refl
step_reaches start (some τ) {then} e = (refl, cc)

walk_step : (T : Table) (s then : Reached) (c : EmbeddingCommand) (at : ℕ) (r : EmbeddingTail) → path_step T s c ≡ goes then → AllWalk T then r
    → AllWalk T s (with_embedding_command at c r)
unfolding path_step with_embedding_command next
walk_step T s then (maps_to t) at r e h =
    let facts = goes_if_lem (ltb t (length T)) (record { start = t; now = t }) e in
    let d : AllWalk T (record { start = t; now = t }) r = rw (← facts.1) at h in
    record {
      steps_walk = arrived;
      edges_walk = all_none;
      maps_walk = all_more (record { target_known = ltb-true t (length T) facts.0; all_walk = d.edges_walk }) d.maps_walk;
    }
walk_step T s then path at r e h =
    let same : then ≡ record { start = s.start; now = s.start } = cc in
    let d : AllWalk T (record { start = s.start; now = s.start }) r = rw same at h in
    record { steps_walk = arrived; edges_walk = all_more d.steps_walk d.edges_walk; maps_walk = d.maps_walk }
walk_step T s then (step p) at r e h =
    let facts = step_reaches s.start (step_from (kind_of T s.now) p) e in
    let d : AllWalk T (record { start = s.start; now = next T s.now p }) r = rw (← facts.1) at h in
    record { steps_walk = onward facts.0 d.steps_walk; edges_walk = d.edges_walk; maps_walk = d.maps_walk }
walk_step T s then embedding_end at r e h = let same : then ≡ s = cc in rw same at h
walk_step T s then alien_e at r e h = let same : then ≡ s = cc in rw same at h

-- every map of an embedding that passes goes to a target type, and its paths can be walked
operands_hold : (T : Table) (bs : List ℕ) → embedding_operands T bs ≡ passes → All (MapWalks T) (embedding_of bs)
unfolding embedding_operands embedding_of embedding_tail
operands_hold T bs e =
    let holds = run_holds embedding_width (path_step T) (λ s. true) (λ s cs. (at : ℕ) → AllWalk T s (embedding_tail at cs))
    (λ s done at. record { steps_walk = arrived; edges_walk = all_none; maps_walk = all_none })
    (λ s then c cs e later at. walk_step T s then c at (embedding_tail (at + embedding_width c) cs) e (later (at + embedding_width c)))
    (record { start = 0; now = 0 }) 0 (embedding_commands bs) e 0 in
    holds.maps_walk

-- ---- checks 8 to 10, type by type

-- two checks that pass together pass both
pub or_else_passes : (v w : Verdict) → or_else v w ≡ passes → (v ≡ passes) × (w ≡ passes)
unfolding or_else
or_else_passes passes w e = (refl, e)
or_else_passes (fails at) w e = passes_fails e refl

-- where a test decides between a failure and a verdict, and all passes: the test fails, and the verdict passes
pick_fails_not : (b : Bool) (at : ℕ) (v : Verdict) → pick b (fails at) v ≡ passes → (b ≡ false) × (v ≡ passes)
unfolding pick
pick_fails_not true at v e = passes_fails e refl
pick_fails_not false at v e = (refl, e)

-- a test that no entry passes fails for each
some_of_none : {A : Type 0} (test : A → Bool) {x : A} {xs : List A} → some_of test xs ≡ false → Memᴰ x xs → test x ≡ false
unfolding some_of
some_of_none test {x = x} e (Memᴰ.head {x = y} {xs = ys} same) = rw same (neither (test y) (some_of test ys) e).0
some_of_none test {x = x} e (Memᴰ.tail {x = y} {xs = ys} i) = some_of_none test (neither (test y) (some_of test ys) e).1 i

-- a check of each source type passes for each
each_type_lem : {R : Kind → TypeMap → Type 0} {S : Table} {E : Embedding} (check : Kind → TypeMap → Verdict) → Along R S E → each_type check S E ≡ passes
    → Along (λ κ f. check κ f ≡ passes) S E
unfolding each_type
each_type_lem check along_none e = along_none
each_type_lem check (along_both {a = κ} {b = f} {xs = S} {ys = E} r later) e =
    let both = or_else_passes (check κ f) (each_type check S E) e in
    along_both both.0 (each_type_lem check later both.1)

-- what holds along two lists holds at each index
pub along_at : {A B : Type 0} {R : A → B → Type 0} {xs : List A} {ys : List B} (c : A) (d : B) → Along R xs ys → (i : ℕ) → i < length xs → R (get_or xs i c) (get_or ys i d)
along_at c d along_none i h = absurd (omega arith)
along_at c d (along_both r later) zero h = r
along_at c d (along_both r later) (suc i) h = along_at c d later i (omega arith)

-- the paths of edges
abbrev paths_in : List Edge → List (List ℕ)
paths_in es = map (λ (e : Edge). e.steps) es

-- what the checks of one source type say, of a kind κ that is mapped to τ
module _ (X : Setting) (τ : ℕ) (κ : Kind) where
  abbrev GoodEdge : Edge → Type 0
  GoodEdge e = GoodPath X τ κ e.steps

  -- each edge that passed has a good path
  good_edges : (first : List ℕ) {es : List Edge} → All ShortEdge es → All (EdgeWalks X.target τ) es
      → first_edge (λ e. right_steps κ (leaves X.target τ e.steps) && agrees X.target κ τ first e.steps) es ≡ passes → All GoodEdge es
  unfolding first_edge
  good_edges first all_none all_none e = all_none
  good_edges first (all_more {a = d} {xs = es} s shorts) (all_more w walks) e =
      let both = pick_passes (right_steps κ (leaves X.target τ d.steps) && agrees X.target κ τ first d.steps) _ d.at e in
      all_more (record { walks = w; short = s; right = and_left _ _ both.0 }) (good_edges first shorts walks both.1)

  member_edges : (ms : List ℕ) {es : List Edge} → length es ≡ length ms → All GoodEdge es → ends_at X.embedding X.target τ ms es ≡ passes
      → Along (MemberPath X τ κ) ms (paths_in es)
  unfolding ends_at
  member_edges [] n all_none e = along_none
  member_edges [] n (all_more g later) e = absurd (omega arith)
  member_edges (m ∷ ms) n all_none e = absurd (omega arith)
  member_edges (m ∷ ms) n (all_more {a = d} g later) e =
      let both = pick_passes _ _ d.at e in
      along_both (record { good = g; ends = eqb-true _ _ both.0 }) (member_edges ms (omega arith) later both.1)

  -- an edge checked clashes with none of the earlier ones
  later_compatible : (earlier es : List Edge) → first_clash X.target κ τ earlier es ≡ passes → (d : Edge) → Memᴰ d earlier
      → All (Compatible X τ κ d.steps) (paths_in es)
  unfolding first_clash
  later_compatible earlier [] e d i = all_none
  later_compatible earlier (f ∷ es) e d i =
      let both = pick_fails_not _ _ _ e in
      all_more (some_of_none (λ (d : Edge). clash X.target κ τ d.steps f.steps) both.0 i)
      (later_compatible (f ∷ earlier) es both.1 d (Memᴰ.tail i))

  edges_compatible : (earlier es : List Edge) → first_clash X.target κ τ earlier es ≡ passes → Pairs (Compatible X τ κ) (paths_in es)
  unfolding first_clash
  edges_compatible earlier [] e = pairs_none
  edges_compatible earlier (f ∷ es) e =
      let both = pick_fails_not _ _ _ e in
      pairs_more (later_compatible (f ∷ earlier) es both.1 f (Memᴰ.head refl)) (edges_compatible (f ∷ earlier) es both.1)

-- where the first choice that a path leaves is an optional one, the steps before it lead to an optional choice
before_optional : (T : Table) (τ : ℕ) (ps : List ℕ) → optional_first (leaves T τ ps) ≡ true → is_optional (kind_of T (end_of T τ (before_choice T τ ps))) ≡ true
unfolding optional_first leaves before_choice
before_optional T τ [] e = true_false refl (sym e)
before_optional T τ (p ∷ ps) e = go (is_choice (kind_of T τ)) refl (before_optional T (next T τ p) ps)
  where
    go : (b : Bool) → is_choice (kind_of T τ) ≡ b
        → (optional_first (leaves T (next T τ p) ps) ≡ true → is_optional (kind_of T (end_of T (next T τ p) (before_choice T (next T τ p) ps))) ≡ true)
        → is_optional (kind_of T (end_of T τ (pick (is_choice (kind_of T τ)) [] (p ∷ before_choice T (next T τ p) ps)))) ≡ true
    go true q later = rw (pick_true (is_choice (kind_of T τ)) [] (p ∷ before_choice T (next T τ p) ps) q) (unfold end_of in (sym (pick_true (is_choice (kind_of T τ)) _ _ q) ∙ e))
    go false q later = rw (pick_false (is_choice (kind_of T τ)) [] (p ∷ before_choice T (next T τ p) ps) q) (unfold end_of in later (sym (pick_false (is_choice (kind_of T τ)) _ _ q) ∙ e))

-- so do those that the first path of an optional choice begins with
to_optional : (X : Setting) (τ : ℕ) (ms : List ℕ) (es : List Edge) → 0 < length es → All (GoodEdge X τ (choice optional ms)) es → ToOptional X τ (paths_in es)
unfolding right_steps first_path
to_optional X τ ms [] more good = absurd (omega arith)
to_optional X τ ms (d ∷ es) more (all_more g good) = before_optional X.target τ d.steps g.right

-- ---- the edges of a source type, by its kind

along_first : {A B : Type 0} {R : A → B → Type 0} {a : A} {b : B} {xs : List A} {ys : List B} → Along R (a ∷ xs) (b ∷ ys) → R a b
along_first (along_both r later) = r

module _ (X : Setting) (τ : ℕ) where
  text_edges : {es : List Edge} → length es ≡ 1 → All (GoodEdge X τ text) es → first_edge (ends_at_text X.target τ) es ≡ passes
      → ValidEdges X τ text (paths_in es)
  unfolding first_edge ends_at_text
  text_edges n all_none e = absurd (omega arith)
  text_edges n (all_more {a = d} g all_none) e = text_edge g (pick_passes (ends_at_text X.target τ d) _ d.at e).0
  text_edges n (all_more g (all_more h later)) e = absurd (omega arith)

  list_edges : (m : ℕ) (es : List Edge) → length es ≡ 1 → Along (MemberPath X τ (list m)) (m ∷ []) (paths_in es) → ValidEdges X τ (list m) (paths_in es)
  list_edges m [] n h = absurd (omega arith)
  list_edges m (d ∷ []) n h = list_edge (along_first h)
  list_edges m (d ∷ f ∷ es) n h = absurd (omega arith)

  empty_edges : (es : List Edge) → length es ≡ 0 → ValidEdges X τ empty (paths_in es)
  empty_edges [] n = no_edge
  empty_edges (d ∷ es) n = absurd (omega arith)

-- the edges of a source type that passes the checks are valid
valid_edges : (X : Setting) (κ : Kind) (f : TypeMap) → length f.edges ≡ edges_of κ → All (GoodEdge X f.target κ) f.edges
    → ((need : Need) (ms : List ℕ) → κ ≡ choice need ms → 0 < length ms)
    → ends_of X.embedding X.target κ f ≡ passes → clashes_of X.target κ f ≡ passes
    → ValidEdges X f.target κ (paths_in f.edges)
unfolding edges_of ends_of clashes_of
valid_edges X text f n good chooses ends apart = text_edges X f.target n good ends
valid_edges X empty f n good chooses ends apart = empty_edges X f.target f.edges n
valid_edges X (sequence ms) f n good chooses ends apart =
    sequence_edges (member_edges X f.target (sequence ms) ms n good ends) (edges_compatible X f.target (sequence ms) [] f.edges apart)
valid_edges X (choice need ms) f n good chooses ends apart =
    choice_edges (member_edges X f.target (choice need ms) ms n good ends) (edges_compatible X f.target (choice need ms) [] f.edges apart)
    (λ same. to_optional X f.target ms f.edges (omega (arith, chooses need ms refl)) (subst (λ (d : Need). All (GoodEdge X f.target (choice d ms)) f.edges) same good))
valid_edges X (list m) f n good chooses ends apart =
    list_edges X f.target m f.edges n (member_edges X f.target (list m) (m ∷ []) n good ends)

-- ---- all checks

-- an embedding between accepted tables, given what check 9 finds
unfoldable pub judged_with : Table → Table → List ℕ → Verdict → Judged
judged_with S T bs steps =
    fault_unless too_long (fits bs) λ u.
    fault_at bad_form (embedding_form S bs) λ u.
    fault_at over_limit (embedding_limits bs) λ u.
    fault_at bad_operand (embedding_operands T bs) λ u.
    fault_unless root_moved (root_to_root (embedding_of bs)) λ u.
    fault_at wrong_end (wrong_end_verdict S T (embedding_of bs)) λ u.
    fault_at wrong_steps steps λ u.
    fault_at path_clash (path_clash_verdict S T (embedding_of bs)) λ u.
    sound

-- an embedding is judged by what check 9 finds of it
pub judged_with_lem : (S T : Table) (bs : List ℕ) → judged_embedding S T bs ≡ judged_with S T bs (wrong_steps_verdict S T (embedding_of bs))
unfolding judged_embedding judged_with
judged_with_lem S T bs = refl

-- the checks that an accepted embedding has passed
pub record PassedEmbedding (S T : Table) (bs : List ℕ) (steps : Verdict) : Type 0 where
  pub short : fits bs ≡ true
  pub form : embedding_form S bs ≡ passes
  pub limits : embedding_limits bs ≡ passes
  pub operands : embedding_operands T bs ≡ passes
  pub root : root_to_root (embedding_of bs) ≡ true
  pub right_ends : wrong_end_verdict S T (embedding_of bs) ≡ passes
  pub right_steps_lem : steps ≡ passes
  pub no_clash : path_clash_verdict S T (embedding_of bs) ≡ passes

pub embedding_checks : (S T : Table) (bs : List ℕ) (steps : Verdict) → judged_with S T bs steps ≡ sound → PassedEmbedding S T bs steps
unfolding judged_with
embedding_checks S T bs steps e =
    let r1 = no_fault_unless _ _ _ e in
    let r2 = no_fault_at _ _ _ r1.1 in
    let r3 = no_fault_at _ _ _ r2.1 in
    let r4 = no_fault_at _ _ _ r3.1 in
    let r5 = no_fault_unless _ _ _ r4.1 in
    let r6 = no_fault_at _ _ _ r5.1 in
    let r7 = no_fault_at _ _ _ r6.1 in
    let r8 = no_fault_at _ _ _ r7.1 in
    record {
      short = r1.0;
      form = r2.0;
      limits = r3.0;
      operands = r4.0;
      root = r5.0;
      right_ends = r6.0;
      right_steps_lem = r7.0;
      no_clash = r8.0;
    }

-- an embedding that passes the checks is accepted
pub embedding_accepted : {S T : Table} {bs : List ℕ} → PassedEmbedding S T bs (wrong_steps_verdict S T (embedding_of bs)) → judged_embedding S T bs ≡ sound
unfolding judged_embedding fault_unless fault_at
embedding_accepted a = rw (a.short, a.form, a.limits, a.operands, a.root, a.right_ends, a.right_steps_lem, a.no_clash)

-- an accepted embedding between accepted tables is valid
pub embedding_valid : (s t e : List ℕ) → judged_table s ≡ sound → judged_table t ≡ sound → judged_embedding (table_of s) (table_of t) e ≡ sound
    → Valid (setting_of s t e)
unfolding target_of paths_of kind_of no_map root_to_root wrong_end_verdict wrong_steps_verdict path_clash_verdict steps_of
embedding_valid s t e source-accepted target-accepted accepted =
    record {
      source_sound = table_sound s source-accepted;
      target_sound = target_sound;
      root_to_root_lem = eqb-true _ _ checks.root;
      target_exists = λ i h. (walks_at i).target_known;
      edges = edges_at;
    }
  where
    S : Table
    S = table_of s

    T : Table
    T = table_of t

    E : Embedding
    E = embedding_of e

    checks : PassedEmbedding S T e (wrong_steps_verdict S T E)
    checks = embedding_checks S T e (wrong_steps_verdict S T E) (sym (judged_with_lem S T e) ∙ accepted)

    target_sound : SoundTable T
    target_sound = table_sound t target-accepted

    walks_at : (i : ℕ) → MapWalks T (get_or E i no_map)
    walks_at = all_at no_map (record { target_known = target_sound.well_formed.has_root; all_walk = all_none }) (operands_hold T e checks.operands)

    counts : Along (λ (κ : Kind) (f : TypeMap). length f.edges ≡ edges_of κ) S E
    counts = form_holds S e checks.form

    edges_at : (i : ℕ) → i < length S → ValidEdges (setting_of s t e) (target_of E i) (kind_of S i) (paths_of E i)
    edges_at i h =
        valid_edges (setting_of s t e) (get_or S i empty) (get_or E i no_map) (along_at empty no_map counts i h)
        (good_edges (setting_of s t e) (target_of E i) (kind_of S i) _
        (all_at no_map all_none (limits_hold e checks.limits) i) (walks_at i).all_walk
        (along_at empty no_map (each_type_lem (steps_of T) counts checks.right_steps_lem) i h))
        ((table_sound s source-accepted).well_formed.choices_choose i)
        (along_at empty no_map (each_type_lem (ends_of E T) counts checks.right_ends) i h)
        (along_at empty no_map (each_type_lem (clashes_of T) counts checks.no_clash) i h)

-- once its operands are right, each type is mapped to a target type, and its paths can be walked from there
pub paths_walk : (T : Table) (bs : List ℕ) → 0 < length T → embedding_operands T bs ≡ passes → (s : ℕ)
    → (target_of (embedding_of bs) s < length T) × All (λ (d : Edge). Walks T (target_of (embedding_of bs) s) d.steps) (get_or (embedding_of bs) s no_map).edges
unfolding target_of no_map
paths_walk T bs root e s =
    let walks = all_at no_map (record { target_known = root; all_walk = all_none }) (operands_hold T bs e) s in
    (walks.target_known, walks.all_walk)
