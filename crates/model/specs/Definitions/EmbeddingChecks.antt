-- 01 "Which embeddings are valid" and "Refusal answers": the checks of an embedding, 2 to 4 and 7 to 10, given the
-- accepted source and target tables (1 is the same for all documents).
use Rattle.std.specs.Prelude.{Bool, true, false, not, ◌&&◌, ◌||◌, List, [], ◌∷◌, map, ℕ, zero, suc, length, ltb, eqb}
use Rattle.std.proofs.Math.Option.{Option, none, some}
use Rattle.model.specs.Definitions.Basics.{Verdict, passes, fails, Next, goes, stops, goes_if, run, pick, or_else, some_of, is_there}
use Rattle.model.specs.Definitions.Commands.{needed, optional, EmbeddingCommand, maps_to, path, step, embedding_end, alien_e, embedding_commands, embedding_width}
use Rattle.model.specs.Definitions.Table.{Kind, text, empty, sequence, choice, list, Table, kind_of, edges_of, step_from, is_text, is_sequence, is_choice, is_optional, is_list}
use Rattle.model.specs.Definitions.Embedding.{Edge, TypeMap, Embedding, target_of, end_of, leaves, Behind, both_end, first_ends, second_ends, apart, parting, before_choice, same_steps, first_path}

-- ---- 2, form, with the count of types and of each type's edges

-- edges still due for the last type; edges due for each type to come; whether a step may stand here; or after 2F
pub data EmbeddingState : Type 0 where
  due : ℕ → List ℕ → Bool → EmbeddingState
  embedding_ended : EmbeddingState

unfoldable pub embedding_step : EmbeddingState → EmbeddingCommand → Next EmbeddingState
embedding_step (due zero [] on_path) (maps_to t) = stops
embedding_step (due zero (n ∷ ns) on_path) (maps_to t) = goes (due n ns false)
embedding_step (due (suc k) ns on_path) (maps_to t) = stops
embedding_step (due zero ns on_path) path = stops
embedding_step (due (suc k) ns on_path) path = goes (due k ns true)
embedding_step (due k ns on_path) (step p) = goes_if on_path (due k ns true)
embedding_step (due zero [] on_path) embedding_end = goes embedding_ended
embedding_step (due zero (n ∷ ns) on_path) embedding_end = stops
embedding_step (due (suc k) ns on_path) embedding_end = stops
embedding_step (due k ns on_path) alien_e = stops
embedding_step embedding_ended (maps_to t) = stops
embedding_step embedding_ended path = stops
embedding_step embedding_ended (step p) = stops
embedding_step embedding_ended embedding_end = stops
embedding_step embedding_ended alien_e = stops

unfoldable pub embedding_complete : EmbeddingState → Bool
embedding_complete (due k ns on_path) = false
embedding_complete embedding_ended = true

unfoldable pub embedding_form : Table → List ℕ → Verdict
embedding_form S bs = run embedding_width embedding_step embedding_complete (due 0 (map edges_of S) false) 0 (embedding_commands bs)

-- ---- 3, limits

abbrev pub max_steps : ℕ
max_steps = 12

unfoldable pub step_count : ℕ → EmbeddingCommand → Next ℕ
step_count n (maps_to t) = goes 0
step_count n path = goes 0
step_count n (step p) = goes_if (ltb n max_steps) (suc n)
step_count n embedding_end = goes n
step_count n alien_e = stops

-- the 13th step
unfoldable pub embedding_limits : List ℕ → Verdict
embedding_limits bs = run embedding_width step_count (λ n. true) 0 0 (embedding_commands bs)

-- ---- 4, operands

-- the target type that the last source type is mapped to, and the one reached from it so far
pub record Reached : Type 0 where
  pub start : ℕ
  pub now : ℕ

unfoldable pub reaches : ℕ → Option ℕ → Next Reached
reaches start none = stops
reaches start (some τ) = goes (record { start = start; now = τ })

unfoldable pub path_step : Table → Reached → EmbeddingCommand → Next Reached
path_step T r (maps_to t) = goes_if (ltb t (length T)) (record { start = t; now = t })
path_step T r path = goes (record { start = r.start; now = r.start })
path_step T r (step p) = reaches r.start (step_from (kind_of T r.now) p)
path_step T r embedding_end = goes r
path_step T r alien_e = stops

-- no such target type, no such step
unfoldable pub embedding_operands : Table → List ℕ → Verdict
embedding_operands T bs = run embedding_width (path_step T) (λ r. true) (record { start = 0; now = 0 }) 0 (embedding_commands bs)

-- ---- 7, root to root

unfoldable pub root_to_root : Embedding → Bool
root_to_root E = eqb (target_of E 0) 0

-- ---- checks of the edges, type by type

-- the offset of the first edge that fails a test
unfoldable pub first_edge : (Edge → Bool) → List Edge → Verdict
first_edge right [] = passes
first_edge right (e ∷ es) = pick (right e) (first_edge right es) (fails e.at)

-- the verdicts of a check of each source type, given its kind and its map
unfoldable pub each_type : (Kind → TypeMap → Verdict) → Table → Embedding → Verdict
each_type check [] E = passes
each_type check (κ ∷ S) [] = passes
each_type check (κ ∷ S) (f ∷ E) = or_else (check κ f) (each_type check S E)

-- ---- 8, a path ends at the wrong type

-- a member's or item's path ends at the type that the member or item is mapped to
unfoldable pub ends_at : Embedding → Table → ℕ → List ℕ → List Edge → Verdict
ends_at E T τ [] es = passes
ends_at E T τ (m ∷ ms) [] = passes
ends_at E T τ (m ∷ ms) (e ∷ es) = pick (eqb (end_of T τ e.steps) (target_of E m)) (ends_at E T τ ms es) (fails e.at)

-- a character path ends at a text type
unfoldable pub ends_at_text : Table → ℕ → Edge → Bool
ends_at_text T τ e = is_text (kind_of T (end_of T τ e.steps))

unfoldable pub ends_of : Embedding → Table → Kind → TypeMap → Verdict
ends_of E T text f = first_edge (ends_at_text T f.target) f.edges
ends_of E T empty f = passes
ends_of E T (sequence ms) f = ends_at E T f.target ms f.edges
ends_of E T (choice need ms) f = ends_at E T f.target ms f.edges
ends_of E T (list m) f = ends_at E T f.target (m ∷ []) f.edges

unfoldable pub wrong_end_verdict : Table → Table → Embedding → Verdict
wrong_end_verdict S T E = each_type (ends_of E T) S E

-- ---- 9, wrong kind of steps, or too few

unfoldable pub leaves_only : (Kind → Bool) → List Kind → Bool
leaves_only test κs = not (some_of (λ κ. not (test κ)) κs)

unfoldable pub sequence_or_list : Kind → Bool
sequence_or_list κ = is_sequence κ || is_list κ

-- 02, N3: whether some choice is left, and the first of them is an optional one
unfoldable pub optional_first : List Kind → Bool
optional_first [] = false
optional_first (κ ∷ κs) = pick (is_choice κ) (is_optional κ) (optional_first κs)

-- Which kinds the steps of a path leave, by the kind of the source type. From a sequence: one or more steps, each
-- leaving a sequence or a list; a character path: the same steps, or none; from a choice: sequences, choices of either kind
-- and lists (02, N6), which is all that has steps, at least one choice; from an optional choice: the same, and the first choice
-- left is an optional one; from a list: sequences and lists, at least one list.
unfoldable pub right_steps : Kind → List Kind → Bool
right_steps text κs = leaves_only sequence_or_list κs
right_steps empty κs = true
right_steps (sequence ms) κs = leaves_only sequence_or_list κs && some_of (λ κ. true) κs
right_steps (choice needed ms) κs = some_of is_choice κs
right_steps (choice optional ms) κs = optional_first κs
right_steps (list m) κs = leaves_only sequence_or_list κs && some_of is_list κs

-- 02, N3: from an optional choice, a path's steps before its first choice step are also those of the type's first path.
unfoldable pub agrees : Table → Kind → ℕ → List ℕ → List ℕ → Bool
agrees T κ τ first ps = not (is_optional κ) || same_steps (before_choice T τ first) (before_choice T τ ps)

unfoldable pub steps_of : Table → Kind → TypeMap → Verdict
steps_of T κ f =
    let first = first_path (map (λ (e : Edge). e.steps) f.edges) in
    first_edge (λ e. right_steps κ (leaves T f.target e.steps) && agrees T κ f.target first e.steps) f.edges

unfoldable pub wrong_steps_verdict : Table → Table → Embedding → Verdict
wrong_steps_verdict S T E = each_type (steps_of T) S E

-- ---- 10, clashes

-- why two paths clash, that of an earlier and that of a later member (02, N9): they are equal; the earlier is a shorter beginning of the
-- later; the later is one of the earlier; they part at a sequence
pub data Reason : Type 0 where
  equal_paths : Reason
  earlier_begins : Reason
  later_begins : Reason
  part_at_sequence : Reason

-- Two members of a sequence, or of a choice of either kind: neither path is a beginning of the other, and they differ. If not, this is
-- why they clash.
unfoldable pub where_one_ends : Kind → Reason → Option Reason
where_one_ends text why = none
where_one_ends empty why = none
where_one_ends (sequence ms) why = some why
where_one_ends (choice need ms) why = some why
where_one_ends (list m) why = none

-- Two members of a choice of either kind: the first step where the paths differ leaves a choice of either kind. If not, it leaves a
-- sequence, as from a list there is one step only, and they clash.
unfoldable pub where_paths_part : Kind → Kind → Option Reason
where_paths_part text left = none
where_paths_part empty left = none
where_paths_part (sequence ms) left = none
where_paths_part (choice need ms) left = pick (is_choice left) none (some part_at_sequence)
where_paths_part (list m) left = none

-- why two paths of members of a source type of a kind clash, if they do, by what stands behind the steps that they share
unfoldable pub clash_reason : Kind → Behind → Option Reason
clash_reason κ both_end = where_one_ends κ equal_paths
clash_reason κ first_ends = where_one_ends κ earlier_begins
clash_reason κ second_ends = where_one_ends κ later_begins
clash_reason κ (apart left) = where_paths_part κ left

-- whether two paths from target type τ, of an earlier and a later member of a source type of kind κ, clash
unfoldable pub clash : Table → Kind → ℕ → List ℕ → List ℕ → Bool
clash T κ τ ps qs = is_there (clash_reason κ (parting T τ ps qs).behind)

-- the first edge that clashes with an earlier one
unfoldable pub first_clash : Table → Kind → ℕ → List Edge → List Edge → Verdict
first_clash T κ τ earlier [] = passes
first_clash T κ τ earlier (e ∷ es) =
    pick (some_of (λ (d : Edge). clash T κ τ d.steps e.steps) earlier) (fails e.at) (first_clash T κ τ (e ∷ earlier) es)

unfoldable pub clashes_of : Table → Kind → TypeMap → Verdict
clashes_of T κ f = first_clash T κ f.target [] f.edges

unfoldable pub path_clash_verdict : Table → Table → Embedding → Verdict
path_clash_verdict S T E = each_type (clashes_of T) S E
