-- Check 10 for two paths: going along both, what decides where they part or end, and what that says of two edges.
use mathlib.Core.Path.{◌≡◌, refl, sym, ap, ◌∙◌}
use mathlib.Core.Bool.{Bool, true, false}
use mathlib.Core.List.{List, [], ◌∷◌}
use mathlib.Core.Option.{Option, none, some}
use Prim.Native.Nat.{ℕ, ◌+◌, ◌*◌, ◌≤◌, ◌<◌, min}
use Rattle.std.specs.Prelude as std
use native.Mathlib.Numerals.{add-one}
use native.Mathlib.Omega.{arith}
use lib.ListN.{length, get_or, set, take, drop, length-set}
use lib.Seq.{get_or-set_same, get_or-set_other}
use lib.Dec.{eqb}
use borrow.Author.Tests.{eq-eqb, ne_eqb, eqb-true, eqb-false}
use Rattle.answers.specs.declared.Reason.{Reason}
use Rattle.answers.specs.declared.Clash.{Clash}
use Rattle.answers.specs.Answers.{clash}
use Rattle.model.specs.Definitions.Basics.{pick, and_then}
use Rattle.model.specs.Definitions.Table.{Kind, text, empty, sequence, choice, list, Table, kind_of, edges_of}
use Rattle.model.specs.Definitions.Embedding as model
use Rattle.model.specs.Definitions.Embedding.{next, both_end, first_ends, second_ends, apart, one_step_more, parting, edge_of}
use Rattle.model.specs.Definitions.EmbeddingChecks as checks
use Rattle.model.specs.Definitions.EmbeddingChecks.{equal_paths, earlier_begins, later_begins, part_at_sequence, where_one_ends, where_paths_part, clash_reason}
use Rattle.model.specs.Definitions.Explanation.{clash_for, pair_clash}
use Rattle.model.proofs.Theorems.Facts.{Walks}
use Rattle.model.proofs.Theorems.Partings.{step_shared, behind_shared, step_differs}
use Rattle.loaded_table.specs.Loaded.{kind_from, table_by, types_in, kinds_of, counts_of, members_in, kind_of_lem}
use Rattle.loaded_table.specs.Kinds.{choice_code, each_code, below_lists, list_codes, row_codes, other_codes, choice_code_lem, choice_from}
use Rattle.loaded_embedding.specs.Loaded.{targets_of, starts_of, lengths_of, edge_in}
use Rattle.embedding_clash.specs.declared.clash.Behind.{Behind}
use Rattle.embedding_clash.specs.declared.clash.Behind.TheVariants.{BothEnd, FirstEnds, SecondEnds, Apart}
use Rattle.embedding_clash.specs.declared.clash.Parting.{Parting}
use Rattle.embedding_clash.specs.Comparing.{behind_by, reason_by, EndsBy, SameParting, ClashOf}
use Rattle.embedding_clash.specs.Paths.{path_of, PathsAt}
use Rattle.embedding_clash.specs.Ready.{map_of, Checkable}
use Rattle.embedding_clash.proofs.Arrays.{type_at, edge_at}
use Rattle.embedding_clash.proofs.Following.{StepAt, path_steps, goes_on, rest_none, rest_cons}

-- ---- codes of kinds

-- why paths clash goes by the code of the source type's kind alone
by_code : (code count : ℕ) (row : List ℕ) (b : model.Behind) → clash_reason (kind_from code count row) b ≡ clash_reason (kind_from code 0 []) b
unfolding clash_reason where_one_ends where_paths_part
by_code code count row both_end = each_code (λ (k : ℕ). where_one_ends (kind_from k count row) equal_paths ≡ where_one_ends (kind_from k 0 []) equal_paths) refl refl refl refl refl (λ k. refl) code
by_code code count row first_ends = each_code (λ (k : ℕ). where_one_ends (kind_from k count row) earlier_begins ≡ where_one_ends (kind_from k 0 []) earlier_begins) refl refl refl refl refl (λ k. refl) code
by_code code count row second_ends = each_code (λ (k : ℕ). where_one_ends (kind_from k count row) later_begins ≡ where_one_ends (kind_from k 0 []) later_begins) refl refl refl refl refl (λ k. refl) code
by_code code count row (apart left) = each_code (λ (k : ℕ). where_paths_part (kind_from k count row) left ≡ where_paths_part (kind_from k 0 []) left) refl refl refl refl refl (λ k. refl) code

-- where one path is a beginning of the other: in sequences and choices, in kinds below them, and in lists
module _ (code : ℕ) (why : checks.Reason) where
  pub joined_row : 2 ≤ code → code < 5 → some why ≡ where_one_ends (kind_from code 0 []) why
  unfolding where_one_ends
  joined_row = row_codes (λ (k : ℕ). some why ≡ where_one_ends (kind_from k 0 []) why) refl refl refl code

  pub joined_below : code < 2 → none ≡ where_one_ends (kind_from code 0 []) why
  unfolding where_one_ends
  joined_below low =
      below_lists (λ (k : ℕ). k < 2 → none ≡ where_one_ends (kind_from k 0 []) why)
      (λ h. refl) (λ h. refl) (λ h. absurd (omega arith)) (λ h. absurd (omega arith)) (λ h. absurd (omega arith)) code (omega arith) low

  pub joined_list : 5 ≤ code → none ≡ where_one_ends (kind_from code 0 []) why
  unfolding where_one_ends
  joined_list = list_codes (λ (k : ℕ). none ≡ where_one_ends (kind_from k 0 []) why) (λ k. refl) code

-- where they part, in kinds other than choices
pub parted_other : (code : ℕ) (left : Kind) → choice_code code ≡ false → none ≡ where_paths_part (kind_from code 0 []) left
unfolding where_paths_part
parted_other code left = other_codes (λ (k : ℕ). none ≡ where_paths_part (kind_from k 0 []) left) refl refl refl (λ k. refl) code

-- where they part in a choice of either kind, by whether a choice is left
pub parted_choice : (code left : ℕ) {b : Bool} → choice_code code ≡ true → choice_code left ≡ b
    → pick b none (some part_at_sequence) ≡ where_paths_part (kind_from code 0 []) (kind_from left 0 [])
unfolding where_paths_part
parted_choice code left e f = rw (choice_from code 0 [] e) (ap (λ (b : Bool). pick b none (some part_at_sequence)) (sym (choice_code_lem left 0 [] ∙ f)))

-- and what they part at goes by its code alone
apart_code : (κ : Kind) (code count : ℕ) (row : List ℕ) → clash_reason κ (apart (kind_from code count row)) ≡ clash_reason κ (apart (kind_from code 0 []))
unfolding clash_reason where_paths_part
apart_code text code count row = refl
apart_code empty code count row = refl
apart_code (sequence ms) code count row = refl
apart_code (choice need ms) code count row = ap (λ (b : Bool). pick b none (some part_at_sequence)) (choice_code_lem code count row ∙ sym (choice_code_lem code 0 []))
apart_code (list m) code count row = refl

-- what stands behind the shared steps is known
pub reason_behind : (κ : Kind) {b d : Behind} {o : Option checks.Reason} → b ≡ d → o ≡ clash_reason κ (behind_by d) → o ≡ clash_reason κ (behind_by b)
reason_behind κ same e = e ∙ ap (λ (x : Behind). clash_reason κ (behind_by x)) (sym same)

-- ---- along two paths

-- i steps are the same so far: what is left of both, from the type reached, compares as the whole paths do, and they share i steps more
pub record Together (T : Table) (from : ℕ) (one two : List ℕ) (t i : ℕ) (ps qs : List ℕ) : Type 0 where
  pub walks : Walks T t ps
  pub same_behind : (parting T t ps qs).behind ≡ (parting T from one two).behind
  pub same_shared : i + (parting T t ps qs).shared ≡ (parting T from one two).shared

pub together_on : {T : Table} {from : ℕ} {one two : List ℕ} {t i p q : ℕ} {ps qs : List ℕ}
    → Together T from one two t i (p ∷ ps) (q ∷ qs) → p ≡ q → Together T from one two (next T t p) (i + 1) ps qs
unfolding one_step_more
together_on {T} {t = t} {i} {p} {q} {ps} {qs} w e =
    let counted = ap (λ (v : model.Parting). v.shared) (step_shared T t p q ps qs (eq-eqb p q e)) in
    record {
      walks = (goes_on w.walks).onwards;
      same_behind = sym (behind_shared T t p q ps qs (eq-eqb p q e)) ∙ w.same_behind;
      same_shared = omega (arith, counted, w.same_shared);
    }

-- where nothing more is shared, what was found is the whole comparison
found_there : {T : Table} {from : ℕ} {one two : List ℕ} {t i : ℕ} {ps qs : List ℕ} {b : model.Behind} (r : Behind) → Together T from one two t i ps qs
    → parting T t ps qs ≡ record { shared = 0; behind = b } → ((κ : Kind) → clash_reason κ (behind_by r) ≡ clash_reason κ b)
    → SameParting (record { shared = i; behind = r }) (parting T from one two)
found_there r w e reasons =
    let None-more = ap (λ (v : model.Parting). v.shared) e in
    record {
      same_shared = omega (arith, None-more, w.same_shared);
      same_reasons = λ κ. reasons κ ∙ ap (clash_reason κ) (sym (ap (λ (v : model.Parting). v.behind) e) ∙ w.same_behind);
    }

-- the steps differ
pub differ : {target : List ℕ} {from : ℕ} {one two : List ℕ} {t i p q code : ℕ} {ps qs : List ℕ} → code ≡ get_or (kinds_of target) t 0
    → StepAt target t p → Together (table_by target) from one two t i (p ∷ ps) (q ∷ qs) → (p ≡ q → ⊥)
    → SameParting (record { shared = i; behind = Apart code }) (parting (table_by target) from one two)
differ {target} {t = t} {i} {p} {q} {code} {ps} {qs} told s w e =
    found_there (Apart code) w (step_differs (table_by target) t p q ps qs (ne_eqb p q e)) (λ κ.
    ap (λ (k : ℕ). clash_reason κ (apart (kind_from k 0 []))) told
    ∙ sym (apart_code κ (get_or (kinds_of target) t 0) (get_or (counts_of target) t 0) (drop (t * 16) (members_in target)))
    ∙ ap (λ (k : Kind). clash_reason κ (apart k)) (sym (kind_of_lem target t s.inside)))

-- one of them is at its end
pub at_end : {T : Table} {from : ℕ} (a b : List ℕ) (la lb : ℕ) {t i n : ℕ} (r : Behind) → EndsBy la lb r → n ≡ min la lb → i ≡ n → la ≤ length a → lb ≤ length b
    → Together T from (take la a) (take lb b) t i (drop i (take la a)) (drop i (take lb b))
    → SameParting (record { shared = n; behind = r }) (parting T from (take la a) (take lb b))
unfolding parting
at_end a b la lb {i = i} BothEnd ends least same long-a long-b w =
    rw (sym same) (found_there BothEnd (rw (rest_none a la i (omega arith), rest_none b lb i (omega arith)) at w) refl (λ κ. refl))
at_end a b la lb {i = i} FirstEnds ends least same long-a long-b w =
    rw (sym same) (found_there FirstEnds (rw (rest_none a la i (omega arith), rest_cons b lb i (omega arith) long-b) at w) refl (λ κ. refl))
at_end a b la lb {i = i} SecondEnds ends least same long-a long-b w =
    rw (sym same) (found_there SecondEnds (rw (rest_cons a la i (omega arith) long-a, rest_none b lb i (omega arith)) at w) refl (λ κ. refl))
at_end a b la lb (Apart left) ends least same long-a long-b w = absurd ends

-- ---- the paths of a type

-- storing the path of the next edge
paths_more : {em map : List ℕ} {b i : ℕ} {paths : List (List ℕ)} {path : List ℕ} → PathsAt em map b i paths
    → i < length paths → path ≡ path_of em map (b + i) → PathsAt em map b (i + 1) (set paths i path)
paths_more {em} {map} {b} {i} {paths} {path} h room e = record { path_at_lem = at }
  where
    at : (j : ℕ) → j < i + 1 → get_or (set paths i path) j [] ≡ path_of em map (b + j)
    at j below = go (eqb j i) refl
      where
        go : (t : Bool) → eqb j i ≡ t → get_or (set paths i path) j [] ≡ path_of em map (b + j)
        go true q = rw (eqb-true j i q) (get_or-set_same paths i path [] room ∙ e)
        go false q =
            let other : j ≡ i → ⊥ = eqb-false j i q in
            get_or-set_other paths i j path [] other ∙ h.path_at_lem j (omega (arith, other))

-- on the way through the edges of a type: the array of paths, and those stored in it so far
pub record PathsStored (em map : List ℕ) (b i : ℕ) (paths : List (List ℕ)) : Type 0 where
  pub long : length paths ≡ 16
  pub right : PathsAt em map b i paths

pub stored_none : {em map : List ℕ} {b : ℕ} {paths : List (List ℕ)} → length paths ≡ 16 → PathsStored em map b 0 paths
stored_none e = record { long = e; right = record { path_at_lem = λ j h. absurd (omega arith) } }

pub stored_more : {em map : List ℕ} {b i : ℕ} {paths : List (List ℕ)} {path : List ℕ} → PathsStored em map b i paths
    → i < 16 → path ≡ path_of em map (b + i) → PathsStored em map b (i + 1) (set paths i path)
stored_more {i = i} {paths} {path} w h e = record {
  long = length-set paths i path ∙ w.long;
  right = paths_more w.right (rw w.long h) e;
}

pub stored_all : {em map : List ℕ} {b i n : ℕ} {paths : List (List ℕ)} → PathsStored em map b i paths → i ≡ n → PathsAt em map b n paths
stored_all {em} {map} {b} {paths = paths} w e = rw e at w.right

-- ---- two edges of a type

module _ {source target em map : List ℕ}
    (r : Checkable source target em map)
    (s i : ℕ) (hs : s < types_in source) (hi : i < edges_of (kind_of (table_by source) s)) where
  -- the steps of an edge of the model
  pub same_steps_lem : {path : List ℕ} {count : ℕ} → count ≡ get_or (lengths_of map) (s * 16 + i) 0
      → path ≡ path_of em map (s * 16 + i)
      → take count path ≡ (edge_of (map_of source em map s) i).steps
  unfolding edge_in
  same_steps_lem {path} {count} ec ep =
      rw (ec, ep, path_steps em (get_or (starts_of map) (s * 16 + i) 0) (get_or (lengths_of map) (s * 16 + i) 0), (edge_at r s i hs hi).edge_is)

module _ {source target em map : List ℕ}
    (r₀ : Checkable source target em map)
    (s i j : ℕ) (hs : s < types_in source) (hi : i < edges_of (kind_of (table_by source) s)) (hj : j < edges_of (kind_of (table_by source) s)) where
  -- what the code finds of two edges: how they compare, and the reason for a clash if there is one
  pub record PairCompared (r : Parting) (found : std.Option Reason) : Type 0 where
    pub same-reason : clash_reason (kind_of (table_by source) s) (parting (table_by target) (map_of source em map s).target (edge_of (map_of source em map s) j).steps (edge_of (map_of source em map s) i).steps).behind ≡ reason_by found
    pub same_number : (parting (table_by target) (map_of source em map s).target (edge_of (map_of source em map s) j).steps (edge_of (map_of source em map s) i).steps).shared ≡ r.shared

  pub pair_compared : {kind from : ℕ} {a b : List ℕ} {la lb : ℕ} {r : Parting} {found : std.Option Reason}
      → kind ≡ get_or (kinds_of source) s 0
      → from ≡ get_or (targets_of map) s 0
      → la ≡ get_or (lengths_of map) (s * 16 + j) 0
      → a ≡ path_of em map (s * 16 + j)
      → lb ≡ get_or (lengths_of map) (s * 16 + i) 0
      → b ≡ path_of em map (s * 16 + i)
      → SameParting r (parting (table_by target) from (take la a) (take lb b))
      → reason_by found ≡ clash_reason (kind_from kind 0 []) (behind_by r.behind)
      → PairCompared r found
  pair_compared {kind} {r = r} {found} ek ef ea1 ea2 eb1 eb2 same told =
      let here = rw (ef, same_steps_lem r₀ s j hs hj ea1 ea2, same_steps_lem r₀ s i hs hi eb1 eb2, ← (type_at r₀ s hs).target_is) at same in
      record {
        same-reason =
            ap (λ (κ : Kind). clash_reason κ (parting (table_by target) (map_of source em map s).target (edge_of (map_of source em map s) j).steps (edge_of (map_of source em map s) i).steps).behind) (type_at r₀ s hs).kind_is
            ∙ by_code (get_or (kinds_of source) s 0) (get_or (counts_of source) s 0) (drop (s * 16) (members_in source)) _
            ∙ sym (here.same_reasons (kind_from (get_or (kinds_of source) s 0) 0 []))
            ∙ ap (λ (k : ℕ). clash_reason (kind_from k 0 []) (behind_by r.behind)) (sym ek)
            ∙ sym told;
        same_number = sym here.same_shared;
      }

  -- nothing is found of two edges that don't clash
  pub pair_free : {r : Parting} {found : std.Option Reason} → PairCompared r found → found ≡ std.None → pair_clash (table_by target) (kind_of (table_by source) s) (map_of source em map s) s i j ≡ none
  unfolding pair_clash and_then
  pair_free h is = rw (h.same-reason, is) refl

  -- and of two that do, the clash
  pub pair_found : (c : Clash) {r : Parting} {found : std.Option Reason} {why : Reason} → PairCompared r found → found ≡ std.Some why → ClashOf map s j i r.shared why c
      → pair_clash (table_by target) (kind_of (table_by source) s) (map_of source em map s) s i j ≡ some (clash c)
  unfolding pair_clash clash_for and_then
  pair_found c h is made = rw (h.same-reason, is, h.same_number, (edge_at r₀ s i hs hi).mark_is, made.of_type, made.earlier_is, made.later_is, made.shared_is, made.reason_is, made.mark_is, add-one i, add-one j) refl
