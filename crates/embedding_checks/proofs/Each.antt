-- Laws of a loop that makes one check after another, and the model's checks of types and of edges as such loops.
use mathlib.Core.Path.{◌≡◌, refl, sym, ap, ◌∙◌}
use mathlib.Core.Bool.{Bool, true, false, not, ◌&&◌}
use mathlib.Core.List.{List, [], ◌∷◌, map}
use Prim.Native.Nat.{ℕ, zero, suc, ◌+◌, ◌-◌, ◌≤◌, ◌<◌}
use native.Mathlib.Omega.{arith}
use lib.ListN.{length, get_or}
use lib.Dec.{eqb}
use Rattle.model.specs.Definitions.Basics.{Verdict, passes, fails, pick, or_else, some_of}
use Rattle.model.specs.Definitions.Table.{Kind, text, empty, sequence, choice, list, Table, kind_of, edges_of}
use Rattle.model.specs.Definitions.Embedding.{Edge, TypeMap, Embedding, no_map, target_of, end_of, leaves, first_path, no_edge, edge_of}
use Rattle.model.specs.Definitions.EmbeddingChecks.{each_type, first_edge, ends_at, ends_at_text, ends_of, right_steps, agrees, steps_of, first_clash, clashes_of, clash, wrong_end_verdict, wrong_steps_verdict, path_clash_verdict}
use Rattle.model.proofs.Theorems.Tools.{pick_true, pick_false, and_left, and_right}
use Rattle.loaded_table.specs.Loaded.{table_by, length_of_lem}
use Rattle.loaded_embedding.specs.Loaded.{targets_of, starts_of, lengths_of, embedding_by}
use Rattle.embedding_clash.specs.Ready.{Checkable}
use Rattle.embedding_clash.proofs.Arrays.{in_length, type_at}
use Rattle.embedding_clash.proofs.Turns.{turns_start, turn_passes, turn_decides, turns_end}
use Rattle.embedding_clash.specs.Edges.{passed, clashes_below, clashes_at}
use Rattle.embedding_checks.specs.declared.EdgeCheck.{EdgeCheck}
use Rattle.embedding_checks.specs.declared.EdgeCheck.TheVariants.{Ends, Steps, Clashes, All}
use Rattle.embedding_ends.specs.Ends.{end_right}
use Rattle.embedding_checks.specs.Tests.{each_from, steps_right, edge_right, type_fault, first_fault}

-- ---- a loop over checks i to n

module _ (check : ℕ → Verdict) where
  -- a check that passes leaves the verdict to those behind it
  pub each_passes : (i n : ℕ) → i < n → check i ≡ passes → each_from check (i + 1) (n - (i + 1)) ≡ each_from check i (n - i)
  unfolding each_from or_else
  each_passes = turn_passes or_else passes each_from (λ at i. refl) (λ at i k. refl) check (λ v. refl)

  -- one that fails is the verdict
  pub each_fails : (i n at : ℕ) → i < n → check i ≡ fails at → each_from check i (n - i) ≡ fails at
  unfolding each_from or_else
  each_fails i n at = turn_decides or_else passes each_from (λ at i. refl) (λ at i k. refl) check i n (λ v. refl)

  -- and after the last all have passed
  pub each_ends : (i n : ℕ) → n ≤ i → each_from check i (n - i) ≡ passes
  unfolding each_from
  each_ends = turns_end or_else passes each_from (λ at i. refl) (λ at i k. refl) check

  -- at the start all are left
  pub each_starts : {n m : ℕ} → n ≡ m → each_from check 0 (n - 0) ≡ each_from check 0 m
  unfolding each_from
  each_starts = turns_start or_else passes each_from (λ at i. refl) (λ at i k. refl) check

-- the verdict of one edge, by its test
pub right_passes : {b : Bool} (at : ℕ) → b ≡ true → pick b passes (fails at) ≡ passes
right_passes {b} at e = pick_true b passes (fails at) e

pub wrong_fails : {b : Bool} {at place : ℕ} → b ≡ false → at ≡ place → pick b passes (fails at) ≡ fails place
wrong_fails {b} {at} e q = pick_false b passes (fails at) e ∙ ap fails q

-- ---- the model's checks as such loops

each_shift : (check : ℕ → Verdict) (i k : ℕ) → each_from check (suc i) k ≡ each_from (λ (j : ℕ). check (suc j)) i k
unfolding each_from
each_shift check i zero = refl
each_shift check i (suc k) = ap (or_else (check (suc i))) (each_shift check (suc i) k)

-- the verdict of source type s
abbrev pub type_verdict : (Kind → TypeMap → Verdict) → Table → Embedding → ℕ → Verdict
type_verdict check S E s = check (kind_of S s) (get_or E s no_map)

-- every source type
types_each : (check : Kind → TypeMap → Verdict) (S : Table) (E : Embedding) → length E ≡ length S
    → each_type check S E ≡ each_from (type_verdict check S E) 0 (length S)
unfolding each_type each_from kind_of
types_each check [] E h = refl
types_each check (κ ∷ S) [] h = absurd (omega arith)
types_each check (κ ∷ S) (f ∷ E) h =
    ap (or_else (check κ f)) (types_each check S E (omega arith) ∙ sym (each_shift (λ (s : ℕ). check (kind_of (κ ∷ S) s) (get_or (f ∷ E) s no_map)) 0 (length S)))

pick_else : (b : Bool) (at : ℕ) (v : Verdict) → pick b v (fails at) ≡ or_else (pick b passes (fails at)) v
unfolding pick or_else
pick_else true at v = refl
pick_else false at v = refl

-- every edge, by a test of its own
edges_each : (right : Edge → Bool) (es : List Edge)
    → first_edge right es ≡ each_from (λ (i : ℕ). pick (right (get_or es i no_edge)) passes (fails (get_or es i no_edge).at)) 0 (length es)
unfolding first_edge each_from
edges_each right [] = refl
edges_each right (e ∷ es) =
    pick_else (right e) e.at (first_edge right es)
    ∙ ap (or_else (pick (right e) passes (fails e.at)))
    (edges_each right es ∙ sym (each_shift (λ (i : ℕ). pick (right (get_or (e ∷ es) i no_edge)) passes (fails (get_or (e ∷ es) i no_edge).at)) 0 (length es)))

-- every edge, by its member
members_each : (E : Embedding) (T : Table) (τ : ℕ) (ms : List ℕ) (es : List Edge) → length es ≡ length ms
    → ends_at E T τ ms es
    ≡ each_from (λ (i : ℕ). pick (eqb (end_of T τ (get_or es i no_edge).steps) (target_of E (get_or ms i 0))) passes (fails (get_or es i no_edge).at)) 0 (length ms)
unfolding ends_at each_from
members_each E T τ [] es h = refl
members_each E T τ (m ∷ ms) [] h = absurd (omega arith)
members_each E T τ (m ∷ ms) (e ∷ es) h =
    pick_else (eqb (end_of T τ e.steps) (target_of E m)) e.at (ends_at E T τ ms es)
    ∙ ap (or_else (pick (eqb (end_of T τ e.steps) (target_of E m)) passes (fails e.at)))
    (members_each E T τ ms es (omega arith)
    ∙ sym
    (each_shift
    (λ (i : ℕ). pick (eqb (end_of T τ (get_or (e ∷ es) i no_edge).steps) (target_of E (get_or (m ∷ ms) i 0))) passes (fails (get_or (e ∷ es) i no_edge).at))
    0
    (length ms)))

-- check 8 of a type
ends_each : (E : Embedding) (T : Table) (κ : Kind) (f : TypeMap) → length f.edges ≡ edges_of κ
    → ends_of E T κ f ≡ each_from (λ (i : ℕ). pick (end_right E T κ f i) passes (fails (edge_of f i).at)) 0 (edges_of κ)
unfolding ends_of edges_of end_right edge_of ends_at_text each_from
ends_each E T text f h = edges_each (ends_at_text T f.target) f.edges ∙ ap (each_from _ 0) h
ends_each E T empty f h = refl
ends_each E T (sequence ms) f h = members_each E T f.target ms f.edges h
ends_each E T (choice need ms) f h = members_each E T f.target ms f.edges h
ends_each E T (list m) f h = members_each E T f.target (m ∷ []) f.edges h

-- check 9 of a type
steps_each : (T : Table) (κ : Kind) (f : TypeMap) → length f.edges ≡ edges_of κ
    → steps_of T κ f ≡ each_from (λ (i : ℕ). pick (steps_right T κ f i) passes (fails (edge_of f i).at)) 0 (edges_of κ)
unfolding steps_of steps_right edge_of
steps_each T κ f h =
    edges_each (λ (d : Edge). right_steps κ (leaves T f.target d.steps) && agrees T κ f.target (first_path (map (λ (e : Edge). e.steps) f.edges)) d.steps) f.edges
    ∙ ap (each_from _ 0) h

-- ---- clashes of one type

clash_else : (b : Bool) (at : ℕ) (v : Verdict) → pick b (fails at) v ≡ or_else (pick (not b) passes (fails at)) v
unfolding pick or_else
clash_else true at v = refl
clash_else false at v = refl

-- the verdict of edge i after others
abbrev clash_verdict : Table → Kind → ℕ → List Edge → List Edge → ℕ → Verdict
clash_verdict T κ τ earlier es i =
    pick (not (some_of (λ (d : Edge). clash T κ τ d.steps (get_or es i no_edge).steps) (passed i es earlier))) passes (fails (get_or es i no_edge).at)

clashes_from : (T : Table) (κ : Kind) (τ : ℕ) (earlier es : List Edge)
    → first_clash T κ τ earlier es ≡ each_from (clash_verdict T κ τ earlier es) 0 (length es)
unfolding first_clash each_from passed
clashes_from T κ τ earlier [] = refl
clashes_from T κ τ earlier (e ∷ es) =
    clash_else (some_of (λ (d : Edge). clash T κ τ d.steps e.steps) earlier) e.at (first_clash T κ τ (e ∷ earlier) es)
    ∙ ap (or_else (pick (not (some_of (λ (d : Edge). clash T κ τ d.steps e.steps) earlier)) passes (fails e.at)))
    (clashes_from T κ τ (e ∷ earlier) es ∙ sym (each_shift (clash_verdict T κ τ earlier (e ∷ es)) 0 (length es)))

-- check 10 of a type
clashes_each : (T : Table) (κ : Kind) (f : TypeMap) → length f.edges ≡ edges_of κ
    → clashes_of T κ f ≡ each_from (λ (i : ℕ). pick (not (clashes_at T κ f i)) passes (fails (edge_of f i).at)) 0 (edges_of κ)
unfolding clashes_of clashes_at clashes_below edge_of
clashes_each T κ f h = clashes_from T κ f.target [] f.edges ∙ ap (each_from _ 0) h

-- ---- the three checks

-- the verdict of edge i
abbrev pub edge_verdict : EdgeCheck → Embedding → Table → Kind → TypeMap → ℕ → Verdict
edge_verdict check E T κ f i = pick (edge_right check E T κ f i) passes (fails (edge_of f i).at)

-- a check of a type goes through its edges
pub type_each : (check : EdgeCheck) (E : Embedding) (T : Table) (κ : Kind) (f : TypeMap) → length f.edges ≡ edges_of κ
    → type_fault check E T κ f ≡ each_from (edge_verdict check E T κ f) 0 (edges_of κ)
unfolding edge_right type_fault
type_each Ends E T κ f h = ends_each E T κ f h
type_each Steps E T κ f h = steps_each T κ f h
type_each Clashes E T κ f h = clashes_each T κ f h
type_each All E T κ f h = refl

-- a check of all goes through the types
pub all_each : (check : EdgeCheck) (S T : Table) (E : Embedding) → length E ≡ length S
    → first_fault check S T E ≡ each_from (type_verdict (type_fault check E T) S E) 0 (length S)
unfolding wrong_end_verdict wrong_steps_verdict path_clash_verdict type_fault
all_each Ends S T E h = types_each (type_fault Ends E T) S E h
all_each Steps S T E h = types_each (type_fault Steps E T) S E h
all_each Clashes S T E h = types_each (type_fault Clashes E T) S E h
all_each All S T E h = types_each (type_fault All E T) S E h

-- ---- all three at once

-- where one row of checks passes and each of its verdicts that passes says that another's does, the other row passes
each_implies : (check other : ℕ → Verdict) (i k : ℕ) → ((j : ℕ) → j < i + k → check j ≡ passes → other j ≡ passes) → each_from check i k ≡ passes → each_from other i k ≡ passes
unfolding each_from or_else
each_implies check other i zero h e = refl
each_implies check other i (suc k) h e = go (check i) refl (each_implies check other (suc i) k (λ j less. h j (omega arith))) e
  where
    go : (v : Verdict) → check i ≡ v → (each_from check (suc i) k ≡ passes → each_from other (suc i) k ≡ passes) → or_else v (each_from check (suc i) k) ≡ passes → or_else (other i) (each_from other (suc i) k) ≡ passes
    go passes q later e = rw (h i (omega arith) q) (later e)
    go (fails at) q later e = let z : ◌≡◌ {A = ℕ} 0 1 = cc in absurd (omega arith)

-- an edge that is right in all is right in each
edge_implies : (check : EdgeCheck) (E : Embedding) (T : Table) (κ : Kind) (f : TypeMap) (i : ℕ) → edge_verdict All E T κ f i ≡ passes → edge_verdict check E T κ f i ≡ passes
unfolding pick edge_right
edge_implies check E T κ f i e = right_passes (edge_of f i).at (part check (right (edge_right All E T κ f i) e))
  where
    right : (b : Bool) → pick b passes (fails (edge_of f i).at) ≡ passes → b ≡ true
    right true e = refl
    right false e = let z : ◌≡◌ {A = ℕ} 0 1 = cc in absurd (omega (arith, z))

    part : (check : EdgeCheck) → edge_right All E T κ f i ≡ true → edge_right check E T κ f i ≡ true
    part Ends h = and_left _ _ h
    part Steps h = and_left _ _ (and_right (end_right E T κ f i) _ h)
    part Clashes h = and_right (steps_right T κ f i) _ (and_right (end_right E T κ f i) _ h)
    part All h = h

-- an embedding that is right in all is right in each, where every source type has its edges
all_implies : (check : EdgeCheck) (S T : Table) (E : Embedding) → length E ≡ length S → ((s : ℕ) → s < length S → length (get_or E s no_map).edges ≡ edges_of (kind_of S s))
    → first_fault All S T E ≡ passes → first_fault check S T E ≡ passes
unfolding type_fault
all_implies check S T E same due e =
    all_each check S T E same
    ∙ each_implies (type_verdict (type_fault All E T) S E) (type_verdict (type_fault check E T) S E) 0 (length S)
    (λ s less passed.
    type_each check E T (kind_of S s) (get_or E s no_map) (due s (omega arith))
    ∙ each_implies (edge_verdict All E T (kind_of S s) (get_or E s no_map)) (edge_verdict check E T (kind_of S s) (get_or E s no_map)) 0 (edges_of (kind_of S s))
    (λ i few right. edge_implies check E T (kind_of S s) (get_or E s no_map) i right) passed)
    (sym (all_each All S T E same) ∙ e)

-- so it is for loaded tables and a loaded embedding
pub all_right : {source target em map : List ℕ} → Checkable source target em map → first_fault All (table_by source) (table_by target) (embedding_by em (table_by source) map) ≡ passes → (check : EdgeCheck)
    → first_fault check (table_by source) (table_by target) (embedding_by em (table_by source) map) ≡ passes
all_right {source} {target} {em} {map} r e check =
    all_implies check (table_by source) (table_by target) (embedding_by em (table_by source) map) (in_length em (table_by source) (targets_of map) (starts_of map) (lengths_of map))
    (λ s less. (type_at r s (rw (length_of_lem source) at less)).edges_due_lem) e
