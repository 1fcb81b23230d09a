-- The edges of children: their numbers, and the steps of their paths.
use mathlib.Core.Path.{◌≡◌, refl, sym, ap, ◌∙◌}
use mathlib.Core.Bool.{Bool, true, false}
use mathlib.Core.List.{List, [], ◌∷◌, map}
use mathlib.Core.Option.{some}
use Prim.Native.Nat.{ℕ, zero, suc, ◌+◌, ◌*◌, ◌≤◌, ◌<◌}
use native.Mathlib.Nat.{add-zero, add-suc, suc-add}
use native.Mathlib.Omega.{arith}
use lib.ListN.{length, drop, get_or}
use lib.Dec.{eqb}
use Rattle.model.specs.Definitions.Basics.{pick}
use Rattle.model.specs.Definitions.Commands.{Need}
use Rattle.model.specs.Definitions.Table.{Kind, sequence, choice, list, Table, kind_of, edges_of}
use Rattle.model.specs.Definitions.Embedding.{Edge, paths_of, first_path, no_map}
use Rattle.model.specs.Definitions.Image.{path_of_member}
use Rattle.model.specs.Definitions.Templates.{depth_of, around}
use Rattle.loaded_table.specs.Kinds.{each_code, below_lists, list_codes, few_edges}
use Rattle.loaded_table.specs.Loaded.{Bounded, table_by, types_in, kind_from, kinds_of, counts_of, members_in, kind_of_lem, length_of_lem}
use Rattle.loaded_embedding.specs.Loaded.{steps_from, edge_in, edges_from, maps_from, embedding_in, embedding_by, lengths_of}
use Rattle.rows.specs.Rows.{index_in, member_index, row_index}
use Rattle.measuring.specs.Measured.{edge_number}

-- ---- by the code of a kind

-- a sequence's edges are numbered by child, those of other kinds as its rows are
pub number_of_sequence : (code count : ℕ) (row : List ℕ) (i t : ℕ) → code ≡ 2 → edge_number (kind_from code count row) i t ≡ i
unfolding edge_number
number_of_sequence code count row i t e = rw e refl

pub number_of_other : (code count : ℕ) (row : List ℕ) (i t : ℕ) → (code ≡ 2 → ⊥)
    → edge_number (kind_from code count row) i t ≡ row_index (kind_from code count row) (some t)
unfolding edge_number row_index
number_of_other code count row i t =
    each_code (λ (k : ℕ). (k ≡ 2 → ⊥) → edge_number (kind_from k count row) i t ≡ row_index (kind_from k count row) (some t))
    (λ e. refl) (λ e. refl) (λ e. absurd (e refl)) (λ e. refl) (λ e. refl) (λ k e. refl) code

-- something stands around the items of a list only
around_list : (code count : ℕ) (row : List ℕ) (n : ℕ) → 5 ≤ code → around (kind_from code count row) n ≡ n
unfolding around
around_list code count row n = list_codes (λ (k : ℕ). around (kind_from k count row) n ≡ n) (λ k. refl) code

around_other : (code count : ℕ) (row : List ℕ) (n : ℕ) → code < 5 → around (kind_from code count row) n ≡ 0
unfolding around
around_other code count row n = below_lists (λ (k : ℕ). around (kind_from k count row) n ≡ 0) refl refl refl refl refl code

-- what stands around items of a type whose kind has a code below 5, and of any other
module _ (source : List ℕ) (s code : ℕ) (exists : s < types_in source) (is_code : code ≡ get_or (kinds_of source) s 0) where
  pub none_around : code < 5 → (n : ℕ) → 0 ≡ around (kind_of (table_by source) s) n
  none_around small n =
      sym
      (ap (λ (κ : Kind). around κ n) (kind_of_lem source s exists)
      ∙ around_other (get_or (kinds_of source) s 0) (get_or (counts_of source) s 0) (drop (s * 16) (members_in source)) n (omega (arith, is_code, small)))

  pub all_around : 5 ≤ code → (m n : ℕ) → m ≡ n → m ≡ around (kind_of (table_by source) s) n
  all_around large m n same =
      same
      ∙ sym
      (ap (λ (κ : Kind). around κ n) (kind_of_lem source s exists)
      ∙ around_list (get_or (kinds_of source) s 0) (get_or (counts_of source) s 0) (drop (s * 16) (members_in source)) n (omega (arith, is_code, large)))

-- ---- a child's edge

-- child number i, of type t, has an edge in an element of this kind
pub data HasEdge (i t : ℕ) : Kind → Type 0 where
  in_sequence : {ms : List ℕ} → i < length ms → HasEdge i t (sequence ms)
  in_choice : {need : Need} {ms : List ℕ} → index_in t ms < length ms → HasEdge i t (choice need ms)
  in_list : {m : ℕ} → HasEdge i t (list m)

number_below : {κ : Kind} {i t : ℕ} → HasEdge i t κ → edge_number κ i t < edges_of κ
unfolding edge_number edges_of row_index member_index
number_below (in_sequence less) = less
number_below (in_choice less) = less
number_below in_list = omega arith

pub number_few : {source : List ℕ} (s : ℕ) {i t : ℕ} → Bounded source → HasEdge i t (kind_of (table_by source) s) → edge_number (kind_of (table_by source) s) i t < 16
number_few {source} s bounded edge = omega (arith, number_below edge, few_edges source bounded s)

-- ---- the steps of its path

-- the path of a member of a choice is the one at its place
member_path : (t : ℕ) (ms : List ℕ) (ps : List (List ℕ)) → index_in t ms < length ms → length ps ≡ length ms
    → path_of_member t ms ps ≡ get_or ps (index_in t ms) []
unfolding path_of_member index_in pick
member_path t [] ps less same = absurd (omega arith)
member_path t (m ∷ ms) [] less same = absurd (omega arith)
member_path t (m ∷ ms) (p ∷ ps) less same = go (eqb t m) refl (member_path t ms ps)
  where
    go : (b : Bool) → eqb t m ≡ b → (index_in t ms < length ms → length ps ≡ length ms → path_of_member t ms ps ≡ get_or ps (index_in t ms) [])
        → pick (eqb t m) p (path_of_member t ms ps) ≡ get_or (p ∷ ps) (pick (eqb t m) 0 (suc (index_in t ms))) []
    go true e later = rw e refl
    go false e later =
        let shorter : pick (eqb t m) 0 (suc (index_in t ms)) < suc (length ms) = less in
        let shorter' : suc (index_in t ms) < suc (length ms) = rw e at shorter in
        rw e (later (omega (arith, shorter')) (omega (arith, same)))

first_path_lem : (ps : List (List ℕ)) → first_path ps ≡ get_or ps 0 []
unfolding first_path
first_path_lem [] = refl
first_path_lem (p ∷ ps) = refl

depth_by_edge : {κ : Kind} {i t : ℕ} (ps : List (List ℕ)) → HasEdge i t κ → length ps ≡ edges_of κ
    → depth_of κ ps i t ≡ length (get_or ps (edge_number κ i t) [])
unfolding depth_of edge_number edges_of row_index member_index
depth_by_edge ps (in_sequence less) many = refl
depth_by_edge {t = t} ps (in_choice {ms = ms} less) many = ap length (member_path t ms ps less many)
depth_by_edge ps in_list many = ap length (first_path_lem ps)

length_steps : (em : List ℕ) (at n : ℕ) → length (steps_from em at n) ≡ n
unfolding steps_from
length_steps em at zero = refl
length_steps em at (suc n) = ap suc (length_steps em (at + 2) n)

module _ (em starts lengths : List ℕ) where
  abbrev paths : ℕ → ℕ → List (List ℕ)
  paths i n = map (λ (e : Edge). e.steps) (edges_from em starts lengths i n)

  length_paths : (i n : ℕ) → length (paths i n) ≡ n
  unfolding edges_from
  length_paths i zero = refl
  length_paths i (suc n) = ap suc (length_paths (suc i) n)

  length_path : (i n e : ℕ) → e < n → length (get_or (paths i n) e []) ≡ get_or lengths (i + e) 0
  unfolding edges_from edge_in
  length_path i zero e less = absurd (omega arith)
  length_path i (suc n) zero less = length_steps em _ _ ∙ ap (λ (p : ℕ). get_or lengths p 0) (sym (add-zero i))
  length_path i (suc n) (suc e) less =
      length_path (suc i) n e (omega arith) ∙ ap (λ (p : ℕ). get_or lengths p 0) (suc-add i e ∙ sym (add-suc i e))

  map_at : (targets : List ℕ) (s₀ : ℕ) (S : Table) (s : ℕ) → s < length S
      → (get_or (maps_from em targets starts lengths s₀ S) s no_map).edges ≡ edges_from em starts lengths ((s₀ + s) * 16) (edges_of (kind_of S s))
  unfolding maps_from kind_of
  map_at targets s₀ [] s less = absurd (omega arith)
  map_at targets s₀ (κ ∷ S) zero less = let place : s₀ + 0 ≡ s₀ = omega arith in rw place
  map_at targets s₀ (κ ∷ S) (suc s) less =
      let place : s₀ + suc s ≡ suc s₀ + s = omega arith in
      rw place (map_at targets (suc s₀) S s (omega arith))

  paths_in_lem : (targets : List ℕ) (S : Table) (s : ℕ) → s < length S
      → paths_of (embedding_in em S targets starts lengths) s ≡ paths (s * 16) (edges_of (kind_of S s))
  unfolding paths_of embedding_in
  paths_in_lem targets S s less =
      let place : 0 + s ≡ s = omega arith in
      ap (λ es. map (λ (e : Edge). e.steps) es) (rw place at (map_at targets 0 S s less))

-- the steps to a child's image are as many as the loaded embedding says of the child's edge
pub child_steps : (source map em : List ℕ) (s i t : ℕ) → s < types_in source → HasEdge i t (kind_of (table_by source) s)
    → depth_of (kind_of (table_by source) s) (paths_of (embedding_by em (table_by source) map) s) i t
    ≡ get_or (lengths_of map) (s * 16 + edge_number (kind_of (table_by source) s) i t) 0
child_steps source map em s i t exists edge =
    let there : s < length (table_by source) = omega (arith, exists, length_of_lem source) in
    let n = edges_of (kind_of (table_by source) s) in
    ap (λ (ps : List (List ℕ)). depth_of (kind_of (table_by source) s) ps i t) (paths_in_lem em _ _ _ (table_by source) s there)
    ∙ depth_by_edge (paths em _ (lengths_of map) (s * 16) n) edge (length_paths em _ _ (s * 16) n)
    ∙ length_path em _ (lengths_of map) (s * 16) n _ (number_below edge)
