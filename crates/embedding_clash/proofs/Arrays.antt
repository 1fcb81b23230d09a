-- What is known of edge i of source type s of a loaded embedding.
use mathlib.Core.Path.{◌≡◌, refl, sym, ap, ◌∙◌}
use mathlib.Core.List.{List, [], ◌∷◌}
use Prim.Native.Nat.{ℕ, zero, suc, ◌+◌, ◌*◌, ◌≤◌, ◌<◌}
use native.Mathlib.Nat.{add-zero, add-suc, suc-add, zero-add}
use native.Mathlib.Omega.{arith}
use lib.ListN.{length, get_or}
use Rattle.model.specs.Definitions.Table.{Kind, Table, kind_of, edges_of}
use Rattle.model.specs.Definitions.Embedding.{Edge, TypeMap, no_map, target_of, no_edge, edge_of}
use Rattle.model.proofs.Theorems.Facts.{Walks, All, all_none, all_more}
use Rattle.loaded_table.specs.Loaded.{table_by, types_in, kinds_of, counts_of, members_in, kind_in, length_of_lem, kind_of_lem}
use Rattle.loaded_embedding.specs.Loaded.{targets_of, starts_of, lengths_of, steps_from, edge_in, edges_from, maps_from, embedding_in}
use Rattle.embedding_clash.specs.Paths.{path_of, Walkable}
use Rattle.embedding_clash.specs.Ready.{map_of, Checkable}
use Rattle.loaded_table.specs.Kinds.{few_edges}
use Rattle.embedding_clash.proofs.Following.{path_steps}

-- ---- the arrays

module _ (em starts lengths : List ℕ) where
  edges_length : (b n : ℕ) → length (edges_from em starts lengths b n) ≡ n
  unfolding edges_from
  edges_length b zero = refl
  edges_length b (suc n) = ap suc (edges_length (suc b) n)

  edges_at : (b n i : ℕ) → i < n → get_or (edges_from em starts lengths b n) i no_edge ≡ edge_in em starts lengths (b + i)
  unfolding edges_from
  edges_at b zero i h = absurd (omega arith)
  edges_at b (suc n) zero h = ap (edge_in em starts lengths) (sym (add-zero b))
  edges_at b (suc n) (suc i) h = edges_at (suc b) n i (omega arith) ∙ ap (edge_in em starts lengths) (suc-add b i ∙ sym (add-suc b i))

  -- the map of type s, of kind κ
  abbrev type_map : List ℕ → Kind → ℕ → TypeMap
  type_map targets κ s = record { target = get_or targets s 0; edges = edges_from em starts lengths (s * 16) (edges_of κ) }

  maps_length : (targets : List ℕ) (s : ℕ) (S : Table) → length (maps_from em targets starts lengths s S) ≡ length S
  unfolding maps_from
  maps_length targets s [] = refl
  maps_length targets s (κ ∷ S) = ap suc (maps_length targets (suc s) S)

  map_from : (targets : List ℕ) (s : ℕ) (S : Table) (i : ℕ) → i < length S
      → get_or (maps_from em targets starts lengths s S) i no_map ≡ type_map targets (kind_of S i) (s + i)
  unfolding maps_from kind_of
  map_from targets s [] i h = absurd (omega arith)
  map_from targets s (κ ∷ S) zero h = ap (type_map targets κ) (sym (add-zero s))
  map_from targets s (κ ∷ S) (suc i) h =
      map_from targets (suc s) S i (omega arith) ∙ ap (type_map targets (kind_of S i)) (suc-add s i ∙ sym (add-suc s i))

-- an embedding has as many maps as the source has types
pub in_length : (em : List ℕ) (S : Table) (targets starts lengths : List ℕ) → length (embedding_in em S targets starts lengths) ≡ length S
unfolding embedding_in
in_length em S targets starts lengths = maps_length em starts lengths targets 0 S

map_in : (em : List ℕ) (S : Table) (targets starts lengths : List ℕ) (s : ℕ) → s < length S
    → get_or (embedding_in em S targets starts lengths) s no_map ≡ type_map em starts lengths targets (kind_of S s) s
unfolding embedding_in
map_in em S targets starts lengths s h = map_from em starts lengths targets 0 S s h ∙ ap (type_map em starts lengths targets (kind_of S s)) (zero-add s)

-- the root's target
pub root_target : (em : List ℕ) (S : Table) (targets starts lengths : List ℕ) → 0 < length S → target_of (embedding_in em S targets starts lengths) 0 ≡ get_or targets 0 0
unfolding target_of
root_target em S targets starts lengths h = ap (λ (f : TypeMap). f.target) (map_in em S targets starts lengths 0 h)

-- what holds of all entries holds of each
all_at : {A : Type 0} {P : A → Type 0} {xs : List A} (d : A) (i : ℕ) → All P xs → i < length xs → P (get_or xs i d)
all_at d i all_none h = absurd (omega arith)
all_at d zero (all_more p ps) h = p
all_at d (suc i) (all_more p ps) h = all_at d i ps (omega arith)

-- ---- a type and an edge of an embedding that is ready

module _ (source target em map : List ℕ) where
  -- what is known of source type s
  pub record TypeAt (s : ℕ) : Type 0 where
    pub few : s < 64
    pub kind_is : kind_of (table_by source) s ≡ kind_in (kinds_of source) (counts_of source) (members_in source) s
    pub at_most : edges_of (kind_of (table_by source) s) ≤ 16
    pub edges_due_lem : length (map_of source em map s).edges
        ≡ edges_of (kind_of (table_by source) s)
    pub target_is : (map_of source em map s).target ≡ get_or (targets_of map) s 0
    pub target_exists : get_or (targets_of map) s 0 < types_in target

  -- what is known of edge i of source type s
  pub record EdgeAt (s i : ℕ) : Type 0 where
    pub inside : s * 16 + i < 1024
    pub edge_is : edge_of (map_of source em map s) i ≡ edge_in em (starts_of map) (lengths_of map) (s * 16 + i)
    pub mark_is : (edge_of (map_of source em map s) i).at ≡ get_or (starts_of map) (s * 16 + i) 0
    pub short : get_or (lengths_of map) (s * 16 + i) 0 ≤ 12
    pub walks : Walks (table_by target) (get_or (targets_of map) s 0) (steps_from em (get_or (starts_of map) (s * 16 + i) 0 + 2) (get_or (lengths_of map) (s * 16 + i) 0))
    pub walkable : Walkable target (get_or (targets_of map) s 0) (path_of em map (s * 16 + i)) (get_or (lengths_of map) (s * 16 + i) 0)

module _ {source target em map : List ℕ} where
  pub type_at : Checkable source target em map → (s : ℕ) → s < types_in source → TypeAt source target em map s
  unfolding target_of
  type_at r s h =
      let inside : s < length (table_by source) = rw (length_of_lem source) h in
      let here : map_of source em map s
      ≡ type_map em (starts_of map) (lengths_of map) (targets_of map) (kind_of (table_by source) s) s =
      map_in em (table_by source) (targets_of map) (starts_of map) (lengths_of map) s inside in
      record {
        few = omega (arith, r.source_bounded.few_types);
        kind_is = kind_of_lem source s h;
        at_most = few_edges source r.source_bounded s;
        edges_due_lem = ap (λ (f : TypeMap). length f.edges) here ∙ edges_length em (starts_of map) (lengths_of map) (s * 16) (edges_of (kind_of (table_by source) s));
        target_is = ap (λ (f : TypeMap). f.target) here;
        target_exists = rw (ap (λ (f : TypeMap). f.target) here) at (r.targets_exist s h);
      }

  pub edge_at : Checkable source target em map → (s i : ℕ) → s < types_in source
      → i < edges_of (kind_of (table_by source) s) → EdgeAt source target em map s i
  unfolding edge_of target_of edge_in
  edge_at r s i hs hi =
      let t : TypeAt source target em map s = type_at r s hs in
      let below : s < length (table_by source) = rw (length_of_lem source) hs in
      let edge : get_or (map_of source em map s).edges i no_edge ≡ edge_in em (starts_of map) (lengths_of map) (s * 16 + i) =
      ap (λ (f : TypeMap). get_or f.edges i no_edge) (map_in em (table_by source) (targets_of map) (starts_of map) (lengths_of map) s below)
      ∙ edges_at em (starts_of map) (lengths_of map) (s * 16) (edges_of (kind_of (table_by source) s)) i hi in
      let walk : Walks (table_by target) (get_or (targets_of map) s 0) (steps_from em (get_or (starts_of map) (s * 16 + i) 0 + 2) (get_or (lengths_of map) (s * 16 + i) 0)) =
      rw (edge, t.target_is) at (all_at no_edge i (r.walks s hs) (rw t.edges_due_lem hi)) in
      record {
        inside = omega (arith, t.few, t.at_most);
        edge_is = edge;
        mark_is = ap (λ (d : Edge). d.at) edge;
        short = r.paths_bounded.short (s * 16 + i);
        walks = walk;
        walkable = record {
          bounded = r.target_bounded;
          short = r.paths_bounded.short (s * 16 + i);
          walks = rw (path_steps em (get_or (starts_of map) (s * 16 + i) 0) (get_or (lengths_of map) (s * 16 + i) 0)) walk;
        };
      }
