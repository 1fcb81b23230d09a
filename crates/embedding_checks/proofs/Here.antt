-- What a check of one edge knows of it.
use mathlib.Core.Path.{◌≡◌, sym, ap, ◌∙◌}
use mathlib.Core.List.{List, []}
use Prim.Native.Nat.{ℕ, ◌+◌, ◌*◌, ◌<◌}
use native.Mathlib.Nat.{add-zero}
use native.Mathlib.Omega.{arith}
use lib.ListN.{get_or, drop}
use lib.Dec.{eqb}
use Rattle.model.specs.Definitions.Table.{kind_of, is_optional}
use Rattle.loaded_table.specs.Kinds.{optional_code}
use Rattle.loaded_table.specs.Loaded.{table_by, kinds_of, counts_of, members_in}
use Rattle.loaded_embedding.specs.Loaded.{targets_of, lengths_of}
use Rattle.embedding_clash.specs.Paths.{Walkable, path_of}
use Rattle.embedding_clash.specs.Ready.{CheckableAt}
use Rattle.embedding_clash.proofs.Arrays.{TypeAt, EdgeAt, type_at, edge_at}

module _ {source target em map : List ℕ} {s i : ℕ} {paths : List (List ℕ)} (h : CheckableAt source target em map s i paths) where
  pub type_here : TypeAt source target em map s
  type_here = type_at h.ready _ h.type_exists

  pub edge_here : EdgeAt source target em map s i
  edge_here = edge_at h.ready _ _ h.type_exists h.edge_exists

  pub few_before : i < 16
  few_before = omega (arith, h.edge_exists, type_here.at_most)

  -- its path stands among the paths
  pub path_here : get_or paths i [] ≡ path_of em map (s * 16 + i)
  path_here = h.stored.path_at_lem _ h.edge_exists

  -- and its steps exist
  pub walkable_here : {from count : ℕ} → from ≡ get_or (targets_of map) s 0 → count ≡ get_or (lengths_of map) (s * 16 + i) 0 → Walkable target from (get_or paths i []) count
  walkable_here from_is count_is = rw (from_is, count_is, path_here) edge_here.walkable

  -- the first edge of its type is such an edge too
  pub first_here : CheckableAt source target em map s 0 paths
  first_here = record { ready = h.ready; type_exists = h.type_exists; edge_exists = omega (arith, h.edge_exists); stored = h.stored }

  -- the number of its steps
  pub count_first : {count : ℕ} → count ≡ get_or (lengths_of map) (s * 16) 0 → count ≡ get_or (lengths_of map) (s * 16 + 0) 0
  count_first e = rw (add-zero (s * 16)) e

  -- whether the type is an optional choice
  pub optional_here : {kind : ℕ} → kind ≡ get_or (kinds_of source) s 0 → is_optional (kind_of (table_by source) s) ≡ eqb kind 4
  optional_here told =
      ap is_optional type_here.kind_is
      ∙ optional_code (get_or (kinds_of source) s 0) (get_or (counts_of source) s 0) (drop (s * 16) (members_in source))
      ∙ ap (λ (k : ℕ). eqb k 4) (sym told)
