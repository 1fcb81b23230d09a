-- The loops over the source types and over the edges of one: what their invariants say, and how a turn keeps them. And what the test
-- of an edge in all three checks says, by the parts that were made of it.
use mathlib.Core.Path.{◌≡◌, refl, sym, ap, ◌∙◌}
use mathlib.Core.Bool.{Bool, true, false, not}
use mathlib.Core.List.{List}
use Prim.Native.Nat.{ℕ, ◌+◌, ◌-◌, ◌*◌, ◌≤◌, ◌<◌}
use native.Mathlib.Omega.{arith}
use lib.ListN.{get_or}
use borrow.Author.Tests.{not-true, not-false}
use Rattle.model.specs.Definitions.Basics.{Verdict, passes, fails}
use Rattle.model.specs.Definitions.Embedding.{edge_of}
use Rattle.model.specs.Definitions.Table.{kind_of, edges_of}
use Rattle.loaded_table.specs.Loaded.{table_by, types_in, length_of_lem}
use Rattle.loaded_embedding.specs.Loaded.{targets_of, starts_of, lengths_of, embedding_by}
use Rattle.embedding_clash.specs.Ready.{map_of}
use Rattle.embedding_clash.specs.Edges.{clashes_at}
use Rattle.embedding_clash.proofs.Arrays.{TypeAt, EdgeAt, in_length}
use Rattle.embedding_checks.specs.declared.EdgeCheck.{EdgeCheck}
use Rattle.embedding_checks.specs.declared.EdgeCheck.TheVariants.{Ends, Steps, All}
use Rattle.embedding_checks.specs.Tests.{each_from, edge_right, type_fault, first_fault}
use Rattle.embedding_checks.proofs.Each.{edge_verdict, each_starts, each_passes, each_fails, each_ends, right_passes, wrong_fails, type_each, all_each}

-- ---- a check, on loaded tables and a loaded embedding

module _ (check : EdgeCheck) (source target em map : List ℕ) where
  -- of edge i of source type s
  abbrev edge_test : ℕ → ℕ → Bool
  edge_test s i = edge_right check (embedding_by em (table_by source) map) (table_by target) (kind_of (table_by source) s) (map_of source em map s) i

  -- its verdict
  abbrev verdict_at : ℕ → ℕ → Verdict
  verdict_at s i = edge_verdict check (embedding_by em (table_by source) map) (table_by target) (kind_of (table_by source) s) (map_of source em map s) i

  -- of source type s
  abbrev type_test : ℕ → Verdict
  type_test s = type_fault check (embedding_by em (table_by source) map) (table_by target) (kind_of (table_by source) s) (map_of source em map s)

  -- of all
  abbrev whole_test : Verdict
  whole_test = first_fault check (table_by source) (table_by target) (embedding_by em (table_by source) map)

  -- Edge i of the n edges of source type s is next: the verdict of those that are left is the verdict of the type.
  pub record EdgesLeft (s n i : ℕ) : Type 0 where
    pub within : i ≤ n
    pub same : each_from (verdict_at s) i (n - i) ≡ type_test s

  -- Source type s of n is next: the verdict of those that are left is the verdict of all.
  pub record TypesLeft (n s : ℕ) : Type 0 where
    pub within : s ≤ n
    pub same : each_from type_test s (n - s) ≡ whole_test

  -- at the start all are left
  pub edges_start : {s n : ℕ} → TypeAt source target em map s → n ≡ edges_of (kind_of (table_by source) s) → EdgesLeft s n 0
  edges_start {s} {n} type counted = record {
    within = omega arith;
    same = each_starts (verdict_at s) counted
        ∙ sym (type_each check (embedding_by em (table_by source) map) (table_by target) (kind_of (table_by source) s) (map_of source em map s) type.edges_due_lem);
  }

  pub types_start : {n : ℕ} → n ≡ types_in source → TypesLeft n 0
  types_start {n} counted = record {
    within = omega arith;
    same = each_starts type_test (counted ∙ sym (length_of_lem source))
        ∙ sym (all_each check (table_by source) (table_by target) (embedding_by em (table_by source) map) (in_length em (table_by source) (targets_of map) (starts_of map) (lengths_of map)));
  }

module _ {check : EdgeCheck} {source target em map : List ℕ} where
  -- the test of the edge that is next was made
  module _ {s n i : ℕ} (left : EdgesLeft check source target em map s n i) where
    module _ (more : i < n) {right : Bool} (tested : right ≡ edge_test check source target em map s i) where
      pub edge-passes : not right ≡ false → EdgesLeft check source target em map s n (i + 1)
      edge-passes told = record {
        within = omega arith;
        same = each_passes (verdict_at check source target em map s) i n more (right_passes (edge_of (map_of source em map s) i).at (sym tested ∙ not-false right told)) ∙ left.same;
      }

      pub edge-fails : {at : ℕ} → not right ≡ true → EdgeAt source target em map s i → at ≡ get_or (starts_of map) (s * 16 + i) 0 → fails at ≡ type_test check source target em map s
      edge-fails {at} told edge place =
          sym (each_fails (verdict_at check source target em map s) i n at more (wrong_fails (sym tested ∙ not-true right told) (edge.mark_is ∙ sym place))) ∙ left.same

    -- none is left
    pub edges-end : n ≤ i → passes ≡ type_test check source target em map s
    edges-end none = sym (each_ends (verdict_at check source target em map s) i n none) ∙ left.same

  -- the verdict of the type that is next was found
  module _ {n s : ℕ} (left : TypesLeft check source target em map n s) where
    module _ (more : s < n) {v : Verdict} (found : v ≡ type_test check source target em map s) where
      pub type-passes : v ≡ passes → TypesLeft check source target em map n (s + 1)
      type-passes told = record { within = omega arith; same = each_passes (type_test check source target em map) s n more (sym found ∙ told) ∙ left.same }

      pub type-fails : {at : ℕ} → v ≡ fails at → fails at ≡ whole_test check source target em map
      type-fails {at} told = sym (each_fails (type_test check source target em map) s n at more (sym found ∙ told)) ∙ left.same

    -- none is left
    pub types-end : n ≤ s → passes ≡ whole_test check source target em map
    types-end none = sym (each_ends (type_test check source target em map) s n none) ∙ left.same

-- ---- one edge, where all three checks are asked for

module _ (source target em map : List ℕ) (s i : ℕ) {check : EdgeCheck} (asked : check ≡ All) {ends : Bool} (ends_is : ends ≡ edge_test Ends source target em map s i) where
  -- the end is wrong
  pub end_wrong : not ends ≡ true → false ≡ edge_test check source target em map s i
  unfolding edge_right
  end_wrong told = rw (asked, sym ends_is, not-true ends told) refl

  module _ (end-right : not ends ≡ false) {steps : Bool} (steps-is : steps ≡ edge_test Steps source target em map s i) where
    -- the end is right and a step is wrong
    pub step-wrong : not steps ≡ true → false ≡ edge_test check source target em map s i
    unfolding edge_right
    step-wrong told = rw (asked, sym ends_is, not-false ends end-right, sym steps-is, not-true steps told) refl

    -- both are right
    pub clash-decides : not steps ≡ false → {clash : Bool} → clash ≡ clashes_at (table_by target) (kind_of (table_by source) s) (map_of source em map s) i → not clash ≡ edge_test check source target em map s i
    unfolding edge_right
    clash-decides told clashes = rw (asked, sym ends_is, not-false ends end-right, sym steps-is, not-false steps told) (ap not clashes)
