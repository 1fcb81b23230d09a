-- `rows_of` meets its contract: by the code of the kind.
use mathlib.Core.Path.{◌≡◌, refl, sym, ap, ◌∙◌}
use mathlib.Core.List.{List}
use mathlib.Core.Option.{Option}
use Prim.Native.Nat.{ℕ, ◌+◌, ◌≤◌, ◌<◌}
use native.Mathlib.Omega.{arith}
use lib.ListN.{get_or}
use Rattle.model.specs.Definitions.Table.{kind_of}
use Rattle.loaded_table.specs.Kinds.{other_codes, other_code}
use Rattle.loaded_table.specs.Loaded.{Bounded, table_by, types_in, kinds_of, counts_of}
use Rattle.rows.specs.Rows.{row_index, FirstChild}
use Rattle.row_sizes.specs.Sizes.{row_count, row_count_small, source_index_below}
use Rattle.row_sizes.proofs.rows_of.Goals as goal

-- the number of rows is what was asked for
all-rows : {source : List ℕ} → Bounded source → (s : ℕ) → s < types_in source → {r : ℕ} → r ≡ row_count (get_or (kinds_of source) s 0) (get_or (counts_of source) s 0)
    → (r ≤ 17) × ((t : Option ℕ) → FirstChild t (kind_of (table_by source) s) → row_index (kind_of (table_by source) s) t < r)
all-rows {source} bounded s exists e =
    (omega (arith, e, row_count_small (get_or (kinds_of source) s 0) (get_or (counts_of source) s 0) (bounded.few_members s)), λ t chosen. omega (arith, e, source_index_below source s t exists chosen))

-- a type that is no choice has one row
one-row : (code count : ℕ) → (code ≡ 3 → ⊥) → (code ≡ 4 → ⊥) → 1 ≡ row_count code count
one-row code count a b = other_codes (λ (k : ℕ). 1 ≡ row_count k count) refl refl refl (λ k. refl) code (other_code code a b)

pub returns-in-3 : goal.returns-in-3
returns-in-3 c =
    all-rows c.requires.bounded c.args.s c.requires.s_bound
    (c.count.ensures.0 ∙ ap (λ (k : ℕ). row_count k (get_or (counts_of c.args.source.now) c.args.s 0)) (sym c.in-3.is ∙ c.kind-kind.ensures.0))

pub returns-in-4 : goal.returns-in-4
returns-in-4 c =
    all-rows c.requires.bounded c.args.s c.requires.s_bound
    (ap (λ (n : ℕ). n + 1) c.count-in-4.ensures.0 ∙ ap (λ (k : ℕ). row_count k (get_or (counts_of c.args.source.now) c.args.s 0)) (sym c.in-4.is ∙ c.kind-kind.ensures.0))

pub returns-in_default : goal.returns-in_default
returns-in_default c =
    all-rows c.requires.bounded c.args.s c.requires.s_bound
    (one-row _ (get_or (counts_of c.args.source.now) c.args.s 0) c.in_default.in_default-own.rest.0.1 c.in_default.in_default-own.rest.1 ∙ ap (λ (k : ℕ). row_count k (get_or (counts_of c.args.source.now) c.args.s 0)) c.kind-kind.ensures.0)
