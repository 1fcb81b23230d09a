-- `edge_of` meets its contract: for a sequence the edge's number is the child's, for other kinds that of its row.
use mathlib.Core.Path.{◌≡◌, sym, ap, ◌∙◌}
use mathlib.Core.List.{List}
use mathlib.Core.Option.{Option, some}
use Prim.Native.Nat.{ℕ, ◌+◌, ◌-◌, ◌*◌, ◌≤◌, ◌<◌}
use native.Mathlib.Omega.{arith}
use lib.ListN.{drop, get_or}
use Rattle.model.specs.Definitions.Table.{Kind, kind_of}
use Rattle.loaded_table.specs.Loaded.{table_by, types_in, kinds_of, counts_of, members_in, kind_of_lem}
use Rattle.rows.specs.Rows.{row_index, source_row}
use Rattle.measuring.specs.Measured.{edge_number}
use Rattle.measuring.proofs.Edges.{number_of_sequence, number_of_other}
use Rattle.measuring.proofs.edge_of.Goals as goal

module _ (source : List ℕ) (s code i t : ℕ) (exists : s < types_in source) (is_code : code ≡ get_or (kinds_of source) s 0) where
  -- a sequence
  sequence-edge : code ≡ 2 → i ≡ edge_number (kind_of (table_by source) s) i t
  sequence-edge same =
      sym
      (ap (λ (κ : Kind). edge_number κ i t) (kind_of_lem source s exists)
      ∙ number_of_sequence (get_or (kinds_of source) s 0) (get_or (counts_of source) s 0) (drop (s * 16) (members_in source)) i t (sym is_code ∙ same))

  -- another kind: the child is there
  other_edge : (code ≡ 2 → ⊥) → (row : ℕ) → row ≡ source_row (table_by source) s (some t) → row - (64 + s * 17) ≡ edge_number (kind_of (table_by source) s) i t
  unfolding source_row
  other_edge other row is_row =
      let number =
      ap (λ (κ : Kind). edge_number κ i t) (kind_of_lem source s exists)
      ∙ number_of_other (get_or (kinds_of source) s 0) (get_or (counts_of source) s 0) (drop (s * 16) (members_in source)) i t (λ e. other (is_code ∙ e))
      ∙ ap (λ (κ : Kind). row_index κ (some t)) (sym (kind_of_lem source s exists)) in
      omega (arith, is_row, number)

-- a row of type s comes after the rows of the types before it
row-after : (source : List ℕ) (s : ℕ) (t : Option ℕ) (row : ℕ) → row ≡ source_row (table_by source) s t → 64 + s * 17 ≤ row
unfolding source_row
row-after source s t row is_row = omega (arith, is_row)

pub returns-then-kind-eq-SEQUENCE : goal.returns-then-kind-eq-SEQUENCE
returns-then-kind-eq-SEQUENCE c =
    sequence-edge c.args.source.now c.args.s c.kind.result c.args.i c.args.t c.requires.s_bound c.kind.ensures.0 c.if-kind-eq-SEQUENCE.true

pub overflow_sub-result : goal.overflow_sub-result
overflow_sub-result c =
    row-after c.args.source.now c.args.s (some c.args.t) c.source_row.result c.source_row.ensures.0

pub returns : goal.returns
returns c =
    other_edge c.args.source.now c.args.s c.kind.result c.args.i c.args.t c.requires.s_bound c.kind.ensures.0 c.if-kind-eq-SEQUENCE.false c.source_row.result c.source_row.ensures.0
