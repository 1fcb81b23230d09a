-- `source_row` meets its contract: by the code of the kind.
use mathlib.Core.Path.{◌≡◌, sym, ap, ◌∙◌}
use mathlib.Core.Bool.{true, false}
use mathlib.Core.List.{List}
use mathlib.Core.Option.{Option}
use Prim.Native.Nat.{ℕ, ◌+◌, ◌*◌, ◌≤◌, ◌<◌}
use native.Mathlib.Omega.{arith}
use lib.ListN.{take, drop, get_or}
use Rattle.loaded_table.specs.Loaded.{table_by, types_in, kinds_of, counts_of, members_in, kind_of_lem}
use Rattle.loaded_table.specs.Kinds.{choice_code}
use Rattle.rows.specs.Rows.{member_index, first_from, row_index, source_row, item_row}
use Rattle.rows.specs.Laws.{row_of_choice, row_of_other}
use Rattle.rows.proofs.source_row.Goals as goal

-- the row of a choice of either kind, and of any other type
choice-row : (source : List ℕ) (s : ℕ) (t : Option ℕ) (i : ℕ) → s < types_in source → choice_code (get_or (kinds_of source) s 0) ≡ true
    → i ≡ member_index t (take (get_or (counts_of source) s 0) (drop (s * 16) (members_in source))) → i ≤ 16
    → (64 + s * 17 + i ≡ source_row (table_by source) s t) × (64 + s * 17 + i ≤ item_row s)
unfolding source_row item_row
choice-row source s t i less is_choice_lem e few =
    let row = ap (λ κ. row_index κ t) (kind_of_lem source s less) ∙ row_of_choice t (get_or (kinds_of source) s 0) (get_or (counts_of source) s 0) (drop (s * 16) (members_in source)) is_choice_lem in
    (omega (arith, row, e), omega (arith, few))

other_row : (source : List ℕ) (s : ℕ) (t : Option ℕ) → s < types_in source → choice_code (get_or (kinds_of source) s 0) ≡ false
    → (64 + s * 17 ≡ source_row (table_by source) s t) × (64 + s * 17 ≤ item_row s)
unfolding source_row item_row
other_row source s t less is-other =
    let row = ap (λ κ. row_index κ t) (kind_of_lem source s less) ∙ row_of_other t (get_or (kinds_of source) s 0) (get_or (counts_of source) s 0) (drop (s * 16) (members_in source)) is-other in
    (omega (arith, row), omega arith)

pub returns-then-is_choice : goal.returns-then-is_choice
returns-then-is_choice c =
    let is_choice_lem = sym (ap choice_code c.kind.ensures.0) ∙ sym c.is_choice.ensures ∙ c.if-is_choice.true in
    let count = c.count-count.ensures.0 in
    let place = c.choice_index.ensures.0 ∙ ap (λ (n : ℕ). member_index (first_from c.args.t) (take n (drop (c.args.s * 16) (members_in c.args.source.now)))) count in
    choice-row c.args.source.now c.args.s (first_from c.args.t) c.choice_index.result c.requires.s_bound is_choice_lem place c.choice_index.ensures.1

pub returns : goal.returns
returns c =
    let is-other = sym (ap choice_code c.kind.ensures.0) ∙ sym c.is_choice.ensures ∙ c.if-is_choice.false in
    other_row c.args.source.now c.args.s (first_from c.args.t) c.requires.s_bound is-other
