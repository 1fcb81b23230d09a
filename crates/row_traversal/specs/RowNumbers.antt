-- The numbers of rows: which row an element takes, and the order of calls.
use Rattle.std.specs.Prelude.{◌≡◌, refl, Bool, true, List, ℕ, ◌+◌, ◌-◌, ◌*◌, ◌≤◌, ◌<◌, ◌%◌, length, drop, get_or, eqb}
use Rattle.std.proofs.Common.{sym, ◌∙◌, mod-eq_of_lt, length-take}
use Rattle.std.proofs.Math.Path.{ap}
use Rattle.std.proofs.Math.Bool.{false}
use Rattle.std.proofs.Math.Option.{Option}
use Rattle.std.proofs.Math.Nat.{mul-add-mod_self_right}
use native.Mathlib.Omega.{arith}
use Rattle.model.specs.Definitions.Basics.{pick}
use Rattle.model.specs.Definitions.Commands.{Need}
use Rattle.model.specs.Definitions.Table.{Kind, text, empty, sequence, choice, list, Table, kind_of}
use Rattle.loaded_table.specs.Loaded as loaded_table
use Rattle.loaded_table.specs.Loaded.{table_by, kinds_of, counts_of, members_in, kind_from, kind_of_lem, length_of_lem}
use Rattle.loaded_table.specs.Kinds.{code_choice}
use Rattle.rows.specs.Rows.{member_index, row_index, source_row, item_row, FirstChild, of_choice, of_nothing}

-- a choice has at most 16 members
few_members : (code count : ℕ) (row : List ℕ) {need : Need} {ms : List ℕ} → kind_from code count row ≡ choice need ms → count ≤ 16 → length ms ≤ 16
few_members code count row e few = omega (arith, ap length (code_choice code count row e).2, length-take count row)

-- the row of a choice is that of a member, or the one behind them
choice_index : {t : Option ℕ} {need : Need} {ms : List ℕ} → FirstChild t (choice need ms) → member_index t ms ≤ length ms
unfolding member_index
choice_index (of_choice less) = omega arith
choice_index of_nothing = omega arith

-- so a row of an element is one of the 17 of its type
pub index_small : (source : List ℕ) → loaded_table.Bounded source → (s : ℕ) (t : Option ℕ) → s < length (table_by source) → (κ : Kind) → kind_of (table_by source) s ≡ κ → FirstChild t κ → row_index κ t ≤ 16
unfolding row_index
index_small source bounded s t exists text e first = omega arith
index_small source bounded s t exists empty e first = omega arith
index_small source bounded s t exists (sequence ms) e first = omega arith
index_small source bounded s t exists (choice need ms) e first =
    omega (arith, choice_index first, few_members (get_or (kinds_of source) s 0) (get_or (counts_of source) s 0) (drop (s * 16) (members_in source)) (sym (kind_of_lem source s (omega (arith, exists, length_of_lem source))) ∙ e) (bounded.few_members s))
index_small source bounded s t exists (list m) e first = omega arith

-- the order of calls in which a document does not become shorter: the row of a list, its items, an item's row, a child; the row of an
-- optional choice of 16 members that holds nothing is numbered like an item's, and has no items
unfoldable pub rank : ℕ → ℕ
rank r = pick (eqb ((r - 64) % 17) 16) 1 3

-- it is 1 or 3
pub rank_bounds : (r : ℕ) → (1 ≤ rank r) × (rank r ≤ 3)
unfolding rank
rank_bounds r = go (eqb ((r - 64) % 17) 16)
  where
    go : (b : Bool) → (1 ≤ pick b 1 3) × (pick b 1 3 ≤ 3)
    go true = unfold pick in (omega arith, omega arith)
    go false = unfold pick in (omega arith, omega arith)

-- the place of a row among the rows of its type
remainder : (r s i : ℕ) → r ≡ 64 + (s * 17 + i) → i < 17 → (r - 64) % 17 ≡ i
remainder r s i e less =
    let same : r - 64 ≡ s * 17 + i = omega arith in
    rw same (mul-add-mod_self_right s 17 i ∙ mod-eq_of_lt less)

-- it is 1 for an item's row
pub item_rank : (s r : ℕ) → r ≡ item_row s → rank r ≡ 1
unfolding rank item_row
item_rank s r e = rw (remainder r s 16 e (omega arith)) (unfold pick in refl)

-- and 3 for the row of a list
pub list_rank : (S : Table) (s : ℕ) (t : Option ℕ) (m r : ℕ) → kind_of S s ≡ list m → r ≡ source_row S s t → rank r ≡ 3
unfolding rank source_row
list_rank S s t m r is_list_lem e =
    let none_before : row_index (kind_of S s) t ≡ 0 = rw is_list_lem (unfold row_index in refl) in
    let first : (r - 64) % 17 ≡ 0 = remainder r s 0 (e ∙ ap (λ (i : ℕ). 64 + (s * 17 + i)) none_before) (omega arith) in
    rw first (unfold pick in refl)
