-- A step into content, by the code of a kind.
use mathlib.Core.Path.{◌≡◌, refl}
use mathlib.Core.List.{List}
use mathlib.Core.Option.{none}
use Prim.Native.Nat.{ℕ, zero, suc, ◌+◌, ◌≤◌, ◌<◌}
use native.Mathlib.Omega.{arith}
use native.Mathlib.Nat.{add-zero}
use Rattle.model.specs.Definitions.Content.{Content, end, char, elem}
use Rattle.model.specs.Definitions.Inverse.{child_at, child_of_type, first_item, located, bytes_before, bytes_aside, enter, found_at, enter_at}
use Rattle.loaded_table.specs.Loaded.{kind_from}
use Rattle.loaded_table.specs.Kinds.{choice_from, choice_between}
use Rattle.loaded_table.specs.Kinds.{list_code}

-- a text or an empty element leads nowhere
pub enter_nothing : (code p τ at : ℕ) (k : Content) (count : ℕ) (row : List ℕ) → code < 2 → enter_at (kind_from code count row) p τ (located at k) ≡ none
unfolding enter_at enter found_at
enter_nothing zero p τ at k count row low = refl
enter_nothing (suc zero) p τ at k count row low = refl
enter_nothing (suc (suc code)) p τ at k count row low = absurd (omega arith)

-- a list's first item is its first child, and nothing stands before it
first_found_lem : (at : ℕ) (k : Content) → found_at (at + 2) (first_item k) ≡ found_at (at + bytes_before k 1 + 2) (child_at k 1)
unfolding found_at first_item child_at bytes_before
first_found_lem at end = refl
first_found_lem at (char c r) = refl
first_found_lem at (elem t k r) = rw (add-zero at)

module _ (code p τ at : ℕ) (k : Content) (count : ℕ) (row : List ℕ) where
  pub enter_sequence : code ≡ 2 → enter_at (kind_from code count row) p τ (located at k) ≡ found_at (at + bytes_before k p + 2) (child_at k p)
  unfolding enter_at enter bytes_aside
  enter_sequence e = rw e

  pub enter_choice : 3 ≤ code → code < 5 → enter_at (kind_from code count row) p τ (located at k) ≡ found_at (at + 2) (child_of_type k τ)
  unfolding enter_at enter bytes_aside
  enter_choice low high = rw (choice_from code count row (choice_between code low high), add-zero at)

  pub enter_list : 5 ≤ code → enter_at (kind_from code count row) p τ (located at k) ≡ found_at (at + bytes_before k 1 + 2) (child_at k 1)
  unfolding enter_at enter bytes_aside
  enter_list high = rw (list_code code count row high, add-zero at) (first_found_lem at k)
