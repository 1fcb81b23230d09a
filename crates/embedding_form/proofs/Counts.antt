-- The edges of a table's types, added up from the first type on.
use mathlib.Core.Path.{◌≡◌, sym, ◌∙◌}
use mathlib.Core.List.{[], ◌∷◌}
use Prim.Native.Nat.{ℕ, suc, ◌+◌, ◌≤◌, ◌<◌}
use native.Mathlib.Nat.{add-zero, add_assoc}
use native.Mathlib.Numerals.{add-one}
use lib.ListN.{length, drop, drop_of_length-le}
use lib.Seq.{drop-cons}
use Rattle.model.specs.Definitions.Entries.{edge_count}
use Rattle.model.specs.Definitions.Table.{Table, empty, kind_of, edges_of}

module _ (S : Table) (t sum whole : ℕ) where
  -- type t counted too
  pub count_on : (r : ℕ) → t < length S → r ≡ edges_of (kind_of S t) → sum + edge_count (drop t S) ≡ whole → sum + r + edge_count (drop (t + 1) S) ≡ whole
  unfolding edge_count kind_of
  count_on r h same so_far =
      let next : drop t S ≡ kind_of S t ∷ drop (suc t) S = drop-cons S t empty h in
      rw (same, add-one t, add_assoc sum (edges_of (kind_of S t)) (edge_count (drop (suc t) S))) (rw next at so_far)

  -- all types counted
  pub count_end : length S ≤ t → sum + edge_count (drop t S) ≡ whole → sum ≡ whole
  unfolding edge_count
  count_end h so_far =
      let none_left : drop t S ≡ [] = drop_of_length-le S h in
      sym (add-zero sum) ∙ (rw none_left at so_far)
