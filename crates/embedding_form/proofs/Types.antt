-- What a loaded table says of one type: its kind, and the number of its edges.
use mathlib.Core.Path.{◌≡◌, refl, sym, ◌∙◌}
use mathlib.Core.List.{List}
use Prim.Native.Nat.{ℕ, ◌*◌, ◌≤◌, ◌<◌}
use native.Mathlib.Omega.{arith}
use lib.ListN.{length, take, drop, get_or, length-drop}
use lib.Seq.{length-take-le}
use Rattle.loaded_table.specs.Kinds.{list_codes, row_codes}
use Rattle.loaded_table.specs.Loaded.{kind_from, table_by, types_in, kinds_of, counts_of, members_in, kind_of_lem, Bounded}
use Rattle.model.specs.Definitions.Table.{kind_of, edges_of}

-- ---- members

-- the row of a type has room for 16 members
pub row_long : (members : List ℕ) (t : ℕ) → length members ≡ 1024 → t < 64 → 16 ≤ length (drop (t * 16) members)
row_long members t long h = rw (length-drop (t * 16) members, long) (omega arith)

-- so the members that are counted are there
members_counted : (members : List ℕ) (t n : ℕ) → length members ≡ 1024 → t < 64 → n ≤ 16 → n ≡ length (take n (drop (t * 16) members))
members_counted members t n long h few =
    let room : 16 ≤ length (drop (t * 16) members) = row_long members t long h in
    let enough : n ≤ length (drop (t * 16) members) = omega arith in
    sym (length-take-le n (drop (t * 16) members) enough)

-- ---- kinds

-- the section of members is whole
pub members_whole : (rows : List ℕ) → Bounded rows → length (members_in rows) ≡ 1024
members_whole rows b = length-take-le 1024 (drop 256 rows) (rw (length-drop 256 rows, b.size) (omega arith))

-- a type of a loaded table, whose kind has this code
module _ (rows : List ℕ) (t : ℕ) (here : t < types_in rows) {code : ℕ} (told : code ≡ get_or (kinds_of rows) t 0) where
  -- its kind is the one that the sections tell
  pub kind_told : kind_from code (get_or (counts_of rows) t 0) (drop (t * 16) (members_in rows)) ≡ kind_of (table_by rows) t
  kind_told = rw told (sym (kind_of_lem rows t here))

  -- the edges of each kind but those with members
  pub text_edge : code ≡ 0 → 1 ≡ edges_of (kind_of (table_by rows) t)
  unfolding edges_of
  text_edge e = rw (sym kind_told, e)

  pub empty_edge : code ≡ 1 → 0 ≡ edges_of (kind_of (table_by rows) t)
  unfolding edges_of
  empty_edge e = rw (sym kind_told, e)

  pub list_edge : 5 ≤ code → 1 ≡ edges_of (kind_of (table_by rows) t)
  unfolding edges_of
  list_edge high = rw (sym kind_told) (list_codes (λ (k : ℕ). 1 ≡ edges_of (kind_from k (get_or (counts_of rows) t 0) (drop (t * 16) (members_in rows)))) (λ k. refl) code high)

  module _ (bounded : Bounded rows) {n : ℕ} (counted : n ≡ get_or (counts_of rows) t 0) where
    -- a sequence and a choice of either kind have an edge for each member counted
    all_counted : n ≡ length (take (get_or (counts_of rows) t 0) (drop (t * 16) (members_in rows)))
    all_counted = counted ∙ members_counted (members_in rows) t (get_or (counts_of rows) t 0) (members_whole rows bounded) (omega (arith, here, bounded.few_types)) (bounded.few_members t)

    pub row-edges : 2 ≤ code → code < 5 → n ≡ edges_of (kind_of (table_by rows) t)
    unfolding edges_of
    row-edges low high = rw (sym kind_told) (row_codes (λ (k : ℕ). n ≡ edges_of (kind_from k (get_or (counts_of rows) t 0) (drop (t * 16) (members_in rows)))) all_counted all_counted all_counted code low high)
