-- Where a step goes from a type of a loaded table.
use mathlib.Core.Path.{◌≡◌, refl, sym, ◌∙◌}
use mathlib.Core.List.{List, [], ◌∷◌}
use mathlib.Core.Option.{none, some}
use Prim.Native.Nat.{ℕ, zero, suc, ◌+◌, ◌-◌, ◌*◌, ◌≤◌, ◌<◌}
use native.Mathlib.Omega.{arith}
use lib.ListN.{length, take, drop, get_or}
use lib.Seq.{get_or-drop}
use Rattle.loaded_table.specs.Loaded.{kind_from, table_by, types_in, kinds_of, counts_of, members_in}
use Rattle.loaded_table.specs.Kinds.{list_codes, row_codes}
use Rattle.embedding_form.proofs.Types.{row_long, kind_told}
use Rattle.model.specs.Definitions.Basics.{entry}
use Rattle.model.specs.Definitions.Table.{kind_of, step_from, members_of}

-- ---- members

-- an entry among the first n of a list
entry_within : (xs : List ℕ) (n q : ℕ) → q < n → n ≤ length xs → some (get_or xs q 0) ≡ entry (suc q) (take n xs)
unfolding entry
entry_within [] n q h few = absurd (omega arith)
entry_within (x ∷ xs) zero q h few = absurd (omega arith)
entry_within (x ∷ xs) (suc n) zero h few = refl
entry_within (x ∷ xs) (suc n) (suc q) h few = entry_within xs n q (omega arith) (omega arith)

-- and one past them
entry_past : (xs : List ℕ) (n q : ℕ) → n ≤ q → none ≡ entry (suc q) (take n xs)
unfolding entry
entry_past [] zero q h = refl
entry_past [] (suc n) q h = refl
entry_past (x ∷ xs) zero q h = refl
entry_past (x ∷ xs) (suc n) zero h = absurd (omega arith)
entry_past (x ∷ xs) (suc n) (suc q) h = entry_past xs n q (omega arith)

-- an empty list has none
entry_none : (p : ℕ) → none ≡ entry {A = ℕ} p []
unfolding entry
entry_none zero = refl
entry_none (suc p) = refl

-- member p of type t, counted from 1
pub member_there_lem : (members : List ℕ) (t n p : ℕ) → length members ≡ 1024 → t < 64 → n ≤ 16 → (p ≡ 0 → ⊥) → p ≤ n
    → some (get_or members (t * 16 + (p - 1)) 0) ≡ entry p (take n (drop (t * 16) members))
member_there_lem members t n zero long h few some_step within = absurd (some_step refl)
member_there_lem members t n (suc q) long h few some_step within =
    let room : 16 ≤ length (drop (t * 16) members) = row_long members t long h in
    let one_less : suc q - 1 ≡ q = omega arith in
    rw (one_less, sym (get_or-drop (t * 16) members q 0)) (entry_within (drop (t * 16) members) n q (omega arith) (omega arith))

-- there is no member 0, and none past the count
pub member_none : (p : ℕ) (ms : List ℕ) → p ≡ 0 → none ≡ entry p ms
unfolding entry
member_none p ms e = rw e

pub member_past : (row : List ℕ) (n p : ℕ) → n < p → none ≡ entry p (take n row)
member_past row n zero h = absurd (omega arith)
member_past row n (suc q) h = entry_past row n q (omega arith)

-- ---- kinds

-- a list of one entry has an entry 1, and no other
only_first : (m p : ℕ) → p ≡ 1 → some m ≡ entry p (m ∷ [])
unfolding entry
only_first m p e = rw e

only_none : (m p : ℕ) → (p ≡ 1 → ⊥) → none ≡ entry p (m ∷ [])
unfolding entry
only_none m zero h = refl
only_none m (suc zero) h = absurd (h refl)
only_none m (suc (suc p)) h = refl

-- a text and an empty type have no steps
no_step : (code count : ℕ) (row : List ℕ) (p : ℕ) → code < 2 → none ≡ step_from (kind_from code count row) p
unfolding step_from members_of
no_step zero count row p low = entry_none p
no_step (suc zero) count row p low = entry_none p
no_step (suc (suc code)) count row p low = absurd (omega arith)

-- a type of a loaded table, whose kind has this code
module _ (rows : List ℕ) (t : ℕ) (here : t < types_in rows) {code : ℕ} (told : code ≡ get_or (kinds_of rows) t 0) where
  -- where a step goes from each kind
  pub nowhere : (p : ℕ) → code < 2 → none ≡ step_from (kind_of (table_by rows) t) p
  nowhere p low = rw (sym (kind_told rows t here told)) (no_step code (get_or (counts_of rows) t 0) (drop (t * 16) (members_in rows)) p low)

  pub row_to : (p : ℕ) → 2 ≤ code → code < 5 → entry p (take (get_or (counts_of rows) t 0) (drop (t * 16) (members_in rows))) ≡ step_from (kind_of (table_by rows) t) p
  unfolding step_from members_of
  row_to p low high =
      rw (sym (kind_told rows t here told))
      (row_codes (λ (k : ℕ). entry p (take (get_or (counts_of rows) t 0) (drop (t * 16) (members_in rows))) ≡ step_from (kind_from k (get_or (counts_of rows) t 0) (drop (t * 16) (members_in rows))) p) refl refl refl code low high)

  module _ (high : 5 ≤ code) (p : ℕ) where
    to-only : entry p (get_or (drop (t * 16) (members_in rows)) 0 0 ∷ []) ≡ step_from (kind_of (table_by rows) t) p
    unfolding step_from members_of
    to-only =
        rw (sym (kind_told rows t here told))
        (list_codes (λ (k : ℕ). entry p (get_or (drop (t * 16) (members_in rows)) 0 0 ∷ []) ≡ step_from (kind_from k (get_or (counts_of rows) t 0) (drop (t * 16) (members_in rows))) p) (λ k. refl) code high)

    pub list-to : {m : ℕ} → m ≡ get_or (members_in rows) (t * 16 + 0) 0 → p ≡ 1 → some m ≡ step_from (kind_of (table_by rows) t) p
    list-to {m} is e =
        let first : get_or (drop (t * 16) (members_in rows)) 0 0 ≡ m = get_or-drop (t * 16) (members_in rows) 0 0 ∙ sym is in
        only_first m p e ∙ rw (sym first) to-only

    pub list-nowhere : (p ≡ 1 → ⊥) → none ≡ step_from (kind_of (table_by rows) t) p
    list-nowhere h = only_none (get_or (drop (t * 16) (members_in rows)) 0 0) p h ∙ to-only
