-- What holds of the arrays at every place of a document, and that each command keeps it.
use mathlib.Core.Path.{◌≡◌, refl, ap, ◌∙◌}
use mathlib.Core.List.{List}
use mathlib.Core.Bool.{Bool, true, false}
use Prim.Native.Nat.{ℕ, ◌+◌, ◌-◌, ◌*◌, ◌≤◌, ◌<◌}
use native.Mathlib.Omega.{arith}
use lib.ListN.{length, get_or, set, length-set, get_or-eq_default}
use lib.Seq.{get_or-set_same, get_or-set_other}
use lib.Dec.{eqb, ltb}
use borrow.Author.Tests.{eqb-true, eqb-false, ltb-true, ltb-false}
use Rattle.loaded_table.specs.Loaded.{counts_of, section_long, section_more, zero_everywhere}
use Rattle.table_load.specs.Loading.{TableArrays, loaded_in, CountsCleared, begun, joined, MemberMayJoin}

pub record TableShaped (a : TableArrays) : Type 0 where
  pub kinds_long : length a.kinds ≡ 64
  pub counts_long : length a.counts ≡ 64
  pub members_long : length a.members ≡ 1024
  pub few_types : a.types ≤ 64
  pub few_counts : (t : ℕ) → get_or a.counts t 0 ≤ 16
  pub unused : (t : ℕ) → a.types ≤ t → get_or a.counts t 0 ≡ 0

-- what bounds all entries and a value bounds the entries once the value is written
set_bounded : (xs : List ℕ) (i v most : ℕ) → v ≤ most → ((t : ℕ) → get_or xs t 0 ≤ most) → (t : ℕ) → get_or (set xs i v) t 0 ≤ most
set_bounded xs i v most h all t = go (eqb t i) refl (ltb i (length xs)) refl
  where
    go : (b : Bool) → eqb t i ≡ b → (m : Bool) → ltb i (length xs) ≡ m → get_or (set xs i v) t 0 ≤ most
    go false e m f = rw (get_or-set_other xs i t v 0 (eqb-false t i e)) (all t)
    go true e true f = rw (eqb-true t i e, get_or-set_same xs i v 0 (ltb-true i (length xs) f)) h
    go true e false f = rw (get_or-eq_default (set xs i v) 0 {n = t} (rw (length-set xs i v, eqb-true t i e) (ltb-false i (length xs) f))) (omega arith)

-- with no types and no members, whatever else stands in the array
pub shaped_cleared : (rows : List ℕ) → CountsCleared 64 rows → TableShaped (loaded_in 0 rows)
shaped_cleared rows h =
    let size = h.size in
    let long : length (counts_of rows) ≡ 64 = section_long 64 64 rows (omega arith) in
    let all : (t : ℕ) → get_or (counts_of rows) t 0 ≡ 0 = zero_everywhere (counts_of rows) long h.none in
    record {
      kinds_long = section_long 0 64 rows (omega arith);
      counts_long = long;
      members_long = section_long 256 1024 rows (omega arith);
      few_types = omega arith;
      few_counts = λ t. omega (arith, all t);
      unused = λ t after. all t;
    }

-- one type more without members
pub cleared_more : (rows : List ℕ) (n : ℕ) {after : List ℕ} → n < 64 → after ≡ set rows (64 + n) 0 → CountsCleared n rows → CountsCleared (n + 1) after
cleared_more rows n few e h =
    let size = h.size in
    record { size = ap length e ∙ length-set rows (64 + n) 0 ∙ size; none = section_more (λ t. 0) 64 64 rows n 0 (omega arith) few refl e h.none }

pub shaped-begun : (a : TableArrays) (kind : ℕ) → a.types < 64 → TableShaped a → TableShaped (begun a kind)
unfolding begun
shaped-begun a kind room h =
    record {
      kinds_long = length-set a.kinds a.types kind ∙ h.kinds_long;
      counts_long = h.counts_long;
      members_long = h.members_long;
      few_types = omega arith;
      few_counts = h.few_counts;
      unused = λ t after. h.unused t (omega arith);
    }

pub shaped-joined : (a : TableArrays) (m : ℕ) → MemberMayJoin a → TableShaped a → TableShaped (joined a m)
unfolding joined
shaped-joined a m room h =
    let last = a.types - 1 in
    let count = get_or a.counts last 0 in
    let some = room.some in
    let short : count + 1 ≤ 16 = omega (arith, room.room) in
    record {
      kinds_long = h.kinds_long;
      counts_long = length-set a.counts last (count + 1) ∙ h.counts_long;
      members_long = length-set a.members (last * 16 + count) m ∙ h.members_long;
      few_types = h.few_types;
      few_counts = set_bounded a.counts last (count + 1) 16 short h.few_counts;
      unused = λ t after. get_or-set_other a.counts last t (count + 1) 0 (λ e. absurd (omega arith)) ∙ h.unused t after;
    }
