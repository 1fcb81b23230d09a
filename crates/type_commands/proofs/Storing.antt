-- The places of a type while its members are stored in them, one after the other.
use mathlib.Core.Path.{◌≡◌, refl, ap, ◌∙◌}
use mathlib.Core.Bool.{Bool, true, false}
use mathlib.Core.List.{List}
use mathlib.Core.Logic.{⊎_elim}
use Prim.Native.Nat.{ℕ, ◌+◌, ◌*◌, ◌/◌, ◌≤◌, ◌<◌}
use native.Mathlib.Omega.{arith}
use lib.ListN.{length, get_or, set}
use lib.Seq.{get_or-set_same, get_or-set_other}
use lib.Dec.{eqb}
use borrow.Author.Tests.{eqb-true, eqb-false}
use Rattle.model.specs.Definitions.Table.{Kind, members_of}
use Rattle.loaded_table.specs.Loaded.{in_section}
use Rattle.loaded_table.specs.Kinds.{code_of}
use Rattle.loaded_table.specs.Places.{SameButFor, same_all, same_set, kind_stored, kind_again}
use Rattle.type_commands.specs.Types.{code_begun, OperandsPut, TypePut}
use Rattle.type_commands.proofs.Reading.{Told}

-- the first n members are stored
pub record Stored (t n : ℕ) (ms rows after : List ℕ) : Type 0 where
  pub same : SameButFor t rows after
  pub kind_kept : get_or after t 0 ≡ get_or rows t 0
  pub each : (i : ℕ) → i < n → get_or after (256 + (t * 16 + i)) 0 ≡ get_or ms i 0

pub none_stored : (t : ℕ) (ms rows : List ℕ) → Stored t 0 ms rows rows
none_stored t ms rows = record { same = same_all t rows; kind_kept = refl; each = λ i low. absurd (omega arith) }

-- one more
pub one_stored : {t n v : ℕ} {ms rows mid after : List ℕ} → length rows ≡ 1281 → t < 64 → n < 16 → v ≡ get_or ms n 0 → after ≡ set mid (256 + (t * 16 + n)) v
    → Stored t n ms rows mid → Stored t (n + 1) ms rows after
one_stored {t} {n} {v} {ms} {rows} {mid} {after} size few low is e h = record {
  same = same_set (256 + (t * 16 + n)) v (λ j kind count row same. ⊎_elim (λ h. omega arith) (λ h. omega arith) row) e h.same;
  kind_kept = rw e (get_or-set_other mid (256 + (t * 16 + n)) t v 0 (λ same. omega arith) ∙ h.kind_kept);
  each = λ i below. rw e (go i below (eqb i n) refl);
}
  where
    go : (i : ℕ) → i < n + 1 → (b : Bool) → eqb i n ≡ b → get_or (set mid (256 + (t * 16 + n)) v) (256 + (t * 16 + i)) 0 ≡ get_or ms i 0
    go i below true q = rw (eqb-true i n q) (get_or-set_same mid (256 + (t * 16 + n)) v 0 (omega (arith, h.same.same_size)) ∙ is)
    go i below false q =
        let other = eqb-false i n q in
        get_or-set_other mid (256 + (t * 16 + n)) (256 + (t * 16 + i)) v 0 (λ same. other (omega arith)) ∙ h.each i (omega (arith, other))

-- all, and their number
pub all_stored : {t i n : ℕ} {ms rows mid after : List ℕ} → length rows ≡ 1281 → t < 64 → n ≡ length ms → n ≤ i → after ≡ set mid (64 + t) n
    → Stored t i ms rows mid → OperandsPut t ms rows after
all_stored {t} {i} {n} {ms} {rows} {mid} {after} size few is all e h = record {
  same = same_set (64 + t) n (λ j kind count row same. count same) e h.same;
  kind_kept = rw e (get_or-set_other mid (64 + t) t n 0 (λ same. omega arith) ∙ h.kind_kept);
  many = rw e (get_or-set_same mid (64 + t) n 0 (omega (arith, h.same.same_size)) ∙ is);
  each = λ i low. rw e (get_or-set_other mid (64 + t) (256 + (t * 16 + i)) n 0 (λ same. omega arith) ∙ h.each i (omega arith));
}

-- stores behind each other
same_then : {t : ℕ} {rows mid after : List ℕ} → SameButFor t rows mid → SameButFor t mid after → SameButFor t rows after
same_then h k = record {
  same_size = k.same_size ∙ h.same_size;
  same_at = λ i kind count row. k.same_at i kind count row ∙ h.same_at i kind count row;
}

-- behind the kind: the type that bytes tell of is stored
pub type_put : {t code : ℕ} {cs rows mid after : List ℕ} (κ : Kind) → length rows ≡ 1281 → t < 64 → Told cs (code_of κ) (members_of κ) → length cs / 2 ≤ 16
    → code ≡ code_begun (get_or cs 0 0) → mid ≡ set rows t code → OperandsPut t (members_of κ) mid after → TypePut t κ rows after
type_put {t} {code} {rows = rows} {after = after} κ size few told short is e h =
    let same : SameButFor t rows after = same_then (same_set t code (λ j kind count row. kind) e (same_all t rows)) h.same in
    let kind : get_or after t 0 ≡ code_of κ = h.kind_kept ∙ ap (λ (l : List ℕ). get_or l t 0) e ∙ get_or-set_same rows t code 0 (omega arith) ∙ is ∙ told.begun in
    record {
      same = same;
      stored = kind_stored after t (code_of κ) (members_of κ) (same.same_size ∙ size) few (omega (arith, told.many)) kind h.many h.each told.item ∙ kind_again κ;
      few = omega (arith, in_section 64 64 after t few, h.many, told.many);
    }
