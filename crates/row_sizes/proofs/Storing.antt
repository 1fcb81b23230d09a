-- One row more is sized, and what was stored of others stays; the loops over rows and types.
use mathlib.Core.Path.{◌≡◌, refl, sym, ap, ◌∙◌, subst}
use mathlib.Core.Bool.{Bool, true, false}
use mathlib.Core.List.{List}
use Prim.Native.Nat.{ℕ, ◌+◌, ◌<◌}
use native.Mathlib.Omega.{arith}
use lib.ListN.{length}
use lib.Dec.{eqb}
use borrow.Author.Tests.{eqb-true, eqb-false}
use Rattle.rows.specs.declared.Size.{Size}
use Rattle.rows.specs.Rows.{from_of, to_of, depth_in, row_in, row_at, set_row, HasRow}
use Rattle.rows.specs.Laws.{three_length, stored_other, stored_here}
use Rattle.row_sizes.specs.Sizing.{Measures, Sized, Keeps, TypeSized}

module _ {target pool places sizes : List ℕ} {n : ℕ} (long : HasRow sizes n)
    {from to depth : ℕ} (is-from : from ≡ from_of places n) (is-to : to ≡ to_of places n) (is-depth : depth ≡ depth_in places n)
    {size : Size} (measures : Measures target (row_in pool from to) depth size)
    {after : List ℕ} (stored : after ≡ set_row sizes n size.levels size.bytes size.filler) where
  pub sized_more : Keeps target pool places sizes after × Sized target pool places after n
  sized_more = (record { long = ap length stored ∙ three_length sizes n size.levels size.bytes size.filler long; kept = λ r sized. go r sized (eqb r n) refl }, here)
    where
      measured : Measures target (row_at pool places n) (depth_in places n) size
      measured = rw (is-from, is-to, is-depth) at measures

      here : Sized target pool places after n
      here = record { at = rw stored (stored_here sizes n size.levels size.bytes size.filler long _ _ _ measured.levels measured.bytes measured.filler) }

      go : (r : ℕ) → Sized target pool places sizes r → (b : Bool) → eqb r n ≡ b → Sized target pool places after r
      go r sized true e = rw (eqb-true r n e) here
      go r sized false e = record { at = rw stored (stored_other sizes n size.levels size.bytes size.filler long r _ _ _ (eqb-false r n e) sized.at) }

-- two steps keep what each keeps, also of all rows of a type
pub keeps_both : {target pool places a b c : List ℕ} → Keeps target pool places a b → Keeps target pool places b c → Keeps target pool places a c
keeps_both p q = record { long = q.long ∙ p.long; kept = λ r sized. q.kept r (p.kept r sized) }

pub type_kept : {source target pool places before after : List ℕ} {s : ℕ} → Keeps target pool places before after → TypeSized source target pool places before s → TypeSized source target pool places after s
type_kept keeps sized = record { own = λ t chosen. keeps.kept _ (sized.own t chosen); item = keeps.kept _ sized.item }

-- what holds below n stays, and holds at n: it holds below n + 1
pub below_more : (P Q : ℕ → Type 0) (n : ℕ) → ((i : ℕ) → i < n → P i) → ((i : ℕ) → P i → Q i) → Q n → (i : ℕ) → i < n + 1 → Q i
below_more P Q n before kept here i low = go (eqb i n) refl
  where
    go : (b : Bool) → eqb i n ≡ b → Q i
    go true e = subst Q (sym (eqb-true i n e)) here
    go false e = kept i (before i (omega (arith, eqb-false i n e)))
