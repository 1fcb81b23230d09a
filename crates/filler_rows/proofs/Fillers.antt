-- The loop of `filler_rows`: one row of filler more.
use mathlib.Core.Path.{◌≡◌, refl}
use mathlib.Core.Bool.{Bool, true, false}
use mathlib.Core.List.{List}
use Prim.Native.Nat.{ℕ, ◌+◌, ◌≤◌, ◌<◌}
use native.Mathlib.Omega.{arith}
use lib.ListN.{length}
use lib.Dec.{eqb}
use borrow.Author.Tests.{eqb-true, eqb-false}
use Rattle.model.specs.Definitions.Templates.{filler_row}
use Rattle.loaded_table.specs.Loaded.{table_by}
use Rattle.rows.specs.Rows.{to_of}
use Rattle.filler_rows.specs.Storing.{Stored, RowMade, FillersStored}
use Rattle.filler_rows.specs.Laws.{stored_made, stored_still, whole_more}

pub fillers_none : (target pool places : List ℕ) → ((r : ℕ) → to_of places r ≤ length pool) → FillersStored target pool places 0 pool places 0
fillers_none target pool places within =
    record {
      whole = record { pool_length = refl; places_length = refl; fits = omega arith; within = within };
      few = omega arith;
      stored = λ t less. absurd (omega arith);
    }

pub fillers_more : {target pool₀ places₀ : List ℕ} {many : ℕ} {pool places : List ℕ} {at : ℕ} → FillersStored target pool₀ places₀ many pool places at
    → {pool' places' : List ℕ} {end : ℕ} → RowMade pool places at many (filler_row (table_by target) many) 0 pool' places' end → end ≤ at + 16 → end ≤ length pool₀
    → FillersStored target pool₀ places₀ (many + 1) pool' places' end
fillers_more {target} {pool₀} {places₀} {many} {pool} {places} {at} now {pool'} {places'} {end} made short fits =
    record { whole = whole_more made now.whole fits; few = omega (arith, now.few); stored = λ t less. go t less (eqb t many) refl }
  where
    go : (t : ℕ) → t < many + 1 → (b : Bool) → eqb t many ≡ b → Stored pool' places' end t (filler_row (table_by target) t) 0
    go t less true e = rw (eqb-true t many e) (stored_made made)
    go t less false e = stored_still made (eqb-false t many e) (now.stored t (omega (arith, eqb-false t many e)))
