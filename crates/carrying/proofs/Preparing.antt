-- What was prepared can be carried by.
use mathlib.Core.Path.{◌≡◌}
use mathlib.Core.List.{List}
use Prim.Native.Nat.{ℕ, ◌≤◌}
use native.Mathlib.Omega.{arith}
use Rattle.std.specs.Prelude.{Result}
use lib.ListN.{length, replicate, length-replicate}
use Rattle.answers.specs.declared.Refusal.{Refusal}
use Rattle.answers.specs.declared.Written.{Written}
use Rattle.loaded_table.specs.Loaded.{types_in, length_of_lem}
use Rattle.loaded_setting.specs.Ready.{setting_in}
use Rattle.rows.specs.Rows.{Sizes, HasRows}
use Rattle.carry_prepared.specs.Carrying.{Carriable, Carries}
use Rattle.carrying.specs.Sizing.{Sizable}
use Rattle.model.specs.Definitions.Image.{Setting}

module _ {source target map pool places tr : List ℕ} (g : Sizable source target map pool places tr) where
  -- places that hold rows are long enough, and so are as many sizes
  pub places_long : HasRows places (types_in source)
  places_long = omega (arith, g.rows.long, length_of_lem source)

  pub sizes_long : (n : ℕ) → length places ≤ n → HasRows (replicate n 0) (types_in source)
  sizes_long n few = omega (arith, places_long, few, length-replicate {A = ℕ} n 0)

  -- with their sizes the document can be carried by them
  abbrev pub carriable : {sizes : List ℕ} → Sizes (setting_in source target map g.em) sizes → Carriable source map pool places sizes tr
  carriable sized = record { target = target; em = g.em; ready = g.ready; rows = g.rows; sized = sized; tree = g.tree }

-- what was done with the output that was lent
pub carries_there : (X : Setting) (tr : List ℕ) {old new shown left : List ℕ} {r : Result Written Refusal} → Carries X tr shown left r → shown ≡ old → left ≡ new → Carries X tr old new r
carries_there X tr done shows leaves = rw (← shows, ← leaves) done
