-- `load` meets its contract. The invariant is `TableLoading` of Turns.antt, the measure what is left of the document.
use mathlib.Core.Path.{◌≡◌}
use Prim.Native.Nat.{◌-◌}
use lib.ListN.{length}
use Rattle.table_load.specs.Loading.{loaded_in}
use Rattle.table_load.proofs.Turns.{TableLoading}
use Rattle.table_load.proofs.load.Given as goal

abbrev pub invariant-loop-at : goal.invariant-loop-at
invariant-loop-at l = (length l.table ≡ 1281) × TableLoading l.t (loaded_in l.types l.table) l.at

abbrev pub decreases-loop-at : goal.decreases-loop-at
decreases-loop-at l = length l.t - l.at
