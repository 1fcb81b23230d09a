-- `hollow` meets its contract, by the kind of the type.
use Prim.Native.Nat.{◌<◌}
use Rattle.loaded_table.specs.Loaded.{types_in}
use Rattle.filler_rows.specs.Storing.{Sound}
use Rattle.filler_rows.proofs.ByKind.{Hollows}
use Rattle.filler_rows.proofs.hollow.Given as goal

abbrev pub invariant-loop-i : goal.invariant-loop-i
invariant-loop-i l = (sound : Sound l.target) → (exists : l.t < types_in l.target) → Hollows sound exists l.initial.pool l.at l.pool l.place l.i
