-- `filler_rows` meets its contract.
use Rattle.filler_rows.specs.Storing.{FillersStored}
use Rattle.filler_rows.proofs.filler_rows.Given as goal

abbrev pub invariant-loop-t : goal.invariant-loop-t
invariant-loop-t l = FillersStored l.target l.initial.pool l.initial.places l.t l.pool l.places l.at
