-- `prepare` meets its contract.
use Rattle.own_rows.specs.Progress.{Progress}
use Rattle.preparing.proofs.prepare.Given as goal

abbrev pub invariant-loop-s : goal.invariant-loop-s
invariant-loop-s l = Progress l.source l.target l.map l.em l.initial.pool l.initial.places l.s l.pool l.places l.at
