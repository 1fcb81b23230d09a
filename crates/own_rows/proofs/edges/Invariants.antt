-- `edges` meets its contract.
use Rattle.own_rows.specs.Making.{EdgesFrom}
use Rattle.own_rows.proofs.edges.Given as goal

abbrev pub invariant-loop-i : goal.invariant-loop-i
invariant-loop-i l = EdgesFrom l.map l.first l.hole l.i l.e
