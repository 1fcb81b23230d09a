-- The loop's invariant: the verdict of the edges that are left is the verdict of all.
use Rattle.embedding_checks.proofs.Loops.{EdgesLeft}
use Rattle.embedding_checks.proofs.type_fault.Given as goal

abbrev pub invariant-loop-i : goal.invariant-loop-i
invariant-loop-i l = EdgesLeft l.check l.source l.target l.em l.map l.s l.n l.i
