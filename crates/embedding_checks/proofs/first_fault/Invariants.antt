-- The loop's invariant: the verdict of the source types that are left is the verdict of all.
use Rattle.embedding_checks.proofs.Loops.{TypesLeft}
use Rattle.embedding_checks.proofs.first_fault.Given as goal

abbrev pub invariant-loop-s : goal.invariant-loop-s
invariant-loop-s l = TypesLeft l.check l.source l.target l.em l.map l.types l.s
