-- The loop's invariant: the paths stored so far are those of the edges passed.
use Rattle.embedding_clash.proofs.ClashLaws.{PathsStored}
use Rattle.embedding_clash.proofs.path.paths_of.Given as goal

abbrev pub invariant-loop-i : goal.invariant-loop-i
invariant-loop-i l = PathsStored l.em l.map l.b l.i l.paths
