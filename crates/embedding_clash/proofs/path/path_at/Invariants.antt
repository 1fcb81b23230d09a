-- The loop's invariant: the path holds the steps passed, and then zeros.
use mathlib.Core.Path.{◌≡◌}
use Rattle.embedding_clash.specs.Paths.{path_in}
use Rattle.embedding_clash.proofs.path.path_at.Given as goal

abbrev pub invariant-loop-i : goal.invariant-loop-i
invariant-loop-i l = l.path ≡ path_in l.em l.start l.i
