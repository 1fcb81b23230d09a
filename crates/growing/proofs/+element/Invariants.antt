-- The loop of `element` writes a member a turn; the measure of the recursion is the bound on the paths' steps.
use mathlib.Core.Path.{◌≡◌}
use Rattle.growing.proofs.Members.{Members}
use Rattle.growing.proofs.+element.Given as goal

abbrev pub invariant-loop-j : goal.invariant-loop-j
invariant-loop-j l = Members l.target l.em l.e l.n l.t l.initial.pool l.inside l.initial.j-iterator.start l.initial.j-iterator.end l.pool l.j-iterator.start l.place × (l.j-iterator.end ≡ l.initial.j-iterator.end)

abbrev pub decreases-element : goal.decreases-element
decreases-element l = l.n
