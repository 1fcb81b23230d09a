-- `after` meets its contract: each arm moves as the model's machine does.
use Rattle.std.proofs.Common.{inl, inr, ap, arith}
use Rattle.model.specs.Definitions.Basics.{goes}
use Rattle.model.specs.Definitions.TreeChecks.{level_step}
use Rattle.tree_levels.proofs.LevelTurns.{opens_more, opens_none}
use Rattle.tree_levels.proofs.levels.Depth.after.Goals as goal

pub returns-then-self-ge-MAX_LEVELS : goal.returns-then-self-ge-MAX_LEVELS
returns-then-self-ge-MAX_LEVELS c = rw c.in-Opens.is (opens_none _ _ c.if-self-ge-MAX_LEVELS.true)

pub returns-else-self-ge-MAX_LEVELS : goal.returns-else-self-ge-MAX_LEVELS
returns-else-self-ge-MAX_LEVELS c = rw c.in-Opens.is (opens_more _ _ c.if-self-ge-MAX_LEVELS.false)

pub returns-in-Closes : goal.returns-in-Closes
unfolding level_step
returns-in-Closes c = rw c.in-Closes.is (ap goes (omega (arith, c.saturating_sub.ensures)))

pub returns-in-Character : goal.returns-in-Character
unfolding level_step
returns-in-Character c = elim c.in-Character.is [ inl e ↦ rw e.1 | inr e ↦ rw e ]
