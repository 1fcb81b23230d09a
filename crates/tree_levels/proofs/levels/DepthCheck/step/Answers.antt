-- `step` meets its contract: a turn of the machine of levels.
use Rattle.std.proofs.Common.{true, sym}
use Rattle.model.specs.Definitions.Basics.{goes, stops}
use Rattle.model.specs.Definitions.TreeChecks.{level_step}
use Rattle.tree_form.proofs.Machines.{moved, some_width}
use Rattle.tree_levels.proofs.LevelTurns.{levels_alien, low_goes}
use Rattle.tree_levels.proofs.levels.DepthCheck.step.Goals as goal

pub returns-in_err-c : goal.returns-in_err-c
returns-in_err-c c = rw c.from_residual.ensures (moved level_step (λ n. true) levels_alien _ _ _ stops c.requires.inside c.in_err-c.ensures (levels_alien _))

pub returns-in_err-self : goal.returns-in_err-self
returns-in_err-self c =
    rw c.from_residual-in_err-self.ensures (moved level_step (λ n. true) levels_alien _ _ _ stops c.requires.inside c.in_ok-c.ensures (sym c.in_err-self.ensures))

pub returns : goal.returns
returns c =
    let step = sym c.in_ok-self.ensures in
    let went = moved level_step (λ n. true) levels_alien _ _ _ (goes _) c.requires.inside c.in_ok-c.ensures step in
    rw c.width.ensures (some_width _, went.0, low_goes _ _ _ c.requires.fit step, went.1)
