-- `may_end` meets its contract: a document may end at any level.
use Rattle.std.proofs.Common.{true, refl}
use Rattle.model.specs.Definitions.TreeChecks.{level_step}
use Rattle.tree_form.proofs.Machines.{ending}
use Rattle.tree_levels.proofs.LevelTurns.{levels_alien}
use Rattle.tree_levels.proofs.levels.DepthCheck.may_end.Goals as goal

pub returns : goal.returns
returns c = ending level_step (λ n. true) levels_alien _ refl
