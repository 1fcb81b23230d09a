-- `judge` meets its contract: what the pass accepts is sound.
use Rattle.tree_judge.proofs.Judging.{accepted_sound}
use Rattle.tree_judge.proofs.judge.judge.Goals as goal

pub returns-in-Some : goal.returns-in-Some
returns-in-Some c = accepted_sound _ _ c.in-Some.ensures
