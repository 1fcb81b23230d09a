-- `lafindry_judge_tree` meets its contract: what it calls is called with its own documents.
use Rattle.lafindry.proofs.lafindry_judge_tree.Goals as goal

pub returns : goal.returns
returns c = c.judge_tree.ensures
