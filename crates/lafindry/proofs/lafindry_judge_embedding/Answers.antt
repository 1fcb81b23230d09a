-- `lafindry_judge_embedding` meets its contract: what it calls is called with its own documents.
use Rattle.lafindry.proofs.lafindry_judge_embedding.Goals as goal

pub returns : goal.returns
returns c = c.judge_embedding.ensures
