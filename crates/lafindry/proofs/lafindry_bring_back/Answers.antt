-- `lafindry_bring_back` meets its contract: what it calls is called with its own documents.
use Rattle.lafindry.proofs.lafindry_bring_back.Goals as goal

pub returns : goal.returns
returns c = c.bring_back.ensures
