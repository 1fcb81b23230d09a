-- `lafindry_read_along` meets its contract: what it calls is called with its own documents.
use Rattle.lafindry.proofs.lafindry_read_along.Goals as goal

pub returns : goal.returns
returns c = c.read_along.ensures
