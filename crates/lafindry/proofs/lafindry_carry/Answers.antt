-- `lafindry_carry` meets its contract: what it calls is called with its own documents.
use Rattle.lafindry.proofs.lafindry_carry.Goals as goal

pub returns : goal.returns
returns c = c.carry.ensures
