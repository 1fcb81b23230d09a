-- `lafindry_extend_table` meets its contract: what it calls is called with its own documents.
use Rattle.lafindry.proofs.lafindry_extend_table.Goals as goal

pub returns : goal.returns
returns c = c.extend.ensures
