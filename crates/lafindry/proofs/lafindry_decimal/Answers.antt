-- `lafindry_decimal` meets its contract: what it calls writes its own number into its own output.
use Rattle.lafindry.proofs.lafindry_decimal.Goals as goal

pub returns : goal.returns
returns c = c.write_decimal.ensures
