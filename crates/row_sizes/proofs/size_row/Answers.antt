-- `size_row` meets its contract.
use Rattle.row_sizes.proofs.Storing.{sized_more}
use Rattle.row_sizes.proofs.size_row.Goals as goal

pub returns : goal.returns
returns c = sized_more c.requires.1 c.from-from.ensures c.to-to.ensures c.depth-depth.ensures c.row_size-size.ensures c.store_size.ensures
