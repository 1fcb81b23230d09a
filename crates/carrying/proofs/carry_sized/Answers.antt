-- `carry_sized` meets its contract: the sizes are those of the rows that were prepared.
use Rattle.carrying.proofs.Preparing.{places_long, carriable}
use Rattle.carrying.proofs.carry_sized.Goals as goal

pub size_rows-requires-clause-long : goal.size_rows-requires-clause-long
size_rows-requires-clause-long c = (places_long c.requires.rows, c.requires.long)

pub carry_prepared-requires : goal.carry_prepared-requires
carry_prepared-requires c = carriable c.requires.rows (c.size_rows.ensures _ _ c.requires.rows.ready c.requires.rows.rows)

pub returns : goal.returns
returns c g = c.carry_prepared.ensures (carriable g (c.size_rows.ensures _ _ g.ready g.rows))
