-- `carry` meets its contract: rows of the setting were prepared.
use Rattle.carrying.proofs.Preparing.{carries_there}
use Rattle.carrying.proofs.carry.Goals as goal

pub returns : goal.returns
returns c =
    let made = c.with_rows.ensures in
    carries_there _ _ (made.met (record { em = c.args.em.now; ready = c.requires.ready; rows = made.rows; tree = c.requires.tree })) made.shows made.leaves
