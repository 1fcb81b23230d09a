-- `finish` meets its contract, by what reading found.
use mathlib.Core.Path.{sym}
use lib.Seq.{length-take-le}
use Rattle.reading_along.proofs.Answering.{not_read}
use Rattle.reading_along.proofs.finish.Goals as goal

pub slice_bounds-give-end : goal.slice_bounds-give-end
slice_bounds-give-end c = let read = rw c.in-Ok.is at c.requires.reading.2 in sym (length-take-le _ _ read.0)

pub give-requires : goal.give-requires
give-requires c =
    let read = rw c.in-Ok.is at c.requires.reading.2 in
    record { setting = c.requires.setting; reading = (c.requires.reading.0, c.requires.reading.1, read.1) }

pub returns-in-Ok : goal.returns-in-Ok
returns-in-Ok c tr counted read = c.give.ensures tr counted (rw c.in-Ok.is at read).1

pub returns-in-Err : goal.returns-in-Err
returns-in-Err c tr counted read = not_read _ tr _ _ (rw c.in-Err.is at read)
