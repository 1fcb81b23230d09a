-- `read_source` meets its contract: what was read stands at the start of the buffer; where nothing was, reading fails.
use Rattle.inverse.specs.Sources.{read_within_lem, read_front}
use Rattle.reading_along.proofs.Answering.{nothing_read}
use Rattle.reading_along.proofs.read_source.Goals as goal

pub lost_at-requires : goal.lost_at-requires
lost_at-requires c = record { setting = c.requires.setting; target = c.requires.target; spans = c.fill_spans.ensures; fails = nothing_read _ c.requires.setting.valid c.requires.target c.requires.within.0 (rw c.in-None.is at (c.read_back.ensures _ c.requires.target.form)) }

pub returns-in-Some : goal.returns-in-Some
returns-in-Some c =
    let read = rw c.in-Some.is at (c.read_back.ensures _ c.requires.target.form) in
    (read_within_lem read, read_front c.requires.within.1 read)

pub returns-in-None : goal.returns-in-None
returns-in-None c = c.lost_at.ensures
