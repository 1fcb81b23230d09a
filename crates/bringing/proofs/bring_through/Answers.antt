-- `bring_through` meets its contract: what was read is handed on; where nothing was, there is no source.
use mathlib.Core.Path.{sym}
use lib.Seq.{length-take-le}
use Rattle.inverse.specs.Sources.{read_within_lem, read_front}
use Rattle.bringing.proofs.Answering.{spans_room, nothing_read}
use borrow.Author.Rules.{rules}
use Rattle.bringing.proofs.bring_through.Goals as goal

pub slice_bounds-give-end : goal.slice_bounds-give-end
slice_bounds-give-end c =
    read_within_lem (rw c.in-Some.is at (c.read_back.ensures _ c.requires.target.form))

pub slice_bounds-give-end-2 : goal.slice_bounds-give-end-2
slice_bounds-give-end-2 c = sym (length-take-le _ _ (slice_bounds-give-end c))

pub give-requires : goal.give-requires
give-requires c =
    let read = rw c.in-Some.is at (c.read_back.ensures _ c.requires.target.form) in
    record { setting = c.requires.setting; target = c.requires.target; reading = read_front c.requires.within.1 read; room = spans_room read c.requires.within.2 (search rules) }

pub returns-in_default : goal.returns-in_default
returns-in_default c =
    nothing_read _ c.requires.setting.valid c.requires.target _ c.requires.within.0 (rw c.in_default.is at (c.read_back.ensures _ c.requires.target.form))
