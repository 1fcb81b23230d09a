-- `list_cut` meets its contract.
use Rattle.list_rows.proofs.Listing.{follows-at, cut_at}
use Rattle.list_rows.proofs.list_cut.Goals as goal

pub list_depth-requires : goal.list_depth-requires
list_depth-requires c =
    follows-at c.requires.ready c.requires.list.0 c.requires.list.1 c.start-start.ensures.0 c.steps-steps.ensures.0 c.target-t.ensures.0

pub returns : goal.returns
returns c =
    cut_at c.requires.ready c.requires.list.0 c.requires.list.1 c.start-start.ensures.0 c.steps-steps.ensures.0 c.target-t.ensures.0 c.list_depth.ensures
