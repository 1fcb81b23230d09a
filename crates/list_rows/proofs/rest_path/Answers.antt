-- `rest_path` meets its contract.
use Rattle.list_rows.proofs.Listing.{rest_path_is}
use Rattle.list_rows.proofs.rest_path.Goals as goal

pub returns : goal.returns
returns c =
    let start = c.args in
    rest_path_is start.map.now start.s start.cut c.start-start.ensures.0 c.steps-steps.ensures.0 c.one_path.ensures
