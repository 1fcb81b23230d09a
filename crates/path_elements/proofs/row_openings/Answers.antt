-- `row_openings` meets its contract: the row stands where its places say.
use native.Mathlib.Omega.{arith}
use Rattle.path_elements.proofs.row_openings.Goals as goal

pub returns : goal.returns
returns c =
    let counted = rw (c.from-from.ensures, c.to-to.ensures) at c.openings.ensures in
    omega (arith, counted, c.min.ensures)
