use native.Mathlib.Omega.{arith}
use Rattle.rows.specs.Rows.{source_row, item_row}
use Rattle.row_sizes.proofs.Storing.{keeps_both}
use Rattle.row_sizes.proofs.size_type.Goals as goal

pub size_row-requires-2 : goal.size_row-requires-2
unfolding item_row
size_row-requires-2 c =
    (omega (arith, c.item_row.ensures, c.requires.s_bound, c.requires.long.0), omega (arith, c.item_row.ensures, c.requires.s_bound, c.requires.long.1, c.loop-j.invariant.0.long), c.requires.within _)

pub returns : goal.returns
unfolding source_row
returns c =
    let inv = c.loop-j.invariant in
    let sized = c.size_row-2.ensures in
    (keeps_both inv.0 sized.0, record { own = λ t chosen. sized.0.kept _ (inv.1 _ (omega (arith, c.rows_of-rows.ensures.1 t chosen))); item = rw c.item_row.ensures at sized.1 })
