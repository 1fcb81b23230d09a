-- `height_at` meets its contract.
use mathlib.Core.Path.{sym}
use native.Mathlib.Omega.{arith}
use lib.ListN.{drop, length-take, get_or-eq_default}
use Rattle.loaded_table.specs.Loaded.{heights_of}
use Rattle.model.specs.Definitions.Heights.{height_in}
use Rattle.table_heights.proofs.height_at.Goals as goal

pub returns-then-t-lt-MAX_TYPES : goal.returns-then-t-lt-MAX_TYPES
unfolding height_in
returns-then-t-lt-MAX_TYPES c = c.height.ensures

pub returns-else-t-lt-MAX_TYPES : goal.returns-else-t-lt-MAX_TYPES
unfolding height_in
returns-else-t-lt-MAX_TYPES c =
    let rows = c.args.table.now in
    (sym (get_or-eq_default (heights_of rows) 0 (omega (arith, length-take 64 (drop 128 rows), c.if-t-lt-MAX_TYPES.false))), omega arith)
