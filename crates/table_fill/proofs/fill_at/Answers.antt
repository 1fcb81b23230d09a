-- `fill_at` meets its contract.
use mathlib.Core.Path.{sym}
use native.Mathlib.Omega.{arith}
use lib.ListN.{drop, length-take, get_or-eq_default}
use Rattle.loaded_table.specs.Loaded.{fill_of}
use Rattle.table_fill.proofs.fill_at.Goals as goal

pub overflow_cast-result : goal.overflow_cast-result
overflow_cast-result c = record { fits = omega (arith, c.fill.ensures.1) }

pub returns-then-t-lt-MAX_TYPES : goal.returns-then-t-lt-MAX_TYPES
returns-then-t-lt-MAX_TYPES c = c.fill.ensures.0

pub returns-else-t-lt-MAX_TYPES : goal.returns-else-t-lt-MAX_TYPES
returns-else-t-lt-MAX_TYPES c = let rows = c.args.table.now in sym (get_or-eq_default (fill_of rows) 0 (omega (arith, length-take 64 (drop 192 rows), c.if-t-lt-MAX_TYPES.false)))
