-- `is_full` meets its contract: behind the last place of a number of members it counts as 0.
use mathlib.Core.Path.{sym, ap}
use Prim.Native.Nat.{ℕ}
use native.Mathlib.Omega.{arith}
use lib.ListN.{drop, length-take, get_or-eq_default}
use lib.Dec.{eqb}
use Rattle.loaded_table.specs.Loaded.{counts_of}
use Rattle.table_growth.proofs.is_full.Goals as goal

pub returns-then-t-ge-MAX_TYPES : goal.returns-then-t-ge-MAX_TYPES
returns-then-t-ge-MAX_TYPES c =
    let rows = c.args.table.now in
    sym (ap (λ (n : ℕ). eqb n 16) (get_or-eq_default (counts_of rows) 0 (omega (arith, c.if-t-ge-MAX_TYPES.true, length-take 64 (drop 64 rows)))))

pub count-requires : goal.count-requires
count-requires c = omega (arith, c.if-t-ge-MAX_TYPES.false)

pub returns : goal.returns
returns c = ap (λ (n : ℕ). eqb n 16) c.count.ensures.0
