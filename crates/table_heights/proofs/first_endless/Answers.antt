-- `first_endless` meets its contract.
use mathlib.Core.Path.{◌≡◌, sym, ◌∙◌}
use Prim.Native.Nat.{◌-◌, ◌≤◌}
use native.Mathlib.Omega.{arith}
use lib.ListN.{length}
use lib.Count.{trailing_le}
use Rattle.loaded_table.specs.Loaded.{heights_of, table_by, section_long, length_of_lem}
use Rattle.table_heights.proofs.Words.{endless_fails, endless_passes}
use Rattle.table_heights.proofs.first_endless.Goals as goal
use Rattle.table_heights.proofs.first_endless.Goals.{Start}

-- the heights have all their places
long : (c : Start) → length (heights_of c.args.table.now) ≡ 64
long c = section_long 128 64 c.args.table.now (omega (arith, c.requires.0.size))

pub types-all-requires : goal.types-all-requires
types-all-requires c = tt

pub finite_bits-bits-requires : goal.finite_bits-bits-requires
finite_bits-bits-requires c = (omega (arith, c.types-all.ensures.0, c.requires.0.few_types), long (goal.at.finite_bits-bits-requires c).Start)

pub overflow_cast-t : goal.overflow_cast-t
overflow_cast-t c = omega (arith, trailing_le 64 (18446744073709551615 - c.finite_bits-bits.result))

pub returns-then-t-all : goal.returns-then-t-all
returns-then-t-all c =
    let rows = c.args.table.now in
    let few : c.types-all.result ≤ 64 = omega (arith, c.types-all.ensures.0, c.requires.0.few_types) in
    endless_fails (table_by rows) c.types-all.result (heights_of rows) c.finite_bits-bits.result few (omega (arith, long (goal.at.returns-then-t-all c).Start)) c.finite_bits-bits.ensures (length_of_lem rows ∙ sym c.types-all.ensures.0) c.requires.1 c.if-t-all.true

pub returns-else-t-all : goal.returns-else-t-all
returns-else-t-all c =
    let rows = c.args.table.now in
    let few : c.types-all.result ≤ 64 = omega (arith, c.types-all.ensures.0, c.requires.0.few_types) in
    endless_passes (table_by rows) c.types-all.result (heights_of rows) c.finite_bits-bits.result few (omega (arith, long (goal.at.returns-else-t-all c).Start)) c.finite_bits-bits.ensures (length_of_lem rows ∙ sym c.types-all.ensures.0) c.requires.1 c.if-t-all.false
