-- `carry_by_rows` meets its contract: either array of sizes is long enough.
use native.Mathlib.Omega.{arith}
use Rattle.carrying.proofs.Preparing.{sizes_long}
use Rattle.carrying.proofs.carry_by_rows.Goals as goal

pub carry_sized-requires-clause-long : goal.carry_sized-requires-clause-long
carry_sized-requires-clause-long c = sizes_long c.requires 600 (omega arith)
