-- `store_size` meets its contract: a store leaves the length.
use Prim.Native.Nat.{◌*◌}
use native.Mathlib.Omega.{arith}
use lib.ListN.{length-set}
use Rattle.rows.proofs.store_size.Goals as goal

pub bounds-sizes-i-2 : goal.bounds-sizes-i-2
bounds-sizes-i-2 c = omega (arith, length-set c.args.sizes.now (3 * c.args.r) c.args.levels, c.requires)
