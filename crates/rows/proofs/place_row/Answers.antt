-- `place_row` meets its contract: a store leaves the length.
use mathlib.Core.Path.{refl}
use Prim.Native.Nat.{◌*◌}
use native.Mathlib.Omega.{arith}
use lib.ListN.{length-set}
use Rattle.rows.proofs.place_row.Goals as goal

pub bounds-places-i-2 : goal.bounds-places-i-2
bounds-places-i-2 c = omega (arith, length-set c.args.places.now (3 * c.args.r) c.args.from, c.requires)

pub returns : goal.returns
returns c = refl
