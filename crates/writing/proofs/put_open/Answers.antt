-- `put_open` meets its contract: its two stores are the run of stores of the two bytes.
use mathlib.Core.Path.{refl}
use native.Mathlib.Numerals.{add-one}
use native.Mathlib.Omega.{arith}
use lib.ListN.{length-set}
use Rattle.writing.proofs.put_open.Goals as goal

pub bounds-out-second : goal.bounds-out-second
bounds-out-second c = simp length-set (omega arith)

pub returns : goal.returns
returns c = record { written = rw (add-one c.args.at); after = refl }
