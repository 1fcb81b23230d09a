-- `power` meets its contract: the table is that of 20 numbers, each ten times the one before.
use mathlib.Core.Path.{◌∙◌}
use Prim.Native.Nat.{◌^◌}
use native.Mathlib.Nat.{one-mul}
use Rattle.decimal.specs.Digits.{most_digits}
use Rattle.decimal.proofs.Powers.{tenfold, in_table}
use Rattle.decimal.proofs.power.Goals as goal

pub returns : goal.returns
unfolding tenfold
returns c = in_table most_digits 1 c.args.k c.requires ∙ one-mul (10 ^ c.args.k)
