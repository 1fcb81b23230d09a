-- `write_decimal` meets its contract: what is copied is the text, where there is room for it.
use mathlib.Core.Path.{refl}
use native.Mathlib.Omega.{arith}
use Rattle.model.specs.Definitions.Decimal.{without_room}
use Rattle.decimal.proofs.Written.{whole, at_start}
use Rattle.decimal.proofs.write_decimal.Goals as goal

pub returns-then-out-digits : goal.returns-then-out-digits
returns-then-out-digits c = without_room {text = c.digits-digits.result.now} (rw c.digits-digits.ensures c.decimal-text.ensures.form) (omega (arith, c.if-out-digits.true)) refl refl

pub returns : goal.returns
returns c = at_start (rw c.digits-digits.ensures c.decimal-text.ensures.form) c.if-out-digits.false (whole c.copy.ensures)
