-- `put_decimal` meets its contract: what is copied is the text.
use Rattle.decimal.proofs.Written.{whole}
use Rattle.decimal.proofs.put_decimal.Goals as goal

pub returns : goal.returns
returns c = record { text = _; is_decimal = rw c.digits-digits.ensures c.decimal-text.ensures.form; writes = whole c.copy.ensures; short = rw c.digits-digits.ensures c.decimal-text.ensures.bounded }
