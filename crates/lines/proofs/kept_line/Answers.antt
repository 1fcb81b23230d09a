-- `kept_line` meets its contract: the height's digits stand where a line has its word.
use Rattle.lines.proofs.kept_line.Goals as goal

pub returns : goal.returns
returns c = (c.digits-digits.result.now, rw c.digits-digits.ensures c.decimal-text.ensures.form, c.line.ensures)
