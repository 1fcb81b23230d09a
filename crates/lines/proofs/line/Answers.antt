-- `line` meets its contract: the word, then the numbers, then the end are written.
use Rattle.lines.proofs.Numbers.{line_made}
use Rattle.lines.proofs.line.Goals as goal

pub returns : goal.returns
returns c = line_made c.args.word.now c.args.values.now _ _ _ _ _ c.requires c.copy-behind.ensures c.put_numbers-next.ensures
