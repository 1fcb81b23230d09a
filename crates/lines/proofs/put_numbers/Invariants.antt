-- `put_numbers` meets its contract: the numbers so far are written.
use Rattle.lines.proofs.Numbers.{Numbered}
use Rattle.lines.proofs.put_numbers.Given as goal

abbrev pub invariant-loop-value : goal.invariant-loop-value
invariant-loop-value l = Numbered l.values l.initial.out l.at l.out l.next l.value-index
