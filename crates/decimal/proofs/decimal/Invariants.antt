-- `decimal` meets its contract: the digits that stand there and what is left are the number.
use Rattle.decimal.proofs.Spelling.{Spelled}
use Rattle.decimal.proofs.decimal.Given as goal

abbrev pub invariant-loop-i : goal.invariant-loop-i
invariant-loop-i l = Spelled l.n l.count l.i l.left l.bytes
