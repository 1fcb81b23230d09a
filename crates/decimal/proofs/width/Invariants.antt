-- `width` meets its contract: the number reaches each power of ten that was passed.
use Rattle.decimal.specs.Digits.{Reaches}
use Rattle.decimal.proofs.width.Given as goal

abbrev pub invariant-loop-w : goal.invariant-loop-w
invariant-loop-w l = Reaches l.n l.w
