-- `child_of_type` meets its contract, by the first two bytes.
use native.Mathlib.Omega.{arith}
use Rattle.scanning.specs.Laws.{content_within}
use Rattle.scanning.proofs.Searching.{typed_none, typed-found, typed-other}
use Rattle.scanning.proofs.child_of_type.Goals as goal
use Rattle.scanning.proofs.child_of_type.Goals.{else-tr-from-eq-OPENS-via-then-tr-from-eq-OPENS+else-tr-from, else-tr-from-eq-OPENS-via-else-tr-from-eq-OPENS}

pub bounds-tr-from : goal.bounds-tr-from
bounds-tr-from c = omega (arith, content_within c.requires.1)

pub returns-then-tr-from : goal.returns-then-tr-from
returns-then-tr-from c k a = typed-found c.args.t k a c.if-tr-from-eq-OPENS.true c.if-tr-from.true

pub returns-else-tr-from-eq-OPENS : goal.returns-else-tr-from-eq-OPENS
returns-else-tr-from-eq-OPENS c k a =
    elim c.else-tr-from-eq-OPENS.branch [
      | else-tr-from-eq-OPENS-via-then-tr-from-eq-OPENS+else-tr-from w ↦ typed-other c.args.t k a w.if-tr-from-eq-OPENS.true w.if-tr-from.false
      | else-tr-from-eq-OPENS-via-else-tr-from-eq-OPENS w ↦ typed_none c.args.t k a w.if-tr-from-eq-OPENS.false
    ]
