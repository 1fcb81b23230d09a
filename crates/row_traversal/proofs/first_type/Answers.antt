-- `first_type` meets its contract: a first byte 30 is that of an element, whose type stands next.
use mathlib.Core.Path.{◌∙◌, sym, ap}
use mathlib.Core.Option.{some}
use native.Mathlib.Omega.{arith}
use Rattle.scanning.specs.Laws.{content_within}
use Rattle.row_traversal.specs.Contents.{first_some, first_none}
use Rattle.row_traversal.proofs.first_type.Goals as goal

pub bounds-tr-o : goal.bounds-tr-o
bounds-tr-o c = omega (arith, content_within c.requires.there)

pub overflow_add-second : goal.overflow_add-second
overflow_add-second c = omega (arith, (first_some c.requires.there c.if-tr-o-eq-OPENS.true).0, c.well_formed.0)

pub bounds-tr-second : goal.bounds-tr-second
bounds-tr-second c = omega (arith, (first_some c.requires.there c.if-tr-o-eq-OPENS.true).0)

pub returns-then-tr-o-eq-OPENS : goal.returns-then-tr-o-eq-OPENS
returns-then-tr-o-eq-OPENS c = λ k. ap some c.from.ensures ∙ (first_some k.there c.if-tr-o-eq-OPENS.true).1

pub returns : goal.returns
returns c = λ k. sym (first_none k.holds k.there c.if-tr-o-eq-OPENS.false)
