-- `begin` meets its contract, by the kind of the source type.
use mathlib.Core.Path.{sym, ◌∙◌}
use native.Mathlib.Omega.{arith}
use Rattle.children.proofs.Beginning.{begin-none, begin-sequence, begin-choice}
use Rattle.children.proofs.begin.Goals as goal

pub returns-in-2 : goal.returns-in-2
returns-in-2 c = λ k a. begin-sequence c.requires.image.ready c.requires.image.known_type _ (sym c.kind-kind.ensures.0 ∙ c.in-2.is)

pub returns-in-3 : goal.returns-in-3
returns-in-3 c = λ k a. begin-choice c.requires.image.ready c.requires.image.known_type _ (sym c.kind-kind.ensures.0 ∙ c.in-3.is)

pub returns-in-0 : goal.returns-in-0
returns-in-0 c = λ k a. begin-none c.requires.image.ready c.requires.image.known_type _ (omega (arith, c.kind-kind.ensures.0))
