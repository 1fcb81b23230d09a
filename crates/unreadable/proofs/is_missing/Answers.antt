-- `is_missing` meets its contract, by the kind of the source type.
use mathlib.Core.Path.{sym, ◌∙◌}
use Rattle.paths.specs.Edges.{text-follows}
use Rattle.unreadable.proofs.Losing.{found_or_not, own_parts, own_text}
use Rattle.unreadable.proofs.is_missing.Goals as goal

pub along-requires-clause-path : goal.along-requires-clause-path
along-requires-clause-path c = text-follows c.requires.image.ready c.requires.image.known_type (sym c.kind.ensures.0 ∙ c.if-kind-eq-TEXT.true)

pub returns-then-kind-eq-TEXT : goal.returns-then-kind-eq-TEXT
returns-then-kind-eq-TEXT c k a =
    own_text c.requires.image.ready c.requires.image.known_type (sym c.kind.ensures.0 ∙ c.if-kind-eq-TEXT.true) _ c.is_none.result
    (found_or_not _ c.along.result _ (c.along.ensures k a) ∙ c.is_none.ensures)

pub returns : goal.returns
returns c k a =
    own_parts c.requires.image.ready c.requires.image.known_type (rw c.kind.ensures.0 at c.if-kind-eq-TEXT.false) _ c.is_broken.result (c.is_broken.ensures k a)
