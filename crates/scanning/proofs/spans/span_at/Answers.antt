-- `span_at` meets its contract: past an element, past a character, or no way.
use Rattle.scanning.proofs.Spanning.{element_span, element_last, character_span}
use Rattle.scanning.proofs.spans.span_at.Goals as goal

pub returns-then-spans-next : goal.returns-then-spans-next
returns-then-spans-next c = element_last c.requires.o_in_bounds.0 c.requires.behind c.in-48.is c.if-spans-next.true

pub returns-else-spans-next : goal.returns-else-spans-next
returns-else-spans-next c = rw c.from.ensures (element_span c.requires.o_in_bounds.2 c.requires.behind c.in-48.is c.if-spans-next.false)

pub returns-in-49 : goal.returns-in-49
returns-in-49 c = character_span c.requires.o_in_bounds.0 c.requires.o_in_bounds.2 c.requires.behind c.in-49.is
