-- `fill_span` meets its contract: the spans of the document's own offsets are handed on, and one is stored.
use mathlib.Core.Path.{refl}
use Rattle.scanning.proofs.Spanning.{one-filled}
use Rattle.scanning.proofs.spans.fill_span.Goals as goal

pub returns : goal.returns
returns c = (refl, one-filled _ _ _ c.requires.spans_room.0.1 c.requires.spans_room.2 c.requires.spans_room.1 c.span_at-far.ensures)
