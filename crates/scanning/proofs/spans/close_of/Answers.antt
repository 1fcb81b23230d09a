-- `close_of` meets its contract: the span at the beginning of a content is its length, and content lies within the document.
use Rattle.scanning.specs.Laws.{content_within}
use Prim.Native.Nat.{ℕ, ◌+◌}
use mathlib.Core.Path.{ap}
use native.Mathlib.Omega.{arith}
use Rattle.scanning.proofs.spans.close_of.Goals as goal

pub offset_bounds-spans-from : goal.offset_bounds-spans-from
offset_bounds-spans-from c = omega (arith, content_within c.requires.content.1, c.requires.spans.short)

pub bounds-spans-from : goal.bounds-spans-from
bounds-spans-from c = omega (arith, content_within c.requires.content.1, c.requires.spans.whole)

pub returns : goal.returns
returns c k a = rw c.from.ensures (ap (λ (n : ℕ). c.args.from + n) (c.requires.spans.span_is _ k a))
