-- A step that exists is kept in its type's row.
use mathlib.Core.Path.{◌∙◌}
use native.Mathlib.Omega.{arith}
use Rattle.embedding_clash.proofs.Following.{step_at}
use Rattle.embedding_clash.proofs.walk.next_type.Goals as goal

pub overflow_sub-from : goal.overflow_sub-from
overflow_sub-from c = omega (arith, (step_at c.requires).first, c.from.ensures)

pub member-requires : goal.member-requires
member-requires c = let s = step_at c.requires in (omega (arith, s.inside, s.few), omega (arith, s.first, s.last, c.from.ensures))

pub returns : goal.returns
returns c = (rw c.from.ensures at c.member.ensures.0) ∙ (step_at c.requires).leads
