-- `append_type` meets its contract: what is found is kept only where the operation is done.
use mathlib.Core.Path.{sym, ◌∙◌}
use Rattle.table_operations.proofs.Operating.{done_operated, refused_operated}
use Rattle.table_operations.proofs.Table.append_type.Goals as goal

pub returns-then-is_ok : goal.returns-then-is_ok
returns-then-is_ok c = done_operated _ _ _ c.grow_type-answer.ensures (sym c.if-is_ok.true ∙ c.is_ok.ensures.value)

pub returns-else-is_ok : goal.returns-else-is_ok
returns-else-is_ok c = refused_operated _ _ _ c.requires c.grow_type-answer.ensures (sym c.if-is_ok.false ∙ c.is_ok.ensures.value)
