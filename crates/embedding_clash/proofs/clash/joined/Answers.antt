-- By the code of the kind.
use native.Mathlib.Omega.{arith}
use Rattle.embedding_clash.proofs.ClashLaws.{joined_row, joined_below, joined_list}
use Rattle.embedding_clash.proofs.clash.joined.Goals as goal

pub returns-in-2 : goal.returns-in-2
returns-in-2 c = joined_row _ _ (omega arith) (omega arith)

pub returns-in_default : goal.returns-in_default
returns-in_default c = joined_below _ _ (omega arith)

pub returns-in_default-2 : goal.returns-in_default-2
returns-in_default-2 c = joined_list _ _ (omega arith)
