-- By what stands behind the shared steps.
use mathlib.Core.List.{[]}
use Rattle.loaded_table.specs.Loaded.{kind_from}
use Rattle.model.specs.Definitions.EmbeddingChecks.{clash_reason}
use Rattle.embedding_clash.proofs.ClashLaws.{reason_behind}
use Rattle.embedding_clash.proofs.clash.why.Goals as goal

pub returns-in-BothEnd : goal.returns-in-BothEnd
unfolding clash_reason
returns-in-BothEnd c = reason_behind (kind_from c.args.kind 0 []) c.in-BothEnd.is c.joined.ensures

pub returns-in-FirstEnds : goal.returns-in-FirstEnds
unfolding clash_reason
returns-in-FirstEnds c = reason_behind (kind_from c.args.kind 0 []) c.in-FirstEnds.is c.joined-in-FirstEnds.ensures

pub returns-in-SecondEnds : goal.returns-in-SecondEnds
unfolding clash_reason
returns-in-SecondEnds c = reason_behind (kind_from c.args.kind 0 []) c.in-SecondEnds.is c.joined-in-SecondEnds.ensures

pub returns-in-Apart : goal.returns-in-Apart
unfolding clash_reason
returns-in-Apart c = reason_behind (kind_from c.args.kind 0 []) c.in-Apart.is c.parted.ensures
