-- `from` meets its contract, case by case.
use mathlib.Core.Path.{refl}
use Rattle.model.specs.Definitions.Refusals.{document_number}
use Rattle.answers.proofs.U64FromDocument.from.Goals as goal

pub returns-in-SourceTable : goal.returns-in-SourceTable
unfolding document_number
returns-in-SourceTable c = rw c.in-SourceTable.is refl

pub returns-in-TargetTable : goal.returns-in-TargetTable
unfolding document_number
returns-in-TargetTable c = rw c.in-TargetTable.is refl

pub returns-in-Embedding : goal.returns-in-Embedding
unfolding document_number
returns-in-Embedding c = rw c.in-Embedding.is refl

pub returns-in-Tree : goal.returns-in-Tree
unfolding document_number
returns-in-Tree c = rw c.in-Tree.is refl

pub returns-in-Output : goal.returns-in-Output
unfolding document_number
returns-in-Output c = rw c.in-Output.is refl

pub returns-in-Operations : goal.returns-in-Operations
unfolding document_number
returns-in-Operations c = rw c.in-Operations.is refl
