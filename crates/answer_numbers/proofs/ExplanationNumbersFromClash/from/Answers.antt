-- `from` meets its contract: the numbers of a clash.
use mathlib.Core.Path.{refl}
use Rattle.model.specs.Definitions.Refusals.{fault_number, fault_mark, document_number, numbers_of}
use Rattle.model.specs.Definitions.Entries.{answer_of}
use Rattle.model.specs.Definitions.Explanation.{explanation_numbers}
use Rattle.answer_numbers.proofs.ExplanationNumbersFromClash.from.Goals as goal

pub returns : goal.returns
unfolding explanation_numbers answer_of numbers_of fault_number fault_mark document_number
returns c = rw c.from.ensures refl
