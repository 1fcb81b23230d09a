-- `from` meets its contract: where nothing is explained, the numbers are those of the judging answer.
use mathlib.Core.Path.{refl}
use Rattle.model.specs.Definitions.Explanation.{explanation_numbers}
use Rattle.answer_numbers.proofs.ExplanationNumbersFromExplanation.from.Goals as goal

pub returns-in-Explained : goal.returns-in-Explained
returns-in-Explained c = rw c.in-Explained.is c.from.ensures

pub returns-in-Unexplained : goal.returns-in-Unexplained
unfolding explanation_numbers
returns-in-Unexplained c = rw (c.in-Unexplained.is, c.from-in-Unexplained-2.ensures, c.from-in-Unexplained.ensures) refl
