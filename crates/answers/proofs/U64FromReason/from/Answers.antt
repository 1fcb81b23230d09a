-- `from` meets its contract, case by case.
use mathlib.Core.Path.{refl}
use Rattle.model.specs.Definitions.Explanation.{reason_number}
use Rattle.answers.proofs.U64FromReason.from.Goals as goal

pub returns-in-EqualPaths : goal.returns-in-EqualPaths
unfolding reason_number
returns-in-EqualPaths c = rw c.in-EqualPaths.is refl

pub returns-in-EarlierBegins : goal.returns-in-EarlierBegins
unfolding reason_number
returns-in-EarlierBegins c = rw c.in-EarlierBegins.is refl

pub returns-in-LaterBegins : goal.returns-in-LaterBegins
unfolding reason_number
returns-in-LaterBegins c = rw c.in-LaterBegins.is refl

pub returns-in-PartAtSequence : goal.returns-in-PartAtSequence
unfolding reason_number
returns-in-PartAtSequence c = rw c.in-PartAtSequence.is refl
