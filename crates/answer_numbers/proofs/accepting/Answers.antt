-- `accepting` meets its contract: the numbers of an acceptance.
use mathlib.Core.Path.{refl}
use Rattle.model.specs.Definitions.Entries.{answer_of}
use Rattle.answer_numbers.proofs.accepting.Goals as goal

pub returns : goal.returns
unfolding answer_of
returns c = refl
