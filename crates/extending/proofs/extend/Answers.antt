-- `extend` meets its contract: the five numbers are those of the report's result.
use mathlib.Core.Path.{ap, ◌∙◌}
use Rattle.model.specs.Definitions.Entries.{answer_of}
use Rattle.extending.proofs.extend.Goals as goal

pub returns : goal.returns
returns c = let r = c.extended.ensures in record { same_answer = c.from.ensures ∙ ap answer_of r.same_result; same_output = r.same_output }
