-- `lafindry_explain_clash` meets its contract: the numbers of what is explained of its own documents.
use Rattle.std.proofs.Common.{ap, ◌∙◌}
use Rattle.model.specs.Definitions.Explanation.{explanation_numbers}
use Rattle.lafindry.proofs.lafindry_explain_clash.Goals as goal

pub returns : goal.returns
returns c = c.from.ensures ∙ ap explanation_numbers c.explain.ensures
