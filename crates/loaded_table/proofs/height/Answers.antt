-- `height` meets its contract: a number of a section is a number of the array.
use mathlib.Core.Path.{sym, ◌∙◌}
use Rattle.loaded_table.specs.Loaded.{in_section}
use Rattle.loaded_table.proofs.height.Goals as goal

pub returns : goal.returns
returns c = (c.number.ensures.0 ∙ sym (in_section 128 64 c.args.table.now c.args.t c.requires), c.number.ensures.1)
