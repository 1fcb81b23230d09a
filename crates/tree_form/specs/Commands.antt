-- The commands of the code as the model's, and the command at an offset.
use Rattle.std.specs.Prelude.{List, ℕ, Option, Some, None}
use Rattle.tree_form.specs.declared.command.TreeCommand.{TreeCommand}
use Rattle.tree_form.specs.declared.command.TreeCommand.TheVariants.{Opens, Character, Closes, End}
use Rattle.model.specs.Definitions.Commands as model
use Rattle.model.proofs.Theorems.Reading.{ReadsAt}

-- a command of the code as the model has it
abbrev pub command : TreeCommand → model.TreeCommand
command (Opens t) = model.opens t
command (Character c) = model.character c
command Closes = model.closes
command End = model.tree_end

-- what was read: no command is an alien one
abbrev pub read : Option TreeCommand → model.TreeCommand
read (Some c) = command c
read None = model.alien_t

-- the command c stands at an offset
abbrev pub ReadsCommand : List ℕ → ℕ → model.TreeCommand → Type 0
ReadsCommand bs at c = ReadsAt model.tree_commands model.tree_width model.alien_t bs at c
