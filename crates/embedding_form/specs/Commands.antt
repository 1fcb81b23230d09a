-- The commands of the code as the model's.
use Rattle.embedding_form.specs.declared.command.EmbeddingCommand.{EmbeddingCommand}
use Rattle.embedding_form.specs.declared.command.EmbeddingCommand.TheVariants.{MapsTo, Path, Step, End}
use Rattle.std.specs.Prelude.{Option, Some, None}
use Rattle.model.specs.Definitions.Commands as model

abbrev pub command : EmbeddingCommand → model.EmbeddingCommand
command (MapsTo t) = model.maps_to t
command Path = model.path
command (Step p) = model.step p
command End = model.embedding_end

-- what is read at an offset: a command, or what is none
abbrev pub read : Option EmbeddingCommand → model.EmbeddingCommand
read (Some c) = command c
read None = model.alien_e
