-- The commands of the code as the model's.
use Rattle.std.specs.Prelude.{Option, Some, None}
use Rattle.table_form.specs.declared.command.TableCommand.{TableCommand}
use Rattle.table_form.specs.declared.command.TableCommand.TheVariants.{Text, Empty, Sequence, Choice, List, Member, End, Optional}
use Rattle.model.specs.Definitions.Commands as model

abbrev pub command : TableCommand → model.TableCommand
command Text = model.text_type
command Empty = model.empty_type
command Sequence = model.sequence_type
command Choice = model.choice_type model.needed
command (List t) = model.list_type t
command (Member t) = model.member t
command End = model.table_end
command Optional = model.choice_type model.optional

-- what is read at an offset: a command, or what is none
abbrev pub read : Option TableCommand → model.TableCommand
read (Some c) = command c
read None = model.alien
