-- `put_type` meets its contract: the first byte gives the kind, and the operands are the members.
use mathlib.Core.Path.{ap, ◌∙◌}
use lib.ListN.{length, length-set}
use Rattle.type_commands.specs.Types.{type_written}
use Rattle.type_commands.proofs.Reading.{type_told}
use Rattle.type_commands.proofs.Storing.{type_put}
use Rattle.type_commands.proofs.put_type.Goals as goal

pub bounds-cs-0 : goal.bounds-cs-0
bounds-cs-0 c = (type_told _ c.requires.2).filled

pub kind_begun-requires : goal.kind_begun-requires
kind_begun-requires c = tt

pub put_operands-requires : goal.put_operands-requires
put_operands-requires c =
    (ap length c.set_kind.ensures ∙ simp length-set c.requires.0, c.requires.1, c.requires.2, c.requires.3)

pub returns : goal.returns
returns c =
    type_put (type_written c.args.cs.now) c.requires.0 c.requires.1 (type_told _ c.requires.2) c.requires.3 c.kind_begun.ensures c.set_kind.ensures c.put_operands.ensures
