-- `put_operands` meets its contract. The invariant of its loop is `Stored` of Storing.antt for the first i members, the measure the number
-- of those left.
use Prim.Native.Nat.{◌-◌}
use Rattle.model.specs.Definitions.Table.{members_of}
use Rattle.type_commands.specs.Types.{type_written}
use Rattle.type_commands.proofs.Storing.{Stored}
use Rattle.type_commands.proofs.put_operands.Given as goal

abbrev pub invariant-loop-i : goal.invariant-loop-i
invariant-loop-i l = Stored l.t l.i (members_of (type_written l.cs)) l.initial.table l.table

abbrev pub decreases-loop-i : goal.decreases-loop-i
decreases-loop-i l = l.many - l.i
