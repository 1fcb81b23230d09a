-- `put_hex` meets its contract: the bytes so far are written.
use Prim.Native.Nat.{◌+◌, ◌*◌}
use lib.ListN.{take}
use Rattle.writing.specs.Writing.{Writes}
use Rattle.case_text.specs.Hexadecimal.{hex_text}
use Rattle.case_text.proofs.hexadecimal.put_hex.Given as goal

abbrev pub invariant-loop-i : goal.invariant-loop-i
invariant-loop-i l = Writes l.initial.line l.line l.at (hex_text (take l.i l.bytes)) (l.at + 2 * l.i)
