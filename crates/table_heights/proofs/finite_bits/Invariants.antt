-- `finite_bits` meets its contract: the bits of the types below t are set as their heights say.
use mathlib.Core.Path.{◌≡◌}
use lib.ListN.{take}
use Rattle.loaded_table.specs.Loaded.{heights_of}
use Rattle.table_heights.specs.Heights.{word, finite_bits}
use Rattle.table_heights.proofs.finite_bits.Given as goal

abbrev pub invariant-loop-t : goal.invariant-loop-t
invariant-loop-t l = l.bits ≡ word (finite_bits l.all (take l.t (heights_of l.table)))
