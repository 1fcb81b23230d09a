-- `height_round` meets its contract: what is done of the round, continued by the types below t, is the whole round.
use Rattle.loaded_table.specs.Loaded.{heights_of, table_by}
use Rattle.table_heights.specs.Sections.{Elsewhere}
use Rattle.table_heights.proofs.Rounds.{Raising}
use Rattle.table_heights.proofs.height_round.Given as goal

abbrev pub invariant-loop-t : goal.invariant-loop-t
invariant-loop-t l = Elsewhere 128 64 l.initial.table l.table × Raising (table_by l.initial.table) (heights_of l.initial.table) l.t (heights_of l.table) l.changed

abbrev pub decreases-loop-t : goal.decreases-loop-t
decreases-loop-t l = l.t
