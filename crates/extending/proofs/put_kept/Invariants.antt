-- `put_kept` meets its contract: what is left to write gives the whole.
use Rattle.loaded_table.specs.Loaded.{table_by}
use Rattle.extending.proofs.Reporting.{Keeping}
use Rattle.extending.proofs.put_kept.Given as goal

abbrev pub invariant-loop-t : goal.invariant-loop-t
invariant-loop-t l = Keeping (table_by l.numbers) l.t-end l.initial.out l.out l.t l.at
