-- `table_types` meets its contract: by what judging the table answers.
use Rattle.judge_entries.proofs.Judging.{table_faulty, table_counted}
use Rattle.judge_entries.proofs.table_types.Goals as goal

pub returns-in-Ok : goal.returns-in-Ok
returns-in-Ok c = table_counted c.in-Ok.ensures _ c.types.ensures.0

pub returns-in-Err : goal.returns-in-Err
returns-in-Err c = table_faulty c.in-Err.ensures
