-- `tree_elements` meets its contract: by what judging the table answers, and then the tree.
use Rattle.judge_entries.proofs.Judging.{loaded_bounded, tree_table_faulty, tree_counted, tree_faulty}
use Rattle.judge_entries.proofs.tree_elements.Goals as goal

pub judge-requires-2 : goal.judge-requires-2
judge-requires-2 c = loaded_bounded c.in_default.ensures

pub returns-in-Err : goal.returns-in-Err
returns-in-Err c = tree_table_faulty _ c.in-Err.ensures

pub returns-in-Ok : goal.returns-in-Ok
returns-in-Ok c = tree_counted c.in_default.ensures _ _ c.in-Ok.ensures

pub returns-in-Err-judge : goal.returns-in-Err-judge
returns-in-Err-judge c = tree_faulty c.in_default.ensures _ _ c.in-Err-judge.ensures
