-- `judge` meets its contract: by what each of the three judges answers.
use Rattle.setting_judge.proofs.Judging.{source_refused, target_refused, judgeable, embedding-refused, all-stand}
use Rattle.setting_judge.proofs.judge.Goals as goal

pub returns-in-Err : goal.returns-in-Err
returns-in-Err c = source_refused _ _ _ c.judge.ensures c.in-Err.is

pub returns-in-Err-judge : goal.returns-in-Err-judge
returns-in-Err-judge c =
    target_refused _ _ _ c.judge.ensures c.in_default.is c.judge-2.ensures c.in-Err-judge.is

pub judge-requires-3-clause-judgeable : goal.judge-requires-3-clause-judgeable
judge-requires-3-clause-judgeable c = judgeable c.judge.ensures c.in_default.is c.judge-2.ensures c.in_default-judge.is

pub returns-in-Err-judge-2 : goal.returns-in-Err-judge-2
returns-in-Err-judge-2 c =
    embedding-refused c.judge.ensures c.in_default.is c.judge-2.ensures c.in_default-judge.is
    c.judge-3.ensures c.in-Err-judge-2.is

pub returns : goal.returns
returns c =
    all-stand c.judge.ensures c.in_default.is c.judge-2.ensures c.in_default-judge.is
    c.judge-3.ensures c.in_default-judge-2.is
