-- `from` meets its contract: two numbers that were accepted, or a refusal.
use Rattle.answer_numbers.proofs.AnswerFromResultWrittenRefusal.from.Goals as goal

pub returns-in-Ok : goal.returns-in-Ok
returns-in-Ok c = rw c.in-Ok.is c.accepting.ensures

pub returns-in-Err : goal.returns-in-Err
returns-in-Err c = rw c.in-Err.is c.from.ensures
