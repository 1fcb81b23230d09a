-- `put_answer` meets its contract: both numbers are bytes, and its two stores are the run of stores of the two.
use borrow.Author.Rules.{rules}
use Rattle.extending.proofs.Reporting.{TwoBytes, two_bytes, answer-written}
use Rattle.extending.proofs.put_answer.Goals as goal
use Rattle.extending.proofs.put_answer.Goals.{After-from-a}

-- the answer's two bytes
two : (c : After-from-a) → TwoBytes c.args.e c.from-a.result.refusal c.from-a.result.value
two c = two_bytes _ _ c.requires.1 c.from-a.ensures

pub overflow_cast-answers : goal.overflow_cast-answers
overflow_cast-answers c = search (rules, (two (goal.at.overflow_cast-answers c).After-from-a).low_refusal)

pub overflow_cast-answers-2 : goal.overflow_cast-answers-2
overflow_cast-answers-2 c = search (rules, (two (goal.at.overflow_cast-answers-2 c).After-from-a).low_value)

pub returns : goal.returns
returns c = answer-written _ _ _ _ _ (two (goal.at.returns c).After-from-a)
