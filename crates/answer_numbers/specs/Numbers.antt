-- The five numbers of an answer, as the model's.
use Rattle.std.specs.Prelude.{◌≡◌, refl, List, ℕ}
use Rattle.answer_numbers.specs.declared.Answer.{Answer}
use Rattle.answer_numbers.specs.declared.ExplanationNumbers.{ExplanationNumbers}
use Rattle.answers.specs.declared.Fault.{Fault}
use Rattle.answers.specs.Answers.{fault}
use Rattle.model.specs.Definitions.Refusals.{Document, document_number, faulty, fault_number, fault_mark, numbers_of}
use Rattle.model.specs.Definitions.Entries as model
use Rattle.model.specs.Definitions.Entries.{Outcome, answer_of, refused, untouched}
use Rattle.model.specs.Definitions.Explanation as explanations

abbrev pub numbers : Answer → model.Answer
numbers a = record { refusal = a.refusal; document = a.document; mark = a.mark; value = a.value; filler = a.filler }

-- the five numbers of a refusal
abbrev pub refusal_numbers : ℕ → ℕ → ℕ → model.Answer
refusal_numbers number document mark = record { refusal = number; document = document; mark = mark; value = 0; filler = 0 }

-- the answer for a fault of the document that has this number, whichever number that is
abbrev pub ForFault : Fault → ℕ → Answer → Type 0
ForFault f n a = numbers a ≡ refusal_numbers (fault_number (fault f)) n (fault_mark (fault f))

-- for 01's documents it is the model's answer
pub fault_answer : (d : Document) (f : Fault) (a : Answer) → ForFault f (document_number d) a → numbers a ≡ answer_of (refused (faulty d (fault f)))
unfolding answer_of numbers_of
fault_answer d f a answer = answer

-- answer and output are those of an outcome
pub record Answers (o : Outcome) (new : List ℕ) (a : Answer) : Type 0 where
  pub same_answer : numbers a ≡ answer_of o.result
  pub same_output : new ≡ o.output

-- an answer for a fault, and the output as it was
pub fault_answers : (out : List ℕ) (d : Document) (f : Fault) (a : Answer) → ForFault f (document_number d) a → Answers (untouched out (faulty d (fault f))) out a
unfolding untouched
fault_answers out d f a answer = record { same_answer = fault_answer d f a answer; same_output = refl }

-- ---- explaining a clash (02, N9)

-- the ten numbers of an explanation, as the model's
abbrev pub ten_numbers : ExplanationNumbers → explanations.ExplanationNumbers
ten_numbers n =
    record {
      answer = record { refusal = n.refusal; document = n.document; mark = n.mark; value = n.value; filler = n.filler };
      reason = n.reason;
      source_type = n.source;
      earlier = n.earlier;
      later = n.later;
      shared = n.shared;
    }

-- those where nothing is explained
abbrev pub unexplained_numbers : model.Answer → explanations.ExplanationNumbers
unexplained_numbers a = record { answer = a; reason = 0; source_type = 0; earlier = 0; later = 0; shared = 0 }
