-- Calls of the entries: what is known of one by its documents, the output before and after it, and its answer. The contracts of the
-- entries say these predicates, and the theorems about the program (`Program.antt`) speak of calls of which they hold.
use Rattle.std.specs.Prelude.{◌≡◌, List, ℕ}
use Rattle.answer_numbers.specs.declared.Answer.{Answer}
use Rattle.answer_numbers.specs.declared.ExplanationNumbers.{ExplanationNumbers}
use Rattle.answer_numbers.specs.Numbers.{numbers, ten_numbers, Answers}
use Rattle.model.specs.Definitions.Explanation.{explain, explanation_numbers}
use Rattle.model.specs.Definitions.Extending.{extend}
use Rattle.model.specs.Definitions.Entries.{answer_of, judge_table, judge_embedding, judge_tree, carry, bring_back, read_along}

abbrev pub JudgeTableCall : List ℕ → Answer → Type 0
JudgeTableCall t a = numbers a ≡ answer_of (judge_table t)

abbrev pub JudgeEmbeddingCall : List ℕ → List ℕ → List ℕ → Answer → Type 0
JudgeEmbeddingCall s t e a = numbers a ≡ answer_of (judge_embedding s t e)

abbrev pub ExplainClashCall : List ℕ → List ℕ → List ℕ → ExplanationNumbers → Type 0
ExplainClashCall s t e n = ten_numbers n ≡ explanation_numbers (explain s t e)

abbrev pub JudgeTreeCall : List ℕ → List ℕ → Answer → Type 0
JudgeTreeCall t tr a = numbers a ≡ answer_of (judge_tree t tr)

abbrev pub ExtendTableCall : List ℕ → List ℕ → List ℕ → List ℕ → Answer → Type 0
ExtendTableCall t ops before after a = Answers (extend t ops before) after a

abbrev pub CarryCall : List ℕ → List ℕ → List ℕ → List ℕ → List ℕ → List ℕ → Answer → Type 0
CarryCall s t e tr before after a = Answers (carry s t e tr before) after a

abbrev pub BringBackCall : List ℕ → List ℕ → List ℕ → List ℕ → List ℕ → List ℕ → Answer → Type 0
BringBackCall s t e tr before after a = Answers (bring_back s t e tr before) after a

abbrev pub ReadAlongCall : List ℕ → List ℕ → List ℕ → List ℕ → List ℕ → List ℕ → Answer → Type 0
ReadAlongCall s t e tr before after a = Answers (read_along s t e tr before) after a
