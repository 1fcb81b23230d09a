-- What bringing a document back needs and gives.
use Rattle.std.specs.Prelude.{◌≡◌, List, ℕ, Result}
use Rattle.answers.specs.declared.Refusal.{Refusal}
use Rattle.answers.specs.Answers.{counted_result}
use Rattle.model.specs.Definitions.Content.{content_of}
use Rattle.model.specs.Definitions.Image.{Setting}
use Rattle.model.specs.Definitions.Inverse.{bring_back_content}
use Rattle.model.specs.Definitions.Entries.{bring_content}

-- answer and output are the model's
pub record Brings (X : Setting) (tr old new : List ℕ) (r : Result ℕ Refusal) : Type 0 where
  pub same_answer : counted_result r ≡ (bring_content old (bring_back_content X (content_of tr))).result
  pub same_output : new ≡ (bring_content old (bring_back_content X (content_of tr))).output
