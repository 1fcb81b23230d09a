-- What reading a document along the paths needs and gives.
use Rattle.std.specs.Prelude.{◌≡◌, List, ℕ, ◌+◌, ◌≤◌, length, take, Result, Ok, Err}
use Rattle.answers.specs.declared.Refusal.{Refusal}
use Rattle.answers.specs.declared.Written.{Written}
use Rattle.answers.specs.Answers.{written_result}
use Rattle.model.specs.Definitions.Content.{content_of, elements}
use Rattle.model.specs.Definitions.Image.{Setting}
use Rattle.model.specs.Definitions.Inverse.{missing, reading}
use Rattle.model.specs.Definitions.Entries.{read_content}
use Rattle.loaded_setting.specs.Trees.{SoundTree}
use Rattle.inverse.specs.Sources.{ReadFrom}

-- what was read stands at the start of a buffer, or reading fails at an offset
abbrev pub SourceIn : Result ℕ ℕ → Setting → List ℕ → List ℕ → Type 0
SourceIn (Ok n) X tr buffer = (n ≤ length buffer) × ReadFrom X tr (take n buffer)
SourceIn (Err at) X tr buffer = reading X (content_of tr) ≡ missing at

-- a conforming target document, and its number of elements, the root included
pub record Counted (X : Setting) (tr : List ℕ) (count : ℕ) : Type 0 where
  pub tree : SoundTree X.target tr
  pub count_is : count ≡ 1 + elements (content_of tr)

-- answer and output are the model's
pub record Reads (X : Setting) (tr old new : List ℕ) (r : Result Written Refusal) : Type 0 where
  pub same_answer : written_result r ≡ (read_content old X (content_of tr) (reading X (content_of tr))).result
  pub same_output : new ≡ (read_content old X (content_of tr) (reading X (content_of tr))).output
