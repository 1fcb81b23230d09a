-- What carrying a document needs and gives.
use Rattle.std.specs.Prelude.{◌≡◌, List, ℕ, Result}
use Rattle.answers.specs.declared.Refusal.{Refusal}
use Rattle.answers.specs.declared.Written.{Written}
use Rattle.answers.specs.Answers.{written_result}
use Rattle.loaded_table.specs.Loaded.{table_by}
use Rattle.loaded_setting.specs.Ready.{setting_in, Ready}
use Rattle.loaded_setting.specs.Trees.{SoundTree}
use Rattle.rows.specs.Rows.{Rows, Sizes}
use Rattle.model.specs.Definitions.Content.{content_of}
use Rattle.model.specs.Definitions.Image.{Setting}
use Rattle.model.specs.Definitions.Entries.{carry_content}

-- an accepted setting with its templates prepared and their sizes found, and an accepted source document
pub record Carriable (source map pool places sizes tr : List ℕ) : Type 0 where
  pub target : List ℕ
  pub em : List ℕ
  pub ready : Ready source target map em
  pub rows : Rows (setting_in source target map em) pool places
  pub sized : Sizes (setting_in source target map em) sizes
  pub tree : SoundTree (table_by source) tr

-- answer and output are the model's
pub record Carries (X : Setting) (tr old new : List ℕ) (r : Result Written Refusal) : Type 0 where
  pub same_answer : written_result r ≡ (carry_content old X (content_of tr)).result
  pub same_output : new ≡ (carry_content old X (content_of tr)).output
