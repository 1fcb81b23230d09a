-- What carrying a document by rows needs.
use Rattle.std.specs.Prelude.{List, ℕ, Result}
use Rattle.answers.specs.declared.Refusal.{Refusal}
use Rattle.answers.specs.declared.Written.{Written}
use Rattle.loaded_table.specs.Loaded.{table_by}
use Rattle.loaded_setting.specs.Ready.{setting_in, Ready}
use Rattle.loaded_setting.specs.Trees.{SoundTree}
use Rattle.rows.specs.Rows.{Rows}
use Rattle.carry_prepared.specs.Carrying.{Carries}

-- an accepted setting with its templates prepared, and an accepted source document
pub record Sizable (source target map pool places tr : List ℕ) : Type 0 where
  pub em : List ℕ
  pub ready : Ready source target map em
  pub rows : Rows (setting_in source target map em) pool places
  pub tree : SoundTree (table_by source) tr

-- answer and output are the model's, whatever accepted embedding has these rows
abbrev pub CarriesByRows : List ℕ → List ℕ → List ℕ → List ℕ → List ℕ → List ℕ → List ℕ → List ℕ → Result Written Refusal → Type 0
CarriesByRows source target map pool places tr old new r = (g : Sizable source target map pool places tr) → Carries (setting_in source target map g.em) tr old new r
