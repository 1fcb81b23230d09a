-- Counting the elements that paths build by prepared rows: what the functions need, and what they give.
use Rattle.std.specs.Prelude.{◌≡◌, List, ℕ, ◌+◌, ◌<◌, min}
use Rattle.model.specs.Definitions.Table.{kind_of}
use Rattle.model.specs.Definitions.Content.{Content, content_of, document}
use Rattle.model.specs.Definitions.Conformance.{Holds}
use Rattle.model.specs.Definitions.Image.{Setting}
use Rattle.model.specs.Definitions.Templates.{first_in}
use Rattle.model.proofs.Theorems.Facts.{WellFormed}
use Rattle.model.proofs.Theorems.BuiltElements.{own_built, sum_built}
use Rattle.loaded_table.specs.Loaded.{Bounded, table_by, types_in}
use Rattle.loaded_setting.specs.Ready.{setting_in, Ready}
use Rattle.scanning.specs.Scanning.{ContentAt}
use Rattle.rows.specs.Rows.{Rows}

-- the rows of a setting are at hand, and what an element of source type s holds begins at offset `from`
pub record Given (source pool places tr : List ℕ) (s from : ℕ) : Type 0 where
  pub target : List ℕ
  pub map : List ℕ
  pub em : List ℕ
  pub rows : Rows (setting_in source target map em) pool places
  pub well_formed : WellFormed (table_by source)
  pub bounded : Bounded source
  pub exists : s < types_in source
  pub held : Content
  pub there : ContentAt tr from held
  pub holds : Holds (table_by source) (kind_of (table_by source) s) held

-- paths build so many elements, held at 60,001, in what the image of an element of type s that holds k holds
abbrev pub Built : Setting → ℕ → Content → ℕ → Type 0
Built X s k count = count ≡ min 60001 (own_built X s (first_in k) + sum_built X s k)

-- an accepted setting with its rows, and a conforming document
pub record Countable (source pool places tr : List ℕ) : Type 0 where
  pub target : List ℕ
  pub map : List ℕ
  pub em : List ℕ
  pub ready : Ready source target map em
  pub rows : Rows (setting_in source target map em) pool places
  pub is_document : tr ≡ document 0 (content_of tr)
  pub holds : Holds (table_by source) (kind_of (table_by source) 0) (content_of tr)
