-- What counting along a document needs, once the rows of a setting are prepared.
use mathlib.Core.Path.{◌≡◌}
use mathlib.Core.List.{List}
use Prim.Native.Nat.{ℕ, min}
use Rattle.model.specs.Definitions.Content.{content_of}
use Rattle.model.specs.Definitions.Image.{image_by}
use Rattle.model.proofs.Theorems.WithoutFiller.{built_of}
use Rattle.loaded_table.specs.Loaded.{table_by}
use Rattle.loaded_setting.specs.Ready.{setting_in, Ready}
use Rattle.loaded_setting.specs.Trees.{SoundTree}
use Rattle.rows.specs.Rows.{Rows}
use Rattle.path_elements.specs.PathElements.{Countable}

pub countable : {source target map em pool places tr : List ℕ} → Ready source target map em → SoundTree (table_by source) tr → Rows (setting_in source target map em) pool places
    → Countable source pool places tr
countable {target = target} {map} {em} ready tree rows =
    record { target = target; map = map; em = em; ready = ready; rows = rows; is_document = tree.form; holds = tree.holds }

-- what is promised of any such setting is promised of this one
pub counted : {source target map em pool places tr : List ℕ} → Ready source target map em → SoundTree (table_by source) tr → Rows (setting_in source target map em) pool places → {r : ℕ}
    → ((c : Countable source pool places tr) → r ≡ min 60001 (image_by built_of (setting_in source c.target c.map c.em) (content_of tr)))
    → r ≡ min 60001 (image_by built_of (setting_in source target map em) (content_of tr))
unfolding countable
counted ready tree rows promise = promise (countable ready tree rows)
