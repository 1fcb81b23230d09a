-- Measuring the image of source content by the sizes of prepared templates: what the functions need, and what they give.
use Rattle.std.specs.Prelude.{◌≡◌, List, ℕ, ◌+◌, ◌*◌, ◌≤◌, ◌<◌, min, max}
use Rattle.std.proofs.Math.Option.{Option, none, some}
use Rattle.model.specs.Definitions.Table.{Kind, text, empty, sequence, choice, list, kind_of}
use Rattle.model.specs.Definitions.Content.{Content, end, char, elem, content_of, document}
use Rattle.model.specs.Definitions.Conformance.{Holds}
use Rattle.model.specs.Definitions.Image.{Setting, image_levels, image_length, image_filler}
use Rattle.model.specs.Definitions.Templates.{first_in, own_length, own_filler, own_levels, sum_length, sum_filler, deepest}
use Rattle.model.proofs.Theorems.Facts.{WellFormed}
use Rattle.loaded_table.specs.Loaded.{Bounded, table_by, types_in}
use Rattle.loaded_setting.specs.Ready.{setting_in, Ready}
use Rattle.scanning.specs.Scanning.{ContentAt}
use Rattle.rows.specs.Rows.{row_index, Sizes}

-- the number of the edge of child number i, of type t: a sequence has one for each child, a choice one for each member
unfoldable pub edge_number : Kind → ℕ → ℕ → ℕ
edge_number text i t = 0
edge_number empty i t = 0
edge_number (sequence ms) i t = i
edge_number (choice need ms) i t = row_index (choice need ms) (some t)
edge_number (list m) i t = 0

-- the type of the element that content begins with, if it begins with one
unfoldable pub type_ahead : Content → Option ℕ
type_ahead end = none
type_ahead (char c r) = none
type_ahead (elem t k r) = some t

-- each of three numbers is at most 60,001
pub record Held (levels bytes fill : ℕ) : Type 0 where
  pub levels_held : levels ≤ 60001
  pub bytes_held : bytes ≤ 60001
  pub filler_held : fill ≤ 60001

-- the sizes of a setting's templates are at hand, and what an element of source type s holds begins at offset `from`
pub record Given (source map sizes tr : List ℕ) (s from : ℕ) : Type 0 where
  pub target : List ℕ
  pub em : List ℕ
  pub sized : Sizes (setting_in source target map em) sizes
  pub well_formed : WellFormed (table_by source)
  pub bounded : Bounded source
  pub exists : s < types_in source
  pub held : Content
  pub there : ContentAt tr from held
  pub holds : Holds (table_by source) (kind_of (table_by source) s) held

-- the size of what the image of an element of type s that holds k holds, each number held at 60,001
pub record Measured (X : Setting) (s : ℕ) (k : Content) (levels bytes fill : ℕ) : Type 0 where
  pub levels_are : levels ≡ min 60001 (max (own_levels X s (first_in k)) (deepest X s 0 k))
  pub bytes_are : bytes ≡ min 60001 (own_length X s (first_in k) + sum_length X s k)
  pub filler_is : fill ≡ min 60001 (own_filler X s (first_in k) + sum_filler X s k)

-- an accepted setting with the sizes of its templates, and a conforming document
pub record Measurable (source map sizes tr : List ℕ) : Type 0 where
  pub target : List ℕ
  pub em : List ℕ
  pub ready : Ready source target map em
  pub sized : Sizes (setting_in source target map em) sizes
  pub is_document : tr ≡ document 0 (content_of tr)
  pub holds : Holds (table_by source) (kind_of (table_by source) 0) (content_of tr)

-- levels, bytes and bytes of filler of the image of a document whose root holds k, each held at 60,001; each filler element
-- adds 3 bytes, its 30, its type and its 32
pub record ImageSize (X : Setting) (k : Content) (levels bytes fill : ℕ) : Type 0 where
  pub levels_are : levels ≡ min 60001 (image_levels X k)
  pub bytes_are : bytes ≡ min 60001 (image_length X k)
  pub filler_is : fill ≡ min 60001 (3 * image_filler X k)
