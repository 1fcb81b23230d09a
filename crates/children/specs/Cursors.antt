-- Which children of a source element are still to be read, by a cursor.
use Rattle.std.specs.Prelude.{◌≡◌, true, List, ℕ, ◌+◌, ◌-◌, ◌*◌, ◌≤◌, ◌<◌, length, take, drop, get_or, Option, Some, None, Result, Ok, Err}
use Rattle.std.proofs.Math.Option as model
use Rattle.model.specs.Definitions.Content.{Content}
use Rattle.model.specs.Definitions.Inverse.{Located, located, follow_at, Parts, done, broken, part, member_parts, choice_parts, item_parts, child_parts}
use Rattle.loaded_table.specs.Loaded.{types_in, kinds_of, counts_of, members_in, table_by, sequence_kind}
use Rattle.loaded_table.specs.Kinds.{choice_code}
use Rattle.loaded_embedding.specs.Loaded.{targets_of, steps_from}
use Rattle.paths.specs.Following.{Followable, paths_from}
use Rattle.scanning.specs.Scanning.{ContentAt}
use Rattle.scanning.specs.Spanning.{Spans}
use Rattle.loaded_setting.specs.Ready.{setting_in, Ready}
use Rattle.children.specs.declared.Image.{Image}
use Rattle.children.specs.declared.Rest.{Rest}
use Rattle.children.specs.declared.Cursor.{Cursor}
use Rattle.children.specs.declared.Cursor.TheVariants as cursor
use Rattle.children.specs.declared.Child.{Child}
use Rattle.children.specs.declared.Missing.{Missing}

-- an image of a source element of a known type, for an accepted setting, in the target document tr
pub record ImageThere (source target map em tr sp : List ℕ) (image : Image) : Type 0 where
  pub spans : Spans tr sp
  pub ready : Ready source target map em
  pub known_type : image.sigma < types_in source
  pub content : (k : Content) × ContentAt tr image.from k

-- ---- the children of an element of source type σ, for which the target element l stands

-- its members from edge i on, and their paths
abbrev pub members_left : List ℕ → ℕ → ℕ → List ℕ
members_left source σ i = take (get_or (counts_of source) σ 0 - i) (drop (σ * 16 + i) (members_in source))

abbrev pub paths_left : List ℕ → List ℕ → List ℕ → ℕ → ℕ → List (List ℕ)
paths_left source map em σ i = paths_from em map (σ * 16 + i) (get_or (counts_of source) σ 0 - i)

-- what stands at the end of a path from the image
abbrev pub along : List ℕ → List ℕ → ℕ → Located → List ℕ → model.Option Located
along target map σ l path = follow_at (table_by target) (get_or (targets_of map) σ 0) path l

-- of a sequence those from edge i on are left
pub record LeftEdges (source target map em : List ℕ) (σ : ℕ) (l : Located) (i : ℕ) (parts : Parts) : Type 0 where
  pub is_sequence_lem : get_or (kinds_of source) σ 0 ≡ sequence_kind
  pub high : i ≤ get_or (counts_of source) σ 0
  pub are : parts ≡ member_parts (along target map σ l) (members_left source σ i) (paths_left source map em σ i)

-- the member of a choice of either kind is left
pub record LeftChoice (source target map em : List ℕ) (σ : ℕ) (l : Located) (parts : Parts) : Type 0 where
  pub is_choice_lem : choice_code (get_or (kinds_of source) σ 0) ≡ true
  pub are : parts ≡ choice_parts (along target map σ l) (members_left source σ 0) (paths_left source map em σ 0)

-- the items of the target list from an offset on are left
pub record LeftItems (source target em tr : List ℕ) (r : Rest) (parts : Parts) : Type 0 where
  pub items : Content
  pub there : ContentAt tr r.at items
  pub child_type : r.child < types_in source
  pub followable : Followable target em r.start r.steps r.item
  pub are : parts ≡ item_parts (follow_at (table_by target) r.item (steps_from em (r.start + 2) r.steps)) r.child r.at items

-- a cursor tells which children are left
abbrev pub Shows : List ℕ → List ℕ → List ℕ → List ℕ → ℕ → List ℕ → Located → Cursor → Parts → Type 0
Shows source target map em σ tr l (cursor.Edges i) parts = LeftEdges source target map em σ l i parts
Shows source target map em σ tr l cursor.Choice parts = LeftChoice source target map em σ l parts
Shows source target map em σ tr l (cursor.Items r) parts = LeftItems source target em tr r parts
Shows source target map em σ tr l cursor.Last parts = parts ≡ done

-- at first all are left; or something is missing
abbrev pub ShowsAll : List ℕ → List ℕ → List ℕ → List ℕ → List ℕ → Image → Result Cursor Missing → Type 0
ShowsAll source target map em tr image (Ok c) =
    (k : Content) → ContentAt tr image.from k → Shows source target map em image.sigma tr (located image.from k) c (child_parts (setting_in source target map em) image.sigma (located image.from k))
ShowsAll source target map em tr image (Err e) =
    (k : Content) → ContentAt tr image.from k → child_parts (setting_in source target map em) image.sigma (located image.from k) ≡ broken

-- a number that falls with each child
abbrev pub cursor_weight : List ℕ → Cursor → ℕ
cursor_weight tr (cursor.Edges i) = 17 - i
cursor_weight tr cursor.Choice = 1
cursor_weight tr (cursor.Items r) = 1 + (length tr - r.at)
cursor_weight tr cursor.Last = 0

-- the next child: its source type m, where what it is read from begins, and the cursor after it
pub record GivesOne (source target map em : List ℕ) (σ : ℕ) (tr : List ℕ) (l : Located) (bound m o : ℕ) (then : Cursor) (parts : Parts) : Type 0 where
  pub inside : Content
  pub rest : Parts
  pub is : parts ≡ part m (located o inside) rest
  pub there : ContentAt tr o inside
  pub on : Shows source target map em σ tr l then rest
  pub less : cursor_weight tr then < bound
  pub is_type : m < types_in source

abbrev pub Gives : List ℕ → List ℕ → List ℕ → List ℕ → ℕ → List ℕ → Located → ℕ → Result (Option Child) Missing → Parts → Type 0
Gives source target map em σ tr l bound (Ok (Some child)) parts = GivesOne source target map em σ tr l bound child.image.sigma child.image.from child.then parts
Gives source target map em σ tr l bound (Ok None) parts = parts ≡ done
Gives source target map em σ tr l bound (Err e) parts = parts ≡ broken
