-- Templates: what the image of a source element holds, prepared once for each source type (and each member of a choice) as a
-- row of symbols with holes where the images of its children go. 01 "The image and the filler"; 000 section 4.2. Nothing new
-- is said about paths here: a template is what `place` makes of holes along the paths of a source type's edges, by one more
-- `Builder`.
use Rattle.std.specs.Prelude.{Bool, true, false, List, [], ◌∷◌, ◌++◌, ℕ, zero, suc, ◌+◌, ◌-◌, max, length, get_or}
use Rattle.std.proofs.Math.Option.{Option, none, some}
use Rattle.model.specs.Definitions.Table.{Kind, text, empty, sequence, choice, list, Table, kind_of}
use Rattle.model.specs.Definitions.Content.{Content, end, char, elem, bytes}
use Rattle.model.specs.Definitions.Embedding.{target_of, paths_of, first_path, divide, Divided, before_choice}
use Rattle.model.specs.Definitions.Heights.{height_of}
use Rattle.model.specs.Definitions.Filler.{Builder, content, known, fillers, filler_length}
use Rattle.model.specs.Definitions.Image.{Setting, Placement, placed, place, Child, letter, element, letters_of, path_of_member}

-- ---- the image of one element, from what stands in its holes

-- a hole: the characters of a text (of an optional choice that holds nothing there are none), the image of child number i, the
-- items of a list
pub data Hole : Type 0 where
  characters : Hole
  child : ℕ → Hole
  items : Hole

-- what stands along some paths, the first path's first
unfoldable pub holes_along : {A : Type 0} → (ℕ → A) → List (List ℕ) → List (Placement A)
holes_along held [] = []
holes_along held (p ∷ ps) = placed p (held 0) ∷ holes_along (λ i. held (suc i)) ps

-- The hole of a choice: its one member, of type t, at the end of that member's path; where it has none, the characters, of which
-- there are none, at the end of the steps that all paths share.
unfoldable pub choice_hole : {A : Type 0} → (Hole → A) → List ℕ → List ℕ → List (List ℕ) → Option ℕ → Placement A
choice_hole held shared ms ps none = placed shared (held characters)
choice_hole held shared ms ps (some t) = placed (path_of_member t ms ps) (held (child 0))

-- The holes of a source element of kind κ whose first child, if it has one, has type t: the characters of a text, each member of a
-- sequence, the hole of a choice, and the items of a list, in the first list on the path.
unfoldable pub holes_of : {A : Type 0} → (Hole → A) → Table → Kind → ℕ → List (List ℕ) → Option ℕ → List (Placement A)
holes_of held T text τ ps t = placed (first_path ps) (held characters) ∷ []
holes_of held T empty τ ps t = []
holes_of held T (sequence ms) τ ps t = holes_along (λ i. held (child i)) ps
holes_of held T (choice need ms) τ ps t = choice_hole held (before_choice T τ (first_path ps)) ms ps t ∷ []
holes_of held T (list m) τ ps t = placed (divide T τ (first_path ps)).before (held items) ∷ []

-- what the image of a source element of type s holds, given what stands in its holes; t is the type of its first child, if it has one
unfoldable pub template_by : {A : Type 0} → Builder A → (Hole → A) → Setting → ℕ → Option ℕ → A
template_by B held X s t =
    place B X.target (fillers B X.target) (target_of X.embedding s)
    (holes_of held X.target (kind_of X.source s) (target_of X.embedding s) (paths_of X.embedding s) t)

-- the path of a source list, divided at the first list on it
unfoldable pub divided_of : Setting → ℕ → Divided
divided_of X s = divide X.target (target_of X.embedding s) (first_path (paths_of X.embedding s))

-- one target item of a source list of type s, given what the image of the source item holds, and the items after it
unfoldable pub item_by : {A : Type 0} → Builder A → Setting → ℕ → A → A → A
item_by B X s inner later =
    B.element true (divided_of X s).item
    (place B X.target (fillers B X.target) (divided_of X s).item (placed (divided_of X s).rest inner ∷ [])) later

-- ---- what stands in the holes, from the images of the children

-- child number i
unfoldable pub held_by_child : {A : Type 0} → Builder A → List (Child A) → ℕ → A
held_by_child B [] i = B.none
held_by_child B (letter c ∷ ks) i = held_by_child B ks i
held_by_child B (element t a ∷ ks) zero = a
held_by_child B (element t a ∷ ks) (suc i) = held_by_child B ks i

-- the type of the first child, if there is one: the member of a choice
unfoldable pub first_type : {A : Type 0} → List (Child A) → Option ℕ
first_type [] = none
first_type (letter c ∷ ks) = first_type ks
first_type (element t a ∷ ks) = some t

-- the items of a list, each by `item`
unfoldable pub items_by : {A : Type 0} → Builder A → (A → A → A) → List (Child A) → A
items_by B item [] = B.none
items_by B item (letter c ∷ ks) = items_by B item ks
items_by B item (element t a ∷ ks) = item a (items_by B item ks)

unfoldable pub in_holes : {A : Type 0} → Builder A → (A → A → A) → List (Child A) → Hole → A
in_holes B item ks characters = letters_of B ks
in_holes B item ks (child i) = held_by_child B ks i
in_holes B item ks items = items_by B item ks

-- ---- content with holes, and its row of symbols

-- content in which holes may stand in for what an element holds; `framed` is told whether a path builds the element
pub data Shape : Type 0 where
  bare : Shape
  lettered : ℕ → Shape → Shape
  gap : Hole → Shape
  framed : Bool → ℕ → Shape → Shape → Shape

unfoldable pub shaped : Builder Shape
shaped = record { none = bare; letter = lettered; element = framed }

-- The symbols of a row: an element that a path builds opens and closes; a filler element is one symbol, whatever it holds;
-- a hole is one symbol.
pub data Symbol : Type 0 where
  opening : ℕ → Symbol
  closing : Symbol
  filler : ℕ → Symbol
  hole : Hole → Symbol

unfoldable pub row_of : Shape → List Symbol
row_of bare = []
row_of (lettered c r) = row_of r
row_of (gap h) = hole h ∷ []
row_of (framed true t k r) = opening t ∷ (row_of k ++ closing ∷ row_of r)
row_of (framed false t k r) = filler t ∷ row_of r

-- the template of source type s; where s is a choice, that of its member of type t, or of none
unfoldable pub template : Setting → ℕ → Option ℕ → List Symbol
template X s t = row_of (template_by shaped gap X s t)

-- the template of an item of source list s: child 0 is the source item
unfoldable pub item_template : Setting → ℕ → List Symbol
item_template X s = row_of (item_by shaped X s (gap (child 0)) bare)

-- what filler of type t holds, as a row: one filler element for each of its members
unfoldable pub filler_row : Table → ℕ → List Symbol
filler_row T t = row_of (known shaped (fillers shaped T) t)

-- ---- what a row writes

-- the bytes of a filler element of type t
unfoldable pub filler_bytes : Table → ℕ → List ℕ
filler_bytes T t = 0x30 ∷ t ∷ (bytes (known content (fillers content T) t) ++ 0x32 ∷ [])

-- a row, with bytes for its holes and for filler
unfoldable pub filled_row : Table → (Hole → List ℕ) → List Symbol → List ℕ
filled_row T held [] = []
filled_row T held (opening t ∷ row) = 0x30 ∷ t ∷ filled_row T held row
filled_row T held (closing ∷ row) = 0x32 ∷ filled_row T held row
filled_row T held (filler t ∷ row) = filler_bytes T t ++ filled_row T held row
filled_row T held (hole h ∷ row) = held h ++ filled_row T held row

-- the bytes of content, part by part
unfoldable pub bytes_of : Builder (List ℕ)
bytes_of = record { none = []; letter = λ c r. 0x31 ∷ c ∷ r; element = λ built t k r. 0x30 ∷ t ∷ (k ++ 0x32 ∷ r) }

-- an item, and what comes after it
unfoldable pub written_item : Setting → ℕ → List ℕ → List ℕ → List ℕ
written_item X s inner later = filled_row X.target (λ h. inner) (item_template X s) ++ later

-- what the image of an element of type s holds, from its children
unfoldable pub written_element : Setting → ℕ → List (Child (List ℕ)) → List ℕ
written_element X s ks = filled_row X.target (in_holes bytes_of (written_item X s) ks) (template X s (first_type ks))

unfoldable pub written_children : Setting → Content → List (Child (List ℕ))
written_children X end = []
written_children X (char c r) = letter c ∷ written_children X r
written_children X (elem t k r) = element t (written_element X t (written_children X k)) ∷ written_children X r

-- the bytes of what the image of an element of type s that holds k holds
unfoldable pub writes : Setting → ℕ → Content → List ℕ
writes X s k = written_element X s (written_children X k)

-- ---- sizes of a row, with nothing in its holes

-- its bytes; `fill` is the length of a filler element
unfoldable pub row_length : (ℕ → ℕ) → List Symbol → ℕ
row_length fill [] = 0
row_length fill (opening t ∷ row) = 3 + row_length fill row
row_length fill (closing ∷ row) = row_length fill row
row_length fill (filler t ∷ row) = fill t + row_length fill row
row_length fill (hole h ∷ row) = row_length fill row

-- its levels, d elements being open; `height` is the height of a filler element
unfoldable pub row_levels : (ℕ → ℕ) → ℕ → List Symbol → ℕ
row_levels height d [] = 0
row_levels height d (opening t ∷ row) = max (suc d) (row_levels height (suc d) row)
row_levels height d (closing ∷ row) = row_levels height (d - 1) row
row_levels height d (filler t ∷ row) = max (d + height t) (row_levels height d row)
row_levels height d (hole h ∷ row) = row_levels height d row

-- the bytes of its filler elements
unfoldable pub row_filler : (ℕ → ℕ) → List Symbol → ℕ
row_filler fill [] = 0
row_filler fill (opening t ∷ row) = row_filler fill row
row_filler fill (closing ∷ row) = row_filler fill row
row_filler fill (filler t ∷ row) = fill t + row_filler fill row
row_filler fill (hole h ∷ row) = row_filler fill row

-- ---- sums over a source document

-- the type of the first element of some content, if there is one: the member of a choice
unfoldable pub first_in : Content → Option ℕ
first_in end = none
first_in (char c r) = first_in r
first_in (elem t k r) = some t

-- the steps that lead to the image of child number i, of type t, of an element of kind κ whose edges have the paths ps
unfoldable pub depth_of : Kind → List (List ℕ) → ℕ → ℕ → ℕ
depth_of text ps i t = 0
depth_of empty ps i t = 0
depth_of (sequence ms) ps i t = length (get_or ps i [])
depth_of (choice need ms) ps i t = length (path_of_member t ms ps)
depth_of (list m) ps i t = length (first_path ps)

-- what stands around each item of a list; nothing where the kind is no list
unfoldable pub around : Kind → ℕ → ℕ
around text n = 0
around empty n = 0
around (sequence ms) n = 0
around (choice need ms) n = 0
around (list m) n = n

-- the bytes of the row of an element of type s whose first child, if it has one, has type t, of its filler, and of an item's row
unfoldable pub own_length : Setting → ℕ → Option ℕ → ℕ
own_length X s t = row_length (filler_length X.target) (template X s t)

unfoldable pub own_filler : Setting → ℕ → Option ℕ → ℕ
own_filler X s t = row_filler (filler_length X.target) (template X s t)

unfoldable pub item_length : Setting → ℕ → ℕ
item_length X s = row_length (filler_length X.target) (item_template X s)

unfoldable pub item_filler : Setting → ℕ → ℕ
item_filler X s = row_filler (filler_length X.target) (item_template X s)

-- the levels of these rows; an item's row stands below the list
unfoldable pub own_levels : Setting → ℕ → Option ℕ → ℕ
own_levels X s t = row_levels (height_of X.target) 0 (template X s t)

unfoldable pub item_levels : Setting → ℕ → ℕ
item_levels X s = row_levels (height_of X.target) (length (divided_of X s).before) (item_template X s)

-- What the content of an element of type s adds: 2 bytes a character; for each child its row and what its content adds, and
-- for an item of a list what stands around it.
unfoldable pub sum_length : Setting → ℕ → Content → ℕ
sum_length X s end = 0
sum_length X s (char c r) = 2 + sum_length X s r
sum_length X s (elem t k r) =
    around (kind_of X.source s) (item_length X s) + (own_length X t (first_in k) + sum_length X t k) + sum_length X s r

unfoldable pub sum_filler : Setting → ℕ → Content → ℕ
sum_filler X s end = 0
sum_filler X s (char c r) = sum_filler X s r
sum_filler X s (elem t k r) =
    around (kind_of X.source s) (item_filler X s) + (own_filler X t (first_in k) + sum_filler X t k) + sum_filler X s r

-- The deepest of its children from child number i on, each below the steps that lead to its image.
unfoldable pub deepest : Setting → ℕ → ℕ → Content → ℕ
deepest X s i end = 0
deepest X s i (char c r) = deepest X s i r
deepest X s i (elem t k r) =
    max (around (kind_of X.source s) (item_levels X s))
    (max (depth_of (kind_of X.source s) (paths_of X.embedding s) i t + max (own_levels X t (first_in k)) (deepest X t 0 k)) (deepest X s (suc i) r))

-- ---- what is in the holes, on content

-- what a function makes of element number i of some content, from its type and what it holds
unfoldable pub at_child : {A : Type 0} → A → (ℕ → Content → A) → Content → ℕ → A
at_child absent f end i = absent
at_child absent f (char c r) i = at_child absent f r i
at_child absent f (elem t k r) zero = f t k
at_child absent f (elem t k r) (suc i) = at_child absent f r i

-- what it makes of all of them, one after the other
unfoldable pub over_children : (ℕ → Content → List ℕ) → Content → List ℕ
over_children f end = []
over_children f (char c r) = over_children f r
over_children f (elem t k r) = f t k ++ over_children f r

-- the characters of some content
unfoldable pub characters_of : Content → List ℕ
characters_of end = []
characters_of (char c r) = 0x31 ∷ c ∷ characters_of r
characters_of (elem t k r) = characters_of r

-- what the holes hold for an element of type s that holds k; also for an item's row, k then beginning with the item
unfoldable pub held_by : Setting → ℕ → Content → Hole → List ℕ
held_by X s k characters = characters_of k
held_by X s k (child i) = at_child [] (writes X) k i
held_by X s k items = over_children (λ t l. filled_row X.target (λ h. writes X t l) (item_template X s)) k
