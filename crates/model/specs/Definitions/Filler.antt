-- 01 "The image and the filler", second paragraph; 000 section 4.2's default elements: what a target element that no
-- path reaches holds.
--
-- Images can have 16^63 elements, so what is made of an image is left open: its content itself, or only its levels,
-- its length or its number of filler elements. A `Builder` says how each is made from its parts, and filler and
-- images are defined once, for every builder.
use Rattle.std.specs.Prelude.{Bool, false, List, [], ◌∷◌, map, ℕ, zero, suc, ◌+◌, max, length, get_or}
use Rattle.model.specs.Definitions.Basics.{pick}
use Rattle.model.specs.Definitions.Commands.{needed, optional}
use Rattle.model.specs.Definitions.Table.{Kind, text, empty, sequence, choice, list, Table}
use Rattle.model.specs.Definitions.Heights.{heights, least_member}
use Rattle.model.specs.Definitions.Content.{Content, end, char, elem}

-- how something is made of content, part by part; `element` is told whether a path builds the element (or it is the
-- root), which is so for every element but filler
pub record Builder (A : Type 0) : Type 0 where
  pub none : A
  pub letter : ℕ → A → A
  pub element : Bool → ℕ → A → A → A

-- the content itself
unfoldable pub content : Builder Content
content = record { none = end; letter = char; element = λ built t k r. elem t k r }

-- its levels
unfoldable pub levels_of : Builder ℕ
levels_of = record { none = 0; letter = λ c r. r; element = λ built t k r. max (suc k) r }

-- its length in bytes: 2 for a character, 3 for an element
unfoldable pub length_of : Builder ℕ
length_of = record { none = 0; letter = λ c r. 2 + r; element = λ built t k r. 3 + k + r }

-- its number of filler elements
unfoldable pub fillers_of : Builder ℕ
fillers_of = record { none = 0; letter = λ c r. r; element = λ built t k r. pick built 0 1 + k + r }

-- ---- filler

-- what each type's filler holds, as far as it is known: nothing where it isn't
unfoldable pub known : {A : Type 0} → Builder A → List A → ℕ → A
known B fs t = get_or fs t B.none

-- all members of a sequence
unfoldable pub fill_members : {A : Type 0} → Builder A → List A → List ℕ → A
fill_members B fs [] = B.none
fill_members B fs (m ∷ ms) = B.element false m (known B fs m) (fill_members B fs ms)

-- an empty text, an empty list, nothing of an optional choice (02, N3), all members of a sequence, and of a choice the member of
-- least height, the earliest of equals; hs are the heights
unfoldable pub fill_kind : {A : Type 0} → Builder A → List ℕ → List A → Kind → A
fill_kind B hs fs text = B.none
fill_kind B hs fs empty = B.none
fill_kind B hs fs (sequence ms) = fill_members B fs ms
fill_kind B hs fs (choice needed ms) = fill_members B fs (least_member hs ms ∷ [])
fill_kind B hs fs (choice optional ms) = B.none
fill_kind B hs fs (list m) = B.none

-- the filler of all types by rounds: after n rounds that of each type whose height is at most n + 1
unfoldable pub fill_to : {A : Type 0} → Builder A → List ℕ → Table → ℕ → List A
fill_to B hs T zero = []
fill_to B hs T (suc n) = map (fill_kind B hs (fill_to B hs T n)) T

-- what filler of each type holds: heights are at most the number of types
unfoldable pub fillers : {A : Type 0} → Builder A → Table → List A
fillers B T = fill_to B (heights T) T (length T)

-- bytes of a filler element of a type
unfoldable pub filler_length : Table → ℕ → ℕ
filler_length T t = 3 + known length_of (fillers length_of T) t
