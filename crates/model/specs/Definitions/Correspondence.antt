-- 02, N14: the addresses of a document's elements, and where in the image a source element stands: at the end of the path that leads
-- to it, the root at the root. Both by the row of child numbers that leads to an element, and by offsets in the documents' bytes.
use Rattle.std.specs.Prelude.{◌≡◌, List, [], ◌∷◌, ◌++◌, map, ℕ, zero, suc, ◌+◌, ◌-◌, get_or}
use Rattle.std.proofs.Math.Option.{Option, none, some}
use Rattle.model.specs.Definitions.Table.{Kind, text, empty, sequence, choice, list, Table, kind_of}
use Rattle.model.specs.Definitions.Content.{Content, end, char, elem}
use Rattle.model.specs.Definitions.Embedding.{target_of, paths_of, first_path, next, Divided, divide}
use Rattle.model.specs.Definitions.Filler.{content, fillers}
use Rattle.model.specs.Definitions.Image.{Setting, path_of_member, image_of_element, children, image}
use Rattle.model.specs.Definitions.Templates.{at_child}
use Rattle.model.specs.Definitions.Inverse.{bytes_before}
use Rattle.model.specs.Definitions.Unreadable.{Opens}

-- ---- addresses

-- an element: its type, and what it holds
pub record Element : Type 0 where
  pub type : ℕ
  pub holds : Content

abbrev pub element_with : ℕ → Content → Element
element_with t k = record { type = t; holds = k }

-- An address is a row of child numbers, counted from 0. Here it leads on from an element of type t that holds k, whose own address has
-- no numbers, to the element that stands there, if there is one.
unfoldable pub element_at : ℕ → Content → List ℕ → Option Element
element_at t k [] = some (element_with t k)
element_at t k (i ∷ address) = at_child none (λ u l. element_at u l address) k i

-- an address that begins among the children behind the first
unfoldable pub behind_first : List ℕ → List ℕ
behind_first [] = []
behind_first (i ∷ address) = suc i ∷ address

-- the addresses of all elements of some content, in document order
unfoldable pub addresses_in : Content → List (List ℕ)
addresses_in end = []
addresses_in (char c r) = addresses_in r
addresses_in (elem t k r) = map (λ (a : List ℕ). zero ∷ a) ([] ∷ addresses_in k) ++ map behind_first (addresses_in r)

-- those of all elements of a document whose root holds k
unfoldable pub addresses : Content → List (List ℕ)
addresses k = [] ∷ addresses_in k

-- ---- where a source element stands

-- The number of the child that step p leads to, in an image, from an element of kind κ: of a sequence it is member p, counted from 1; a
-- choice has one child; of a list that stands for one item it is the first.
unfoldable pub child_number : Kind → ℕ → ℕ
child_number text p = 0
child_number empty p = 0
child_number (sequence ms) p = p - 1
child_number (choice need ms) p = 0
child_number (list m) p = 0

-- the child numbers of a path, from target type τ
unfoldable pub child_numbers : Table → ℕ → List ℕ → List ℕ
child_numbers T τ [] = []
child_numbers T τ (p ∷ ps) = child_number (kind_of T τ) p ∷ child_numbers T (next T τ p) ps

-- those to item number i of the first list that a path leaves, and on along the rest
unfoldable pub item_numbers : Table → ℕ → Divided → ℕ → List ℕ
item_numbers T τ d i = child_numbers T τ d.before ++ i ∷ child_numbers T d.item d.rest

-- From the image of a source element of kind κ, which has type τ, to that of its child number i, of type t: along the path of member i
-- of a sequence, of the member of type t of a choice, and of a list through item i of the list that takes the items.
unfoldable pub towards_child : Table → Kind → ℕ → List (List ℕ) → ℕ → ℕ → List ℕ
towards_child T text τ pss i t = []
towards_child T empty τ pss i t = []
towards_child T (sequence ms) τ pss i t = child_numbers T τ (get_or pss i [])
towards_child T (choice need ms) τ pss i t = child_numbers T τ (path_of_member t ms pss)
towards_child T (list m) τ pss i t = item_numbers T τ (divide T τ (first_path pss)) i

-- where the source element at an address stands, below an element of type s that holds k and the element that this one stands at
unfoldable pub stands_at : Setting → ℕ → Content → List ℕ → List ℕ
stands_at X s k [] = []
stands_at X s k (i ∷ address) =
    at_child [] (λ t l. towards_child X.target (kind_of X.source s) (target_of X.embedding s) (paths_of X.embedding s) i t ++ stands_at X t l address) k i

-- what the element that it stands at holds: the image of what a source element of type s holds, k
unfoldable pub image_inside : Setting → ℕ → Content → Content
image_inside X s k =
    let fs = fillers content X.target in
    image_of_element content X fs s (children content X fs k)

-- ---- offsets

-- The offset of the element at an address, counted from the 30 of the element that holds k: what an element holds begins 2 bytes
-- behind its 30.
unfoldable pub offset_at : Content → List ℕ → ℕ
offset_at k [] = 0
offset_at k (i ∷ address) = 2 + bytes_before k (suc i) + at_child 0 (λ t l. offset_at l address) k i

-- the type of the element at an address
unfoldable pub type_at : ℕ → Content → List ℕ → ℕ
type_at t k [] = t
type_at t k (i ∷ address) = at_child 0 (λ u l. type_at u l address) k i

-- an element of type t is at this offset of a document
abbrev pub OpensAs : List ℕ → ℕ → ℕ → Type 0
OpensAs doc at t = (k : Content) × (o : Opens doc at k) × (o.type ≡ t)

-- a source element: its type, its offset in the source document, and in the image the offset of the element that it stands at
pub record Correspondence : Type 0 where
  pub type : ℕ
  pub offset : ℕ
  pub image_offset : ℕ

unfoldable pub correspondence : Setting → Content → List ℕ → Correspondence
correspondence X k a = record { type = type_at 0 k a; offset = offset_at k a; image_offset = offset_at (image X k) (stands_at X 0 k a) }

-- all source elements of a document whose root holds k, in document order
unfoldable pub correspondences : Setting → Content → List Correspondence
correspondences X k = map (correspondence X k) (addresses k)
