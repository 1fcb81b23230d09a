-- 000 section 4.2, 01 "Refusal answers", 15, and 02, N4: reading a target document along the paths, and bringing back.
--
-- Reading follows only the paths. Where a path goes through a list that stands for one item, the first item is
-- followed; a choice reads as the first member whose path is there, and an optional choice as nothing where the optional
-- choice that its paths agree on is there and empty. Of each source element its own paths are followed first, and then its
-- children are read, so that reading fails at the first source element, in document order, whose paths can't be followed. So it
-- also reads documents that are no images; bringing back then asks that the given document is the image of what was read.
use Rattle.std.specs.Prelude.{Bool, true, false, ◌&&◌, List, [], ◌∷◌, ℕ, zero, suc, ◌+◌, ◌-◌, length, eqb}
use Rattle.std.proofs.Math.Option.{Option, none, some}
use Rattle.model.specs.Definitions.Basics.{pick, and_then}
use Rattle.model.specs.Definitions.Commands.{needed, optional}
use Rattle.model.specs.Definitions.Table.{Kind, text, empty, sequence, choice, list, Table, kind_of}
use Rattle.model.specs.Definitions.Content.{Content, end, char, elem, bytes, document, same}
use Rattle.model.specs.Definitions.Conformance.{conforms}
use Rattle.model.specs.Definitions.Embedding.{target_of, paths_of, first_path, next, divide, Divided, before_choice}
use Rattle.model.specs.Definitions.Image.{Setting, image}

-- ---- what stands at the end of a path

-- what the element at a position counted from 1 holds
unfoldable pub child_at : Content → ℕ → Option Content
child_at end p = none
child_at (char c r) p = none
child_at (elem t k r) zero = none
child_at (elem t k r) (suc zero) = some k
child_at (elem t k r) (suc (suc p)) = child_at r (suc p)

-- what the first element holds, if it has type t
unfoldable pub child_of_type : Content → ℕ → Option Content
child_of_type end t = none
child_of_type (char c r) t = none
child_of_type (elem u k r) t = pick (eqb t u) (some k) none

-- what the first item of a list holds
unfoldable pub first_item : Content → Option Content
first_item end = none
first_item (char c r) = none
first_item (elem t k r) = some k

-- one step p, to type τ: a sequence's child p, a choice's child if it is of the member's type, a list's first item
unfoldable pub enter : Kind → ℕ → ℕ → Content → Option Content
enter text p τ k = none
enter empty p τ k = none
enter (sequence ms) p τ k = child_at k p
enter (choice need ms) p τ k = child_of_type k τ
enter (list m) p τ k = first_item k

-- what the element at the end of a path holds, from an element of type τ that holds k
unfoldable pub follow : Table → ℕ → List ℕ → Content → Option Content
follow T τ [] k = some k
follow T τ (p ∷ ps) k = and_then (enter (kind_of T τ) p (next T τ p) k) (λ inside. follow T (next T τ p) ps inside)

-- ---- and where it stands

-- what an element of a document holds, and the offset at which that begins
pub record Located : Type 0 where
  pub at : ℕ
  pub holds : Content

abbrev pub located : ℕ → Content → Located
located at k = record { at = at; holds = k }

-- the offset of the element itself: its 30 and its type stand before what it holds
unfoldable pub opened_at : Located → ℕ
opened_at l = l.at - 2

-- the bytes of what stands before the element at a position counted from 1
unfoldable pub bytes_before : Content → ℕ → ℕ
bytes_before end p = 0
bytes_before (char c r) p = 2 + bytes_before r p
bytes_before (elem t k r) zero = 0
bytes_before (elem t k r) (suc zero) = 0
bytes_before (elem t k r) (suc (suc p)) = 3 + length (bytes k) + bytes_before r (suc p)

-- the bytes between the beginning of what an element holds and the element that step p leads to: only in a sequence there are some
unfoldable pub bytes_aside : Kind → ℕ → Content → ℕ
bytes_aside text p k = 0
bytes_aside empty p k = 0
bytes_aside (sequence ms) p k = bytes_before k p
bytes_aside (choice need ms) p k = 0
bytes_aside (list m) p k = 0

-- what was found begins at this offset
unfoldable pub found_at : ℕ → Option Content → Option Located
found_at at none = none
found_at at (some k) = some (located at k)

-- one step
unfoldable pub enter_at : Kind → ℕ → ℕ → Located → Option Located
enter_at κ p τ l = found_at (l.at + bytes_aside κ p l.holds + 2) (enter κ p τ l.holds)

-- a path
unfoldable pub follow_at : Table → ℕ → List ℕ → Located → Option Located
follow_at T τ [] l = some l
follow_at T τ (p ∷ ps) l = and_then (enter_at (kind_of T τ) p (next T τ p) l) (λ inside. follow_at T (next T τ p) ps inside)

-- ---- the children of a source element, by its own paths

-- no child more; a path can't be followed; a child of a source type, the target element that stands for it, and the children after it
pub data Parts : Type 0 where
  done : Parts
  broken : Parts
  part : ℕ → Located → Parts → Parts

-- whether all paths can be followed
unfoldable pub unbroken : Parts → Bool
unbroken done = true
unbroken broken = false
unbroken (part m l rest) = unbroken rest

-- a child that must be there, before the rest
unfoldable pub part_of : ℕ → Option Located → Parts → Parts
part_of m none rest = broken
part_of m (some l) rest = part m l rest

-- a child that is there, or the later ones
unfoldable pub if_there : ℕ → Option Located → Parts → Parts
if_there m none later = later
if_there m (some l) later = part m l done

-- the members of a sequence; `at` follows a path
unfoldable pub member_parts : (List ℕ → Option Located) → List ℕ → List (List ℕ) → Parts
member_parts at [] ps = done
member_parts at (m ∷ ms) [] = broken
member_parts at (m ∷ ms) (p ∷ ps) = part_of m (at p) (member_parts at ms ps)

-- the member of a choice: the first whose path is there
unfoldable pub choice_parts : (List ℕ → Option Located) → List ℕ → List (List ℕ) → Parts
choice_parts at [] ps = broken
choice_parts at (m ∷ ms) [] = broken
choice_parts at (m ∷ ms) (p ∷ ps) = if_there m (at p) (choice_parts at ms ps)

-- 02, N3: none where an empty element was found, else the member
unfoldable pub unless_empty : Content → Parts → Parts
unless_empty end member = done
unless_empty (char c r) member = member
unless_empty (elem t k r) member = member

unfoldable pub optional_parts : Option Located → Parts → Parts
optional_parts none member = member
optional_parts (some l) member = unless_empty l.holds member

-- an item for each item of the target list, whose items begin at an offset; `beyond` follows the rest of the path
unfoldable pub item_parts : (Located → Option Located) → ℕ → ℕ → Content → Parts
item_parts beyond m at end = done
item_parts beyond m at (char c r) = broken
item_parts beyond m at (elem t k r) = part_of m (beyond (located (at + 2) k)) (item_parts beyond m (at + 2 + length (bytes k) + 1) r)

-- the items of the list that a path leads to, if it is there
unfoldable pub list_parts : Table → Divided → ℕ → Option Located → Parts
list_parts T d m none = broken
list_parts T d m (some l) = item_parts (follow_at T d.item d.rest) m l.at l.holds

-- the children of a source element of a kind, whose image is of type τ; a text has characters instead
unfoldable pub kind_parts : Table → Kind → ℕ → List (List ℕ) → Located → Parts
kind_parts T text τ ps l = done
kind_parts T empty τ ps l = done
kind_parts T (sequence ms) τ ps l = member_parts (λ p. follow_at T τ p l) ms ps
kind_parts T (choice needed ms) τ ps l = choice_parts (λ p. follow_at T τ p l) ms ps
kind_parts T (choice optional ms) τ ps l = optional_parts (follow_at T τ (before_choice T τ (first_path ps)) l) (choice_parts (λ p. follow_at T τ p l) ms ps)
kind_parts T (list m) τ ps l = list_parts T (divide T τ (first_path ps)) m (follow_at T τ (divide T τ (first_path ps)).before l)

-- the children of a source element of type s
abbrev pub child_parts : Setting → ℕ → Located → Parts
child_parts X s l = kind_parts X.target (kind_of X.source s) (target_of X.embedding s) (paths_of X.embedding s) l

-- ---- reading

-- what a source element holds; or the first source element whose own paths can't be followed stands at this offset
pub data Reading : Type 0 where
  yields : Content → Reading
  missing : ℕ → Reading

-- an element of type m, before what is read after it
unfoldable pub with_rest : ℕ → Content → Reading → Reading
with_rest m k (yields r) = yields (elem m k r)
with_rest m k (missing at) = missing at

unfoldable pub with_element : ℕ → Reading → (Unit {0} → Reading) → Reading
with_element m (yields k) rest = with_rest m k (rest tt)
with_element m (missing at) rest = missing at

-- the children one after the other, each by `read`; a child that is missing ends it
unfoldable pub read_parts : (ℕ → Located → Reading) → ℕ → Parts → Reading
read_parts read own done = yields end
read_parts read own broken = missing own
read_parts read own (part m l rest) = with_element m (read m l) (λ u. read_parts read own rest)

-- all own paths first: where one can't be followed, no child is read; `own` is the offset of the element itself
unfoldable pub read_unbroken : (ℕ → Located → Reading) → ℕ → Parts → Bool → Reading
read_unbroken read own parts true = read_parts read own parts
read_unbroken read own parts false = missing own

-- the characters at the end of a text's path
unfoldable pub read_characters : ℕ → Option Located → Reading
read_characters own none = missing own
read_characters own (some l) = yields l.holds

-- a source element that is no text, by its children
unfoldable pub read_children : (ℕ → Located → Reading) → ℕ → Parts → Reading
read_children read own parts = read_unbroken read own parts (unbroken parts)

unfoldable pub read_kind : (ℕ → Located → Reading) → Table → Kind → ℕ → List (List ℕ) → Located → Reading
read_kind read T text τ ps l = read_characters (opened_at l) (follow_at T τ (first_path ps) l)
read_kind read T empty τ ps l = read_children read (opened_at l) (kind_parts T empty τ ps l)
read_kind read T (sequence ms) τ ps l = read_children read (opened_at l) (kind_parts T (sequence ms) τ ps l)
read_kind read T (choice need ms) τ ps l = read_children read (opened_at l) (kind_parts T (choice need ms) τ ps l)
read_kind read T (list m) τ ps l = read_children read (opened_at l) (kind_parts T (list m) τ ps l)

-- a source element of type s, read from the target element that stands for it; n is more than that one's levels
unfoldable pub read_to : Setting → ℕ → ℕ → Located → Reading
read_to X zero s l = missing (opened_at l)
read_to X (suc n) s l =
    read_kind (λ t inside. read_to X n t inside) X.target (kind_of X.source s) (target_of X.embedding s) (paths_of X.embedding s) l

-- ---- a document

-- what the source root holds, read from what the target root holds, which begins at offset 2; a document has more bytes than levels
unfoldable pub reading : Setting → Content → Reading
reading X k = read_to X (length (document 0 k)) 0 (located 2 k)

-- what was read, if all paths could be followed
unfoldable pub content_read : Reading → Option Content
content_read (yields k) = some k
content_read (missing at) = none

unfoldable pub read_back : Setting → Content → Option Content
read_back X k = content_read (reading X k)

unfoldable pub if_image : Setting → Content → Option Content → Option Content
if_image X k none = none
if_image X k (some inside) =
    pick (conforms X.source (kind_of X.source 0) inside && same (image X inside) k) (some inside) none

-- the conforming source document whose image this is, if there is one
unfoldable pub bring_back_content : Setting → Content → Option Content
bring_back_content X k = if_image X k (read_back X k)
