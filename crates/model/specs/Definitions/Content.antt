-- 01 "Three kinds of document", Tree: the content of an element, in first_child, next-sibling form, and its bytes.
--
-- One inductive type serves for elements and for lists of siblings, and matches the bytes one to one: a text without
-- characters, an empty element and a list without items are the same value, as they are the same bytes.
use Rattle.std.specs.Prelude.{Bool, true, false, ◌&&◌, List, [], ◌∷◌, ◌++◌, ℕ, suc, ◌+◌, max, eqb}
use Rattle.model.specs.Definitions.Commands.{TreeCommand, opens, character, closes, tree_end, alien_t, tree_commands}

-- nothing more; a character and what follows it; an element of a type, what it holds, and what follows it
pub data Content : Type 0 where
  end : Content
  char : ℕ → Content → Content
  elem : ℕ → Content → Content → Content

-- 30 t opens an element of type t, 31 c is a character, 32 closes the innermost open element
unfoldable pub bytes : Content → List ℕ
bytes end = []
bytes (char c r) = 0x31 ∷ c ∷ bytes r
bytes (elem t k r) = 0x30 ∷ t ∷ (bytes k ++ 0x32 ∷ bytes r)

-- the tree document whose root element has type t and holds k; 3F ends it
unfoldable pub document : ℕ → Content → List ℕ
document t k = bytes (elem t k end) ++ (0x3F ∷ [])

-- levels: the elements of an element's content stand one level below it
unfoldable pub levels : Content → ℕ
levels end = 0
levels (char c r) = levels r
levels (elem t k r) = max (suc (levels k)) (levels r)

-- number of elements
unfoldable pub elements : Content → ℕ
elements end = 0
elements (char c r) = elements r
elements (elem t k r) = suc (elements k + elements r)

-- whether two contents are the same
unfoldable pub same : Content → Content → Bool
same end end = true
same end (char d s) = false
same end (elem u l s) = false
same (char c r) end = false
same (char c r) (char d s) = eqb c d && same r s
same (char c r) (elem u l s) = false
same (elem t k r) end = false
same (elem t k r) (char d s) = false
same (elem t k r) (elem u l s) = eqb t u && same k l && same r s

-- ---- the content that commands write

-- What the commands from some place on say, as a stack: the rest of the innermost element open there, then the
-- rest of the one around it, and so on. One command more in front:
unfoldable pub with_tree_command : TreeCommand → List Content → List Content
with_tree_command (opens t) [] = []
with_tree_command (opens t) (k ∷ []) = k ∷ []
with_tree_command (opens t) (k ∷ r ∷ around) = elem t k r ∷ around
with_tree_command (character c) [] = []
with_tree_command (character c) (r ∷ around) = char c r ∷ around
with_tree_command closes around = end ∷ around
with_tree_command tree_end around = end ∷ around
with_tree_command alien_t around = around

unfoldable pub contents : List TreeCommand → List Content
contents [] = []
contents (c ∷ cs) = with_tree_command c (contents cs)

-- what stands first on the stack
unfoldable pub top_of : List Content → Content
top_of [] = end
top_of (k ∷ around) = k

-- what the root element holds
unfoldable pub inside_of : Content → Content
inside_of end = end
inside_of (char c r) = end
inside_of (elem t k r) = k

-- the content of a document's root element; it matters only where the document's form is right
unfoldable pub content_of : List ℕ → Content
content_of bs = inside_of (top_of (contents (tree_commands bs)))
