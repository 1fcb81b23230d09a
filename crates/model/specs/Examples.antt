-- Documents of examples that `Statements` and crate `starred_cases` compute.
use Rattle.std.specs.Prelude.{List, [], ◌∷◌, ℕ}
use Rattle.model.specs.Definitions.Content.{Content, end, elem}

-- ---- a choice whose paths go through lists before, between and behind its choice steps (02, N6; `docs/FORMATS.md`, "A module
-- inside lists")

-- a choice of two empty types, begun by 13 or 17
unfoldable pub choice_of_empty : ℕ → List ℕ
choice_of_empty byte = byte ∷ 0x15 ∷ 0x01 ∷ 0x15 ∷ 0x02 ∷ 0x11 ∷ 0x11 ∷ 0x1F ∷ []

-- type 0 a list of 1; 1 an optional choice of 2 and 3; 2 a list of 4; 3 empty; 4 a choice of 5 and 3; 5 a list of 6; 6 empty
unfoldable pub listed_table : List ℕ
listed_table =
    0x14 ∷ 0x01 ∷ 0x17 ∷ 0x15 ∷ 0x02 ∷ 0x15 ∷ 0x03 ∷ 0x14 ∷ 0x04 ∷ 0x11 ∷ 0x13 ∷ 0x15 ∷ 0x05 ∷ 0x15 ∷ 0x03 ∷ 0x14 ∷ 0x06 ∷ 0x11 ∷ 0x1F ∷ []

-- the first member by 1.1.1.1.1 to type 6, the second by 1.2 to type 3
unfoldable pub listed_embedding : List ℕ
listed_embedding =
    0x20 ∷ 0x00 ∷ 0x21 ∷ 0x22 ∷ 0x01 ∷ 0x22 ∷ 0x01 ∷ 0x22 ∷ 0x01 ∷ 0x22 ∷ 0x01 ∷ 0x22 ∷ 0x01 ∷ 0x21 ∷ 0x22 ∷ 0x01 ∷ 0x22 ∷ 0x02 ∷ 0x20 ∷ 0x06 ∷ 0x20 ∷ 0x03 ∷ 0x2F ∷ []

-- what the root of the image of the choice's first member holds, what the list 5 on its path holds left open
unfoldable pub listed_image : Content → Content
listed_image items = elem 1 (elem 2 (elem 4 (elem 5 items end) end) end) end

-- ---- the other kinds: lists on the paths of a sequence and of a text, and behind the list that takes the items of a list

-- type 0 a sequence of 1 and 2; 1 a text; 2 a list of 1
unfoldable pub member_table : List ℕ
member_table = 0x12 ∷ 0x15 ∷ 0x01 ∷ 0x15 ∷ 0x02 ∷ 0x10 ∷ 0x14 ∷ 0x01 ∷ 0x1F ∷ []

-- type 0 a sequence of 1 and 2; 1 a list of 3; 2 a list of 4; 3 a list of 5; 4 a list of 3; 5 a text
unfoldable pub member_lists_table : List ℕ
member_lists_table = 0x12 ∷ 0x15 ∷ 0x01 ∷ 0x15 ∷ 0x02 ∷ 0x14 ∷ 0x03 ∷ 0x14 ∷ 0x04 ∷ 0x14 ∷ 0x05 ∷ 0x14 ∷ 0x03 ∷ 0x10 ∷ 0x1F ∷ []

-- the sequence's members by 1.1 to type 3 and by 2 to type 2; the text's characters by 1; the list's items by 1.1 to type 3
unfoldable pub member_lists_embedding : List ℕ
member_lists_embedding =
    0x20 ∷ 0x00 ∷ 0x21 ∷ 0x22 ∷ 0x01 ∷ 0x22 ∷ 0x01 ∷ 0x21 ∷ 0x22 ∷ 0x02 ∷ 0x20 ∷ 0x03 ∷ 0x21 ∷ 0x22 ∷ 0x01 ∷ 0x20 ∷ 0x02 ∷ 0x21 ∷ 0x22 ∷ 0x01 ∷ 0x22 ∷ 0x01 ∷ 0x2F ∷ []

-- what a root of such a source document holds: an empty text, and a list of another one
unfoldable pub member_content : Content
member_content = elem 1 end (elem 2 (elem 1 end end) end)

-- what the root of its image holds, further items of the list 1 (on the path of a member), of the list 3 (on that of the
-- characters) and of the list 4 (behind the list 2, which takes the items) left open
unfoldable pub member_image : Content → Content → Content → Content
member_image onMember onCharacters behindItems =
    elem 1 (elem 3 (elem 5 end onCharacters) onMember) (elem 2 (elem 4 (elem 3 (elem 5 end end) behindItems) end) end)
