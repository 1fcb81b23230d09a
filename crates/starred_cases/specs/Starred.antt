-- 01 "Edges of the rules": the starred cases, as one fact about the definitions, proved by computing.
-- The bytes are those of "One patch, whole".
use Rattle.std.specs.Prelude.{◌≡◌, refl, List, [], ◌∷◌, ◌++◌, ℕ, replicate}
use Rattle.model.specs.Definitions.Entries.{Answer, answer_of, judge_table, judge_embedding, judge_tree, carry, bring_back}
use Rattle.model.specs.Computing.{definitions}
use Rattle.model.specs.Examples.{choice_of_empty, listed_table, listed_embedding}

unfoldable pub source_table_bytes : List ℕ
source_table_bytes = 0x12 ∷ 0x15 ∷ 0x01 ∷ 0x15 ∷ 0x02 ∷ 0x10 ∷ 0x13 ∷ 0x15 ∷ 0x03 ∷ 0x15 ∷ 0x04 ∷ 0x11 ∷ 0x11 ∷ 0x1F ∷ []

unfoldable pub target_table_bytes : List ℕ
target_table_bytes =
    0x12 ∷ 0x15 ∷ 0x01 ∷ 0x15 ∷ 0x02 ∷ 0x12 ∷ 0x15 ∷ 0x03 ∷ 0x15 ∷ 0x03 ∷ 0x13 ∷ 0x15 ∷ 0x04 ∷ 0x15 ∷ 0x05 ∷ 0x10 ∷ 0x11 ∷ 0x11 ∷ 0x1F ∷ []

-- the patch's embedding, with its last map and the second path of source type 2 left open
unfoldable pub embedding_with : ℕ → ℕ → List ℕ
embedding_with secondStep lastTarget =
    0x20 ∷ 0x00 ∷ 0x21 ∷ 0x22 ∷ 0x01 ∷ 0x22 ∷ 0x01 ∷ 0x21 ∷ 0x22 ∷ 0x02 ∷ 0x20 ∷ 0x03 ∷ 0x21 ∷ 0x20 ∷ 0x02 ∷ 0x21 ∷ 0x22 ∷ 0x02 ∷ 0x21 ∷ 0x22 ∷ secondStep ∷ 0x20 ∷ 0x05 ∷ 0x20 ∷ lastTarget ∷ 0x2F ∷ []

unfoldable pub embedding : List ℕ
embedding = embedding_with 0x01 0x04

-- the tree, with the characters of its text left open
unfoldable pub tree_named : List ℕ → List ℕ
tree_named name = 0x30 ∷ 0x00 ∷ 0x30 ∷ 0x01 ∷ (name ++ 0x32 ∷ 0x30 ∷ 0x02 ∷ 0x30 ∷ 0x03 ∷ 0x32 ∷ 0x32 ∷ 0x32 ∷ 0x3F ∷ [])

unfoldable pub tree : List ℕ
tree = tree_named (0x31 ∷ 0x41 ∷ [])

-- its image, with what the filler text behind these characters holds left open too
unfoldable pub image_named : List ℕ → List ℕ → List ℕ
image_named name inFiller =
    0x30 ∷ 0x00 ∷ 0x30 ∷ 0x01 ∷ 0x30 ∷ 0x03
    ∷ (name ++ 0x32 ∷ 0x30 ∷ 0x03 ∷ (inFiller ++ 0x32 ∷ 0x32 ∷ 0x30 ∷ 0x02 ∷ 0x30 ∷ 0x05 ∷ 0x32 ∷ 0x32 ∷ 0x32 ∷ 0x3F ∷ []))

unfoldable pub image_with : List ℕ → List ℕ
image_with = image_named (0x31 ∷ 0x41 ∷ [])

-- an output of n bytes with something in them that no document written has
unfoldable pub junk : ℕ → List ℕ
junk n = replicate n 0x95

-- 01's answers
unfoldable pub refusal : ℕ → ℕ → ℕ → Answer
refusal number document mark = record { refusal = number; document = document; mark = mark; value = 0; filler = 0 }

unfoldable pub answer : ℕ → ℕ → Answer
answer value filler = record { refusal = 0; document = 0; mark = 0; value = value; filler = filler }

pub record StarredCases : Type 0 where
  -- the patch, carried
  pub carried : answer_of (carry source_table_bytes target_table_bytes embedding tree (junk 60000)).result ≡ answer 21 1
  pub carried_bytes : (carry source_table_bytes target_table_bytes embedding tree (junk 60000)).output ≡ image_with [] ++ junk 59979
  -- its image, brought back
  pub brought_back : answer_of (bring_back source_table_bytes target_table_bytes embedding (image_with []) (junk 60000)).result ≡ answer 15 0
  pub brought_back_bytes : (bring_back source_table_bytes target_table_bytes embedding (image_with []) (junk 60000)).output ≡ tree ++ junk 59985
  -- the patch carried into 21 bytes
  pub into_21 : answer_of (carry source_table_bytes target_table_bytes embedding tree (junk 21)).result ≡ answer 21 1
  pub into_21_bytes : (carry source_table_bytes target_table_bytes embedding tree (junk 21)).output ≡ image_with []
  -- into 20 bytes
  pub into_20 : answer_of (carry source_table_bytes target_table_bytes embedding tree (junk 20)).result ≡ refusal 14 5 0
  pub into_20_bytes : (carry source_table_bytes target_table_bytes embedding tree (junk 20)).output ≡ junk 20
  -- the image with 31 42 put in at offset 11
  pub altered : answer_of (bring_back source_table_bytes target_table_bytes embedding (image_with (0x31 ∷ 0x42 ∷ [])) (junk 60000)).result ≡ refusal 15 4 0
  pub altered_bytes : (bring_back source_table_bytes target_table_bytes embedding (image_with (0x31 ∷ 0x42 ∷ [])) (junk 60000)).output ≡ junk 60000
  -- an empty tree document
  pub no_bytes : answer_of (judge_tree source_table_bytes []) ≡ refusal 2 4 0
  -- under the source table, a root that holds nothing
  pub bare_root_lem : answer_of (judge_tree source_table_bytes (0x30 ∷ 0x00 ∷ 0x32 ∷ 0x3F ∷ [])) ≡ refusal 11 4 2
  -- a sequence that holds itself
  pub endless : answer_of (judge_table (0x12 ∷ 0x15 ∷ 0x00 ∷ 0x1F ∷ [])) ≡ refusal 6 1 0
  -- a list of itself
  pub list_of_itself : answer_of (judge_table (0x14 ∷ 0x00 ∷ 0x1F ∷ [])) ≡ answer 1 0
  -- the patch's embedding with both paths of source type 2 the same
  pub same_paths : answer_of (judge_embedding source_table_bytes target_table_bytes (embedding_with 0x02 0x04)) ≡ refusal 8 3 18
  -- and with its last map 20 05
  pub same_ends : answer_of (judge_embedding source_table_bytes target_table_bytes (embedding_with 0x02 0x05)) ≡ refusal 10 3 18
  -- the paths of a choice part at a sequence
  pub part_at_sequence :
      answer_of
      (judge_embedding
      (0x13 ∷ 0x15 ∷ 0x01 ∷ 0x15 ∷ 0x02 ∷ 0x11 ∷ 0x11 ∷ 0x1F ∷ [])
      (0x12 ∷ 0x15 ∷ 0x01 ∷ 0x15 ∷ 0x01 ∷ 0x13 ∷ 0x15 ∷ 0x02 ∷ 0x15 ∷ 0x03 ∷ 0x11 ∷ 0x11 ∷ 0x1F ∷ [])
      (0x20 ∷ 0x00 ∷ 0x21 ∷ 0x22 ∷ 0x01 ∷ 0x22 ∷ 0x01 ∷ 0x21 ∷ 0x22 ∷ 0x02 ∷ 0x22 ∷ 0x01 ∷ 0x20 ∷ 0x02 ∷ 0x20 ∷ 0x02 ∷ 0x2F ∷ []))
      ≡ refusal 10 3 7

pub starred_cases_lem : StarredCases
unfolding definitions source_table_bytes target_table_bytes embedding_with embedding tree_named tree image_named image_with junk refusal answer
starred_cases_lem =
    record { carried = refl; carried_bytes = refl; brought_back = refl; brought_back_bytes = refl; into_21 = refl; into_21_bytes = refl; into_20 = refl; into_20_bytes = refl; altered = refl; altered_bytes = refl; no_bytes = refl; bare_root_lem = refl; endless = refl; list_of_itself = refl; same_paths = refl; same_ends = refl; part_at_sequence = refl }

-- ---- 02, N3: settings that may be absent

-- a choice of a text or an empty type, begun by 13 or 17
unfoldable pub choice_of_two : ℕ → List ℕ
choice_of_two byte = byte ∷ 0x15 ∷ 0x01 ∷ 0x15 ∷ 0x02 ∷ 0x10 ∷ 0x11 ∷ 0x1F ∷ []

-- a sequence of two optional choices of these
unfoldable pub two_optional : List ℕ
two_optional = 0x12 ∷ 0x15 ∷ 0x03 ∷ 0x15 ∷ 0x03 ∷ 0x10 ∷ 0x11 ∷ 0x17 ∷ 0x15 ∷ 0x01 ∷ 0x15 ∷ 0x02 ∷ 0x1F ∷ []

-- the choice goes to the second of them, its first member by way of step p
unfoldable pub into_second : ℕ → List ℕ
into_second p =
    0x20 ∷ 0x00 ∷ 0x21 ∷ 0x22 ∷ p ∷ 0x22 ∷ 0x01 ∷ 0x21 ∷ 0x22 ∷ 0x02 ∷ 0x22 ∷ 0x02 ∷ 0x20 ∷ 0x01 ∷ 0x21 ∷ 0x20 ∷ 0x02 ∷ 0x2F ∷ []

-- a root that holds nothing
unfoldable pub bare_root : List ℕ
bare_root = 0x30 ∷ 0x00 ∷ 0x32 ∷ 0x3F ∷ []

pub record OptionalCases : Type 0 where
  -- the paths of an optional choice part at a sequence before their first choice step: 9; of a choice: 10
  pub part_early : answer_of (judge_embedding (choice_of_two 0x17) two_optional (into_second 0x01)) ≡ refusal 9 3 7
  pub needed_parts : answer_of (judge_embedding (choice_of_two 0x13) two_optional (into_second 0x01)) ≡ refusal 10 3 7
  -- what holds nothing is carried by the path up to the second, which is left empty; the first is filler
  pub nothing_carried : answer_of (carry (choice_of_two 0x17) two_optional (into_second 0x02) bare_root (junk 10)).result ≡ answer 10 1
  pub nothing_bytes :
      (carry (choice_of_two 0x17) two_optional (into_second 0x02) bare_root (junk 10)).output
      ≡ 0x30 ∷ 0x00 ∷ 0x30 ∷ 0x03 ∷ 0x32 ∷ 0x30 ∷ 0x03 ∷ 0x32 ∷ 0x32 ∷ 0x3F ∷ []

pub optional_cases : OptionalCases
unfolding definitions choice_of_two two_optional into_second bare_root junk refusal answer
optional_cases = record { part_early = refl; needed_parts = refl; nothing_carried = refl; nothing_bytes = refl }

-- ---- 02, N6: lists on the paths of choices

-- the bytes of the image of the choice's first member by `listed_embedding`, with further items of the lists 2 and 5 left open
unfoldable pub through_lists : List ℕ → List ℕ → List ℕ
through_lists inOuter inInner =
    0x30 ∷ 0x00 ∷ 0x30 ∷ 0x01 ∷ 0x30 ∷ 0x02
    ∷ (inOuter ++ 0x30 ∷ 0x04 ∷ 0x30 ∷ 0x05 ∷ 0x30 ∷ 0x06 ∷ 0x32 ∷ (inInner ++ 0x32 ∷ 0x32 ∷ 0x32 ∷ 0x32 ∷ 0x32 ∷ 0x3F ∷ []))

-- a root that holds an element of type t, which holds nothing
unfoldable pub root_with : ℕ → List ℕ
root_with t = 0x30 ∷ 0x00 ∷ 0x30 ∷ t ∷ 0x32 ∷ 0x32 ∷ 0x3F ∷ []

-- a choice, begun by this byte, whose paths go through lists before, between and behind its choice steps
pub record ListCases (byte : ℕ) : Type 0 where
  -- its first member is carried with one item in each of the three lists, and brought back
  pub first_carried : answer_of (carry (choice_of_empty byte) listed_table listed_embedding (root_with 1) (junk 19)).result ≡ answer 19 0
  pub first_bytes : (carry (choice_of_empty byte) listed_table listed_embedding (root_with 1) (junk 19)).output ≡ through_lists [] []
  pub first_brought : answer_of (bring_back (choice_of_empty byte) listed_table listed_embedding (through_lists [] []) (junk 7)).result ≡ answer 7 0
  pub first_source : (bring_back (choice_of_empty byte) listed_table listed_embedding (through_lists [] []) (junk 7)).output ≡ root_with 1
  -- a second item in a list is no image, before the one that is followed and behind it; nor is an empty list
  pub another_before : answer_of (bring_back (choice_of_empty byte) listed_table listed_embedding (through_lists (0x30 ∷ 0x04 ∷ 0x30 ∷ 0x03 ∷ 0x32 ∷ 0x32 ∷ []) []) (junk 7)).result ≡ refusal 15 4 0
  pub another_behind : answer_of (bring_back (choice_of_empty byte) listed_table listed_embedding (through_lists [] (0x30 ∷ 0x06 ∷ 0x32 ∷ [])) (junk 7)).result ≡ refusal 15 4 0
  pub no_item : answer_of (bring_back (choice_of_empty byte) listed_table listed_embedding bare_root (junk 7)).result ≡ refusal 15 4 0

-- the optional choice that stands for nothing is the one item of a list
pub record NothingBehindList : Type 0 where
  pub nothing_bytes : (carry (choice_of_empty 0x17) listed_table listed_embedding bare_root (junk 7)).output ≡ root_with 1
  pub nothing_brought : (bring_back (choice_of_empty 0x17) listed_table listed_embedding (root_with 1) (junk 4)).output ≡ bare_root

pub list_cases : ListCases 0x13 × ListCases 0x17 × NothingBehindList
unfolding definitions choice_of_empty listed_table listed_embedding through_lists root_with bare_root junk refusal answer
list_cases = (
  record { first_carried = refl; first_bytes = refl; first_brought = refl; first_source = refl; another_before = refl; another_behind = refl; no_item = refl },
  record { first_carried = refl; first_bytes = refl; first_brought = refl; first_source = refl; another_before = refl; another_behind = refl; no_item = refl },
  record { nothing_bytes = refl; nothing_brought = refl },
)

-- ---- 02, N5: accented names

-- the name Été as ISO 8859-1
unfoldable pub accented_name : List ℕ
accented_name = 0x31 ∷ 0xC9 ∷ 0x31 ∷ 0x74 ∷ 0x31 ∷ 0xE9 ∷ []

pub record AccentCases : Type 0 where
  -- the patch with this name, carried and brought back
  pub named_carried : answer_of (carry source_table_bytes target_table_bytes embedding (tree_named accented_name) (junk 25)).result ≡ answer 25 1
  pub named_bytes : (carry source_table_bytes target_table_bytes embedding (tree_named accented_name) (junk 25)).output ≡ image_named accented_name []
  pub named_brought : answer_of (bring_back source_table_bytes target_table_bytes embedding (image_named accented_name []) (junk 19)).result ≡ answer 19 0
  pub named_source : (bring_back source_table_bytes target_table_bytes embedding (image_named accented_name []) (junk 19)).output ≡ tree_named accented_name
  -- an accent in the filler
  pub accent_in_filler : answer_of (bring_back source_table_bytes target_table_bytes embedding (image_named accented_name (0x31 ∷ 0xE9 ∷ [])) (junk 19)).result ≡ refusal 15 4 0
  -- É as UTF-8
  pub not_utf_8 : answer_of (judge_tree source_table_bytes (tree_named (0x31 ∷ 0xC3 ∷ 0x31 ∷ 0x89 ∷ []))) ≡ refusal 4 4 6

pub accent_cases : AccentCases
unfolding definitions source_table_bytes target_table_bytes embedding_with embedding tree_named image_named accented_name junk refusal answer
accent_cases = record { named_carried = refl; named_bytes = refl; named_brought = refl; named_source = refl; accent_in_filler = refl; not_utf_8 = refl }
