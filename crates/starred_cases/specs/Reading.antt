-- 02, N4: target documents read along the paths, as one fact about the definitions, proved by computing.
use Rattle.std.specs.Prelude.{◌≡◌, refl, List, [], ◌∷◌, ℕ}
use Rattle.model.specs.Definitions.Entries.{Answer, answer_of, read_along}
use Rattle.model.specs.Computing.{definitions}
use Rattle.starred_cases.specs.Starred.{refusal, answer, junk, source_table_bytes, target_table_bytes, embedding, tree, image_with, embedding_with, tree_named, image_named}

-- a list of texts, into a list of lists of lists of texts: the first takes the items, the others hold one each
unfoldable pub lists_read : List ℕ → Answer
lists_read tr =
    answer_of
    (read_along (0x14 ∷ 0x01 ∷ 0x10 ∷ 0x1F ∷ []) (0x14 ∷ 0x01 ∷ 0x14 ∷ 0x02 ∷ 0x14 ∷ 0x03 ∷ 0x10 ∷ 0x1F ∷ [])
    (0x20 ∷ 0x00 ∷ 0x21 ∷ 0x22 ∷ 0x01 ∷ 0x22 ∷ 0x01 ∷ 0x20 ∷ 0x02 ∷ 0x21 ∷ 0x22 ∷ 0x01 ∷ 0x2F ∷ []) tr (junk 30)).result

-- an optional choice of a text and an empty type, into a list of such choices
unfoldable pub choices_read : List ℕ → Answer
choices_read tr =
    answer_of
    (read_along (0x17 ∷ 0x15 ∷ 0x01 ∷ 0x15 ∷ 0x02 ∷ 0x10 ∷ 0x11 ∷ 0x1F ∷ []) (0x14 ∷ 0x01 ∷ 0x17 ∷ 0x15 ∷ 0x02 ∷ 0x15 ∷ 0x03 ∷ 0x10 ∷ 0x11 ∷ 0x1F ∷ [])
    (0x20 ∷ 0x00 ∷ 0x21 ∷ 0x22 ∷ 0x01 ∷ 0x22 ∷ 0x01 ∷ 0x21 ∷ 0x22 ∷ 0x01 ∷ 0x22 ∷ 0x02 ∷ 0x20 ∷ 0x02 ∷ 0x21 ∷ 0x20 ∷ 0x03 ∷ 0x2F ∷ []) tr (junk 30)).result

pub record ReadingCases : Type 0 where
  -- the patch's image is read as the patch, its filler counted, also with characters in the filler; into 14 bytes there is no room
  pub patch_read : answer_of (read_along source_table_bytes target_table_bytes embedding (image_with []) (junk 15)).result ≡ answer 15 1
  pub patch_bytes : (read_along source_table_bytes target_table_bytes embedding (image_with []) (junk 15)).output ≡ tree
  pub filler_changed : (read_along source_table_bytes target_table_bytes embedding (image_with (0x31 ∷ 0x42 ∷ [])) (junk 15)).output ≡ tree
  pub no_room : answer_of (read_along source_table_bytes target_table_bytes embedding (image_with []) (junk 14)).result ≡ refusal 14 5 0
  -- a list of texts, each in a list of its own: an item whose list holds one, and one whose list holds two, of which the first is followed
  pub one_item : lists_read (0x30 ∷ 0x00 ∷ 0x30 ∷ 0x01 ∷ 0x30 ∷ 0x02 ∷ 0x30 ∷ 0x03 ∷ 0x31 ∷ 0x41 ∷ 0x32 ∷ 0x32 ∷ 0x32 ∷ 0x32 ∷ 0x3F ∷ []) ≡ answer 9 0
  pub first_of_several : lists_read (0x30 ∷ 0x00 ∷ 0x30 ∷ 0x01 ∷ 0x30 ∷ 0x02 ∷ 0x30 ∷ 0x03 ∷ 0x32 ∷ 0x30 ∷ 0x03 ∷ 0x31 ∷ 0x41 ∷ 0x32 ∷ 0x32 ∷ 0x30 ∷ 0x02 ∷ 0x32 ∷ 0x32 ∷ 0x32 ∷ 0x3F ∷ []) ≡ answer 7 2
  -- the inner list of an item's text is empty: its element is marked; the list around it is empty: the root is, also for a later item
  pub inner_list_empty : lists_read (0x30 ∷ 0x00 ∷ 0x30 ∷ 0x01 ∷ 0x30 ∷ 0x02 ∷ 0x32 ∷ 0x32 ∷ 0x32 ∷ 0x3F ∷ []) ≡ refusal 17 4 4
  pub outer_list_empty : lists_read (0x30 ∷ 0x00 ∷ 0x30 ∷ 0x01 ∷ 0x32 ∷ 0x32 ∷ 0x3F ∷ []) ≡ refusal 17 4 0
  pub later_item_lacks : lists_read (0x30 ∷ 0x00 ∷ 0x30 ∷ 0x01 ∷ 0x30 ∷ 0x02 ∷ 0x30 ∷ 0x03 ∷ 0x32 ∷ 0x32 ∷ 0x32 ∷ 0x30 ∷ 0x01 ∷ 0x30 ∷ 0x02 ∷ 0x30 ∷ 0x03 ∷ 0x32 ∷ 0x32 ∷ 0x32 ∷ 0x30 ∷ 0x01 ∷ 0x32 ∷ 0x32 ∷ 0x3F ∷ []) ≡ refusal 17 4 0
  pub later_child_lacks : lists_read (0x30 ∷ 0x00 ∷ 0x30 ∷ 0x01 ∷ 0x30 ∷ 0x02 ∷ 0x30 ∷ 0x03 ∷ 0x32 ∷ 0x32 ∷ 0x32 ∷ 0x30 ∷ 0x01 ∷ 0x30 ∷ 0x02 ∷ 0x32 ∷ 0x32 ∷ 0x32 ∷ 0x3F ∷ []) ≡ refusal 17 4 13
  -- an optional choice behind a list: empty in the first item, with something only in the second, and no item
  pub nothing_there : choices_read (0x30 ∷ 0x00 ∷ 0x30 ∷ 0x01 ∷ 0x32 ∷ 0x32 ∷ 0x3F ∷ []) ≡ answer 4 0
  pub nothing_in_first : choices_read (0x30 ∷ 0x00 ∷ 0x30 ∷ 0x01 ∷ 0x32 ∷ 0x30 ∷ 0x01 ∷ 0x30 ∷ 0x02 ∷ 0x31 ∷ 0x41 ∷ 0x32 ∷ 0x32 ∷ 0x32 ∷ 0x3F ∷ []) ≡ answer 4 2
  pub no_item : choices_read (0x30 ∷ 0x00 ∷ 0x32 ∷ 0x3F ∷ []) ≡ refusal 17 4 0

pub reading_cases : ReadingCases
unfolding definitions lists_read choices_read refusal answer junk source_table_bytes target_table_bytes embedding tree image_with embedding_with tree_named image_named
reading_cases =
    record {
      patch_read = refl;
      patch_bytes = refl;
      filler_changed = refl;
      no_room = refl;
      one_item = refl;
      first_of_several = refl;
      inner_list_empty = refl;
      outer_list_empty = refl;
      later_item_lacks = refl;
      later_child_lacks = refl;
      nothing_there = refl;
      nothing_in_first = refl;
      no_item = refl;
    }
