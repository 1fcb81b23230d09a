-- 02, N14: what went across, counted, as one fact about the definitions, proved by computing.
use Rattle.std.specs.Prelude.{◌≡◌, refl, List, [], ◌∷◌, ℕ, suc}
use Rattle.model.specs.Definitions.Content.{content_of, elements}
use Rattle.model.specs.Definitions.Image.{Setting, image, image_filler}
use Rattle.model.specs.Definitions.Correspondence.{addresses, stands_at, correspondences}
use Rattle.model.specs.Definitions.Counting.{path_elements, occurrences}
use Rattle.model.specs.Definitions.Entries.{setting_of}
use Rattle.model.specs.Computing.{definitions}
use Rattle.starred_cases.specs.Starred.{source_table_bytes, target_table_bytes, embedding, tree, image_with, embedding_with, tree_named, image_named}

-- the elements of the image, its filler elements, and its path elements
unfoldable pub counted : Setting → List ℕ → List ℕ
counted X d = suc (elements (image X (content_of d))) ∷ image_filler X (content_of d) ∷ path_elements X (content_of d) ∷ []

unfoldable pub patch : Setting
patch = setting_of source_table_bytes target_table_bytes embedding

-- two texts, into a sequence within a sequence: the paths 1.1 and 1.2 share their first step
unfoldable pub sharing : Setting
sharing =
    setting_of (0x12 ∷ 0x15 ∷ 0x01 ∷ 0x15 ∷ 0x01 ∷ 0x10 ∷ 0x1F ∷ []) (0x12 ∷ 0x15 ∷ 0x01 ∷ 0x12 ∷ 0x15 ∷ 0x02 ∷ 0x15 ∷ 0x02 ∷ 0x10 ∷ 0x1F ∷ [])
    (0x20 ∷ 0x00 ∷ 0x21 ∷ 0x22 ∷ 0x01 ∷ 0x22 ∷ 0x01 ∷ 0x21 ∷ 0x22 ∷ 0x01 ∷ 0x22 ∷ 0x02 ∷ 0x20 ∷ 0x02 ∷ 0x21 ∷ 0x2F ∷ [])

-- a list of texts, into a list within a sequence: the path 1.1 leaves the list at its second step
unfoldable pub listing : Setting
listing = setting_of (0x14 ∷ 0x01 ∷ 0x10 ∷ 0x1F ∷ []) (0x12 ∷ 0x15 ∷ 0x01 ∷ 0x14 ∷ 0x02 ∷ 0x10 ∷ 0x1F ∷ []) (0x20 ∷ 0x00 ∷ 0x21 ∷ 0x22 ∷ 0x01 ∷ 0x22 ∷ 0x01 ∷ 0x20 ∷ 0x02 ∷ 0x21 ∷ 0x2F ∷ [])

-- a list of texts, into a list of lists of lists of texts: the path 1.1 leaves a list at once, and the text has a path of a step
unfoldable pub nesting : Setting
nesting =
    setting_of (0x14 ∷ 0x01 ∷ 0x10 ∷ 0x1F ∷ []) (0x14 ∷ 0x01 ∷ 0x14 ∷ 0x02 ∷ 0x14 ∷ 0x03 ∷ 0x10 ∷ 0x1F ∷ []) (0x20 ∷ 0x00 ∷ 0x21 ∷ 0x22 ∷ 0x01 ∷ 0x22 ∷ 0x01 ∷ 0x20 ∷ 0x02 ∷ 0x21 ∷ 0x22 ∷ 0x01 ∷ 0x2F ∷ [])

-- an optional choice of a text and an empty type, into one behind a filler type: the paths 2.2 and 2.1
unfoldable pub choosing : Setting
choosing =
    setting_of (0x17 ∷ 0x15 ∷ 0x01 ∷ 0x15 ∷ 0x02 ∷ 0x10 ∷ 0x11 ∷ 0x1F ∷ []) (0x12 ∷ 0x15 ∷ 0x03 ∷ 0x15 ∷ 0x03 ∷ 0x10 ∷ 0x11 ∷ 0x17 ∷ 0x15 ∷ 0x01 ∷ 0x15 ∷ 0x02 ∷ 0x1F ∷ [])
    (0x20 ∷ 0x00 ∷ 0x21 ∷ 0x22 ∷ 0x02 ∷ 0x22 ∷ 0x01 ∷ 0x21 ∷ 0x22 ∷ 0x02 ∷ 0x22 ∷ 0x02 ∷ 0x20 ∷ 0x01 ∷ 0x21 ∷ 0x20 ∷ 0x02 ∷ 0x2F ∷ [])

pub record CountedCases : Type 0 where
  -- the patch: 6 elements, 1 of them filler, 4 on paths, and the root
  pub patch_counted : counted patch tree ≡ 6 ∷ 1 ∷ 4 ∷ []
  -- its elements, and where each stands
  pub patch_addresses : addresses (content_of tree) ≡ [] ∷ (0 ∷ []) ∷ (1 ∷ []) ∷ (1 ∷ 0 ∷ []) ∷ []
  pub text_stands : stands_at patch 0 (content_of tree) (0 ∷ []) ≡ 0 ∷ 0 ∷ []
  pub member_stands : stands_at patch 0 (content_of tree) (1 ∷ 0 ∷ []) ≡ 1 ∷ 0 ∷ []
  pub patch_correspondences : correspondences patch (content_of tree)
      ≡ record { type = 0; offset = 0; image_offset = 0 } ∷ record { type = 1; offset = 2; image_offset = 4 } ∷ record { type = 2; offset = 7; image_offset = 13 }
      ∷ record { type = 3; offset = 9; image_offset = 15 } ∷ []
  -- its one character
  pub patch_character : occurrences 0x41 (content_of (image_with [])) ≡ 1
  pub other_character : occurrences 0x42 (content_of (image_with [])) ≡ 0
  -- a shared beginning is built, and counted, once
  pub shared_once : counted sharing (0x30 ∷ 0x00 ∷ 0x30 ∷ 0x01 ∷ 0x32 ∷ 0x30 ∷ 0x01 ∷ 0x32 ∷ 0x32 ∷ 0x3F ∷ []) ≡ 4 ∷ 0 ∷ 3 ∷ []
  -- the path of an empty list is built up to the list; then the rest once for each item
  pub empty_list : counted listing (0x30 ∷ 0x00 ∷ 0x32 ∷ 0x3F ∷ []) ≡ 2 ∷ 0 ∷ 1 ∷ []
  pub two_items : counted listing (0x30 ∷ 0x00 ∷ 0x30 ∷ 0x01 ∷ 0x32 ∷ 0x30 ∷ 0x01 ∷ 0x32 ∷ 0x32 ∷ 0x3F ∷ []) ≡ 4 ∷ 0 ∷ 3 ∷ []
  pub nothing_before : counted nesting (0x30 ∷ 0x00 ∷ 0x32 ∷ 0x3F ∷ []) ≡ 1 ∷ 0 ∷ 0 ∷ []
  pub two_texts : counted nesting (0x30 ∷ 0x00 ∷ 0x30 ∷ 0x01 ∷ 0x32 ∷ 0x30 ∷ 0x01 ∷ 0x32 ∷ 0x32 ∷ 0x3F ∷ []) ≡ 7 ∷ 0 ∷ 6 ∷ []
  -- an optional choice: nothing, by the steps before its first choice step; a member, by its path
  pub nothing_held : counted choosing (0x30 ∷ 0x00 ∷ 0x32 ∷ 0x3F ∷ []) ≡ 3 ∷ 1 ∷ 1 ∷ []
  pub member_held : counted choosing (0x30 ∷ 0x00 ∷ 0x30 ∷ 0x01 ∷ 0x31 ∷ 0x41 ∷ 0x32 ∷ 0x32 ∷ 0x3F ∷ []) ≡ 4 ∷ 1 ∷ 2 ∷ []

pub counted_cases : CountedCases
unfolding definitions counted patch sharing listing nesting choosing source_table_bytes target_table_bytes embedding tree image_with embedding_with tree_named image_named
counted_cases =
    record {
      patch_counted = refl;
      patch_addresses = refl;
      text_stands = refl;
      member_stands = refl;
      patch_correspondences = refl;
      patch_character = refl;
      other_character = refl;
      shared_once = refl;
      empty_list = refl;
      two_items = refl;
      nothing_before = refl;
      two_texts = refl;
      nothing_held = refl;
      member_held = refl;
    }
