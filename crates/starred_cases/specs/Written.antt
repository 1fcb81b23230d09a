-- 01 "One patch, whole": its tables and its embedding as lists of kinds and of paths, the bytes that these write, and what the bytes are
-- read to; a table with a type of each kind. By computing.
use Rattle.std.specs.Prelude.{◌≡◌, refl, [], ◌∷◌}
use Rattle.model.specs.Definitions.Commands.{needed, optional}
use Rattle.model.specs.Definitions.Table.{Table, text, empty, sequence, choice, list, table_of}
use Rattle.model.specs.Definitions.ValidTable.{table_bytes}
use Rattle.model.specs.Definitions.ValidEmbedding.{PathMapping, mapping_of, embedding_bytes}
use Rattle.model.specs.Computing.{definitions}
use Rattle.starred_cases.specs.Starred.{source_table_bytes, target_table_bytes, embedding_with, embedding}

-- the patch's source table: a sequence of a text and a choice between two empty types
unfoldable pub patch_source : Table
patch_source = sequence (1 ∷ 2 ∷ []) ∷ text ∷ choice needed (3 ∷ 4 ∷ []) ∷ empty ∷ empty ∷ []

unfoldable pub patch_target : Table
patch_target = sequence (1 ∷ 2 ∷ []) ∷ sequence (3 ∷ 3 ∷ []) ∷ choice needed (4 ∷ 5 ∷ []) ∷ text ∷ empty ∷ empty ∷ []

-- its embedding: a path for each edge of each source type
unfoldable pub patch_mapping : PathMapping
patch_mapping =
    record { target = 0; paths = (1 ∷ 1 ∷ []) ∷ (2 ∷ []) ∷ [] }
    ∷ record { target = 3; paths = [] ∷ [] }
    ∷ record { target = 2; paths = (2 ∷ []) ∷ (1 ∷ []) ∷ [] }
    ∷ record { target = 5; paths = [] }
    ∷ record { target = 4; paths = [] }
    ∷ []

pub record WrittenCases : Type 0 where
  pub source_bytes : table_bytes patch_source ≡ source_table_bytes
  pub source_read : table_of source_table_bytes ≡ patch_source
  pub target_bytes : table_bytes patch_target ≡ target_table_bytes
  pub target_read : table_of target_table_bytes ≡ patch_target
  pub embedding_bytes_lem : embedding_bytes patch_mapping ≡ embedding
  pub embedding_read : mapping_of embedding ≡ patch_mapping
  -- a type of each kind: 12 sequence, 10 text, 11 empty, 13 choice, 17 optional choice, 14 list
  pub each_kind : table_bytes (sequence (1 ∷ []) ∷ text ∷ empty ∷ choice needed (1 ∷ 2 ∷ []) ∷ choice optional (2 ∷ []) ∷ list 4 ∷ [])
      ≡ 0x12 ∷ 0x15 ∷ 0x01 ∷ 0x10 ∷ 0x11 ∷ 0x13 ∷ 0x15 ∷ 0x01 ∷ 0x15 ∷ 0x02 ∷ 0x17 ∷ 0x15 ∷ 0x02 ∷ 0x14 ∷ 0x04 ∷ 0x1F ∷ []

pub written_cases : WrittenCases
unfolding definitions source_table_bytes target_table_bytes embedding_with embedding patch_source patch_target patch_mapping
written_cases =
    record {
      source_bytes = refl;
      source_read = refl;
      target_bytes = refl;
      target_read = refl;
      embedding_bytes_lem = refl;
      embedding_read = refl;
      each_kind = refl;
    }
