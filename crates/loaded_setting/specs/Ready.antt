-- Loaded tables and a loaded embedding that were accepted: the setting of the model that they stand for, and what holds of
-- it. Functions that carry and bring back take the arrays and require this of them.
use Rattle.std.specs.Prelude.{List, ℕ}
use Rattle.model.specs.Definitions.Image.{Setting}
use Rattle.model.proofs.Theorems.Facts.{Valid}
use Rattle.loaded_table.specs.Loaded as loaded_table
use Rattle.loaded_table.specs.Loaded.{table_by}
use Rattle.loaded_embedding.specs.Loaded as loaded_embedding
use Rattle.loaded_embedding.specs.Loaded.{embedding_by}

-- the setting that a loaded source table, a loaded target table, and a loaded embedding with its document stand for
abbrev pub setting_in : List ℕ → List ℕ → List ℕ → List ℕ → Setting
setting_in source target map em = record { source = table_by source; target = table_by target; embedding = embedding_by em (table_by source) map }

-- accepted, within bounds, and with the target's heights and filler lengths kept
pub record Ready (source target map em : List ℕ) : Type 0 where
  pub valid : Valid (setting_in source target map em)
  pub source_bounded : loaded_table.Bounded source
  pub target_bounded : loaded_table.Bounded target
  pub paths_bounded : loaded_embedding.PathsBounded em map
  pub kept : loaded_table.Kept target (table_by target)
