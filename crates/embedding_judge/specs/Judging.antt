-- What judging an embedding answers.
use Rattle.std.specs.Prelude.{◌≡◌, List, ◌⊎◌, ℕ, Result, ⊤}
use Rattle.answers.specs.Answers.{judged}
use Rattle.answers.specs.declared.Fault as answers
use Rattle.loaded_table.specs.Loaded as loaded_table
use Rattle.loaded_table.specs.Loaded.{table_by}
use Rattle.embedding_load.specs.Loading.{EmbeddingLoaded}
use Rattle.model.specs.Definitions.Table.{Table}
use Rattle.model.specs.Definitions.Embedding.{Embedding}
use Rattle.model.specs.Definitions.EmbeddingChecks.{root_to_root, wrong_end_verdict, wrong_steps_verdict, path_clash_verdict}
use Rattle.model.specs.Definitions.Refusals.{Judged, sound, has, root_moved, wrong_end, wrong_steps, path_clash, fault_at, fault_unless}
use Rattle.model.specs.Definitions.Entries.{judged_embedding}
use Rattle.model.proofs.Theorems.Facts.{SoundTable}

-- checks 8 to 10, in order
unfoldable pub edge_checks : Table → Table → Embedding → Judged
edge_checks S T E =
    fault_at wrong_end (wrong_end_verdict S T E) λ u.
    fault_at wrong_steps (wrong_steps_verdict S T E) λ u.
    fault_at path_clash (path_clash_verdict S T E) λ u.
    sound

-- checks 7 to 10
unfoldable pub path_checks : Table → Table → Embedding → Judged
path_checks S T E =
    fault_unless root_moved (root_to_root E) λ u.
    edge_checks S T E

-- loaded tables that were accepted
pub record Judgeable (source target : List ℕ) : Type 0 where
  pub source_bounded : loaded_table.Bounded source
  pub target_bounded : loaded_table.Bounded target
  pub source_sound : SoundTable (table_by source)
  pub target_sound : SoundTable (table_by target)

-- accepted, or refused for a clash, which is the last check: by then an embedding is loaded
abbrev pub UpToClashes : Judged → Type 0
UpToClashes j = (j ≡ sound) ⊎ ((at : ℕ) × (j ≡ has (path_clash at)))

-- the model's judgement, and where it accepts or finds a clash, the embedding loaded into the array
pub record EmbeddingJudged (S T : Table) (bs : List ℕ) (r : Result ⊤ answers.Fault) (map : List ℕ) : Type 0 where
  pub judgement : judged r ≡ judged_embedding S T bs
  pub loaded : UpToClashes (judged_embedding S T bs) → EmbeddingLoaded bs S map
