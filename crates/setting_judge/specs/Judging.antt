-- What judging two tables and an embedding answers.
use Rattle.std.specs.Prelude.{◌≡◌, List, ℕ, ⊤, Result, Ok, Err}
use Rattle.answers.specs.declared.Fault.{Fault}
use Rattle.answers.specs.declared.Refusal.{Refusal}
use Rattle.answers.specs.declared.Refusal.TheVariants.{Faulty}
use Rattle.answers.specs.declared.Document.TheVariants.{SourceTable, TargetTable, Embedding}
use Rattle.answers.specs.Answers.{fault}
use Rattle.loaded_table.specs.Loaded.{Stands}
use Rattle.loaded_embedding.specs.Loaded as loaded_embedding
use Rattle.loaded_embedding.specs.Loaded.{embedding_by}
use Rattle.model.specs.Definitions.Table.{table_of}
use Rattle.model.specs.Definitions.Embedding.{embedding_of}
use Rattle.model.specs.Definitions.Refusals.{sound, has}
use Rattle.model.specs.Definitions.Entries.{judged_table, judged_embedding}
use Rattle.model.proofs.Theorems.EntryLaws.{Judges}
use Rattle.model.proofs.Theorems.Explanations.{RefusedFor10}

-- the first refused of the three documents, and its fault
pub data Refusing (s t e : List ℕ) : Refusal → Type 0 where
  by_source : {f : Fault} → judged_table s ≡ has (fault f) → Refusing s t e (Faulty SourceTable f)
  by_target : {f : Fault} → judged_table s ≡ sound → judged_table t ≡ has (fault f) → Refusing s t e (Faulty TargetTable f)
  by_embedding : {f : Fault} → judged_table s ≡ sound → judged_table t ≡ sound → judged_embedding (table_of s) (table_of t) e ≡ has (fault f) → Refusing s t e (Faulty Embedding f)

-- all three loaded
pub record AllLoaded (s t e from to map : List ℕ) : Type 0 where
  pub source_stands : Stands from (table_of s)
  pub target_stands : Stands to (table_of t)
  pub same_embedding : embedding_by e (table_of s) map ≡ embedding_of e
  pub paths_bounded : loaded_embedding.PathsBounded e map

-- all three accepted, and loaded
pub record Standing (s t e from to map : List ℕ) : Type 0 where
  pub judges : Judges s t e
  pub loaded : AllLoaded s t e from to map

-- one refused; they are loaded too where this is the embedding, for a clash
pub record SettingRefused (s t e from to map : List ℕ) (r : Refusal) : Type 0 where
  pub refusing : Refusing s t e r
  pub loaded_for_10 : RefusedFor10 s t e → AllLoaded s t e from to map

-- by the verdict
abbrev pub ByVerdict : List ℕ → List ℕ → List ℕ → List ℕ → List ℕ → List ℕ → Result ⊤ Refusal → Type 0
ByVerdict s t e from to map (Ok done) = Standing s t e from to map
ByVerdict s t e from to map (Err r) = SettingRefused s t e from to map r
