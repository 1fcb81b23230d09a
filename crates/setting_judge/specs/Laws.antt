-- What a known verdict says of the three documents, and what holds of a setting that stands for three accepted ones.
use Rattle.std.specs.Prelude.{◌≡◌, refl, List, ℕ, ⊤, Result, Ok, Err}
use Rattle.std.proofs.Common.{sym, subst}
use Rattle.answers.specs.declared.Refusal.{Refusal}
use Rattle.answers.specs.Answers.{counted_result}
use Rattle.setting_judge.specs.Judging.{Refusing, by_source, by_target, by_embedding, Standing, SettingRefused, ByVerdict}
use Rattle.loaded_table.specs.Loaded as loaded_table
use Rattle.loaded_embedding.specs.Loaded.{embedding_by}
use Rattle.loaded_setting.specs.Ready.{setting_in, Ready}
use Rattle.model.specs.Definitions.Table.{table_of}
use Rattle.model.specs.Definitions.Embedding.{embedding_of}
use Rattle.model.specs.Definitions.Entries.{setting_of, unless_faulty, edge_count, judge_embedding}
use Rattle.model.proofs.Theorems.Facts.{Valid}
use Rattle.model.proofs.Theorems.EntryLaws.{judges_valid}

module _ (s t e from to map : List ℕ) (v : Result ⊤ Refusal) (h : ByVerdict s t e from to map v) where
  pub standing : {done : ⊤} → v ≡ Ok done → Standing s t e from to map
  standing is = subst (ByVerdict s t e from to map) is h

  pub refused : {r : Refusal} → v ≡ Err r → SettingRefused s t e from to map r
  refused is = subst (ByVerdict s t e from to map) is h

  pub refusing : {r : Refusal} → v ≡ Err r → Refusing s t e r
  refusing is = (refused is).refusing

module _ {s t e from to map : List ℕ} (h : Standing s t e from to map) where
  -- it is the documents'
  pub same_setting : setting_in from to map e ≡ setting_of s t e
  same_setting =
      let source-same : loaded_table.table_by from ≡ table_of s = h.loaded.source_stands.same_table in
      let target-same : loaded_table.table_by to ≡ table_of t = h.loaded.target_stands.same_table in
      let embedding-same : embedding_by e (table_of s) map ≡ embedding_of e = h.loaded.same_embedding in
      rw (source-same, target-same, embedding-same) refl

  -- it is what functions on loaded forms require
  pub standing_ready : Ready from to map e
  standing_ready =
      record {
        valid = subst Valid (sym same_setting) (judges_valid s t e h.judges);
        source_bounded = h.loaded.source_stands.bounded;
        target_bounded = h.loaded.target_stands.bounded;
        paths_bounded = h.loaded.paths_bounded;
        kept = subst (loaded_table.Kept to) (sym h.loaded.target_stands.same_table) h.loaded.target_stands.kept;
      }

-- ---- what judging an embedding answers

-- one of the three documents is refused
pub refused_answer : {s t e : List ℕ} {r : Refusal} → Refusing s t e r → counted_result (Err r) ≡ judge_embedding s t e
unfolding judge_embedding unless_faulty
refused_answer (by_source h) = rw h refl
refused_answer (by_target g h) = rw (g, h) refl
refused_answer (by_embedding g h i) = rw (g, h, i) refl

-- none is: the number of edges of the source table
pub counted-answer : {s t e from to map : List ℕ} (n : ℕ) → Standing s t e from to map → n ≡ edge_count (loaded_table.table_by from) → counted_result (Ok n) ≡ judge_embedding s t e
unfolding judge_embedding unless_faulty
counted-answer n h count = rw (h.judges.source_sound, h.judges.target_sound, h.judges.embedding_sound, ← h.loaded.source_stands.same_table, count) refl
