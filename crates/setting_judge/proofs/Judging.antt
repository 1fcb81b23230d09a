-- From the judged tables and the judged embedding to the verdict.
use mathlib.Core.Path.{◌≡◌, sym, ap, ◌∙◌, subst, subst₂}
use mathlib.Core.List.{List}
use mathlib.Core.Logic.{inl, inr}
use Prim.Native.Nat.{ℕ}
use native.Mathlib.Omega.{arith}
use Rattle.setting_judge.specs.Judging.{by_source, by_target, by_embedding, AllLoaded, Standing, SettingRefused}
use Rattle.answers.specs.declared.Fault.{Fault}
use Rattle.answers.specs.declared.Document.{Document}
use Rattle.answers.specs.declared.Refusal.{Refusal}
use Rattle.std.specs.Prelude.{Result, Ok, Err, ⊤}
use Rattle.answers.specs.Answers.{judged, fault}
use Rattle.table_judge.specs.Judging.{TableJudged}
use Rattle.embedding_judge.specs.Judging.{Judgeable, UpToClashes, EmbeddingJudged}
use Rattle.loaded_table.specs.Loaded as loaded_table
use Rattle.model.specs.Definitions.Table.{Table, table_of}
use Rattle.model.specs.Definitions.Refusals as refusals
use Rattle.model.specs.Definitions.Refusals.{sound, has}
use Rattle.model.specs.Definitions.Entries.{judged_table, judged_embedding}
use Rattle.model.proofs.Theorems.Facts.{SoundTable}
use Rattle.model.proofs.Theorems.JudgedTables.{table_sound}

-- the model's judgement of a table, where the code's is known
table_accepted : {bs rows : List ℕ} {j : Result ⊤ Fault} {done : ⊤} → TableJudged bs j rows → j ≡ Ok done → judged_table bs ≡ sound
table_accepted h e = sym h.judgement ∙ ap judged e

table_faulty : {bs rows : List ℕ} {j : Result ⊤ Fault} {f : Fault} → TableJudged bs j rows → j ≡ Err f → judged_table bs ≡ has (fault f)
table_faulty h e = sym h.judgement ∙ ap judged e

-- an accepted document has no fault
sound_has : {X : Type 0} {f : refusals.Fault} {j : refusals.Judged} → j ≡ sound → j ≡ has f → X
sound_has {f = f} {j} p q = let z : ◌≡◌ {A = ℕ} 0 1 = cc in absurd (omega arith)

-- a table is refused
pub source_refused : (s t e : List ℕ) {from to map : List ℕ} {j : Result ⊤ Fault} {f : Fault} → TableJudged s j from → j ≡ Err f → SettingRefused s t e from to map (Refusal.Faulty Document.SourceTable f)
source_refused s t e h found =
    record { refusing = by_source (table_faulty h found); loaded_for_10 = λ ten. sound_has ten.source_sound (table_faulty h found) }

pub target_refused : (s t e : List ℕ) {from to map : List ℕ} {j k : Result ⊤ Fault} {f : Fault} → TableJudged s j from → j ≡ Ok tt → TableJudged t k to → k ≡ Err f → SettingRefused s t e from to map (Refusal.Faulty Document.TargetTable f)
target_refused s t e h first k found =
    record { refusing = by_target (table_accepted h first) (table_faulty k found); loaded_for_10 = λ ten. sound_has ten.target_sound (table_faulty k found) }

module _ {s t from to : List ℕ} {j k : Result ⊤ Fault} (h : TableJudged s j from) (first : j ≡ Ok tt) (i : TableJudged t k to) (second : k ≡ Ok tt) where
  -- two accepted tables can have an embedding judged
  pub judgeable : Judgeable from to
  judgeable =
      let source_stands = h.loaded (table_accepted h first) in
      let target_stands = i.loaded (table_accepted i second) in
      record {
        source_bounded = source_stands.bounded;
        target_bounded = target_stands.bounded;
        source_sound = subst SoundTable (sym source_stands.same_table) (table_sound s (table_accepted h first));
        target_sound = subst SoundTable (sym target_stands.same_table) (table_sound t (table_accepted i second));
      }

  module _ {e map : List ℕ} {l : Result ⊤ Fault} (between : EmbeddingJudged (loaded_table.table_by from) (loaded_table.table_by to) e l map) where
    -- what the embedding is judged by, in terms of the tables' bytes
    judged-between : EmbeddingJudged (table_of s) (table_of t) e l map
    judged-between =
        subst₂ (λ (S T : Table). EmbeddingJudged S T e l map) (h.loaded (table_accepted h first)).same_table (i.loaded (table_accepted i second)).same_table between

    -- all three are loaded where the embedding is accepted, or refused for a clash
    all-loaded : UpToClashes (judged_embedding (table_of s) (table_of t) e) → AllLoaded s t e from to map
    all-loaded reached =
        let loaded = judged-between.loaded reached in
        record {
          source_stands = h.loaded (table_accepted h first);
          target_stands = i.loaded (table_accepted i second);
          same_embedding = loaded.same_embedding;
          paths_bounded = loaded.bounded;
        }

    -- the embedding is refused
    pub embedding-refused : {f : Fault} → l ≡ Err f → SettingRefused s t e from to map (Refusal.Faulty Document.Embedding f)
    embedding-refused found =
        record {
          refusing = by_embedding (table_accepted h first) (table_accepted i second) (sym judged-between.judgement ∙ ap judged found);
          loaded_for_10 = λ ten. all-loaded (inr (ten.at, ten.found));
        }

    -- all three are accepted
    pub all-stand : l ≡ Ok tt → Standing s t e from to map
    all-stand found =
        let accepted : judged_embedding (table_of s) (table_of t) e ≡ sound = sym judged-between.judgement ∙ ap judged found in
        record {
          judges = record { source_sound = table_accepted h first; target_sound = table_accepted i second; embedding_sound = accepted };
          loaded = all-loaded (inl accepted);
        }
