-- Accepted exactly when valid: what is proved of each judge, said of the entries that call them.
use Rattle.std.specs.Prelude.{◌≡◌, List, ◌↔◌, ℕ, ◌≤◌, length}
use Rattle.std.proofs.Common.{sym, ap, ◌∙◌, subst, arith}
use Rattle.model.specs.Definitions.Table.{table_of}
use Rattle.model.specs.Definitions.Content.{document}
use Rattle.model.specs.Definitions.ValidTable.{ValidTable, table_bytes}
use Rattle.model.specs.Definitions.ValidEmbedding.{mapping_of, ValidEmbedding, embedding_bytes}
use Rattle.model.specs.Definitions.Valid.{WrittenBy, ValidTree}
use Rattle.model.specs.Definitions.Refusals.{sound}
use Rattle.model.specs.Definitions.Entries.{judged_table, judged_embedding}
use Rattle.model.proofs.Theorems.Terms.{AcceptedTable, AcceptedEmbedding, AcceptedTree}
use Rattle.model.proofs.Theorems.JudgedTables.{table_checks, table_sound}
use Rattle.model.proofs.Theorems.ValidTables.{table_of_bytes, accepted_table_valid, accepted_table_written, valid_table_accepted, valid_table_short}
use Rattle.model.proofs.Theorems.ValidEmbeddings.{accepted_embedding_valid, accepted_embedding_written, valid_embedding_accepted, valid_embedding_short}
use Rattle.model.proofs.Theorems.ValidTrees.{tree_exactly}
use Rattle.model.proofs.Theorems.EntryLaws.{judges_accept, judge_accepts, judges_are_all, table_is_accepted, tree_judged, tree_is_accepted}

-- a table by its judge
module _ (bs : List ℕ) where
  table_written : judged_table bs ≡ sound → WrittenBy ValidTable table_bytes bs
  table_written e =
      let valid = accepted_table_valid bs e in
      let same = accepted_table_written bs (table_checks bs e).form in
      record {
        written = table_of bs;
        is_valid = valid;
        are_its_bytes = same;
        at_most_60000 = subst (λ (b : List ℕ). length b ≤ 60000) (sym same) (omega (arith, valid_table_short (table_of bs) valid));
      }

  written_table : WrittenBy ValidTable table_bytes bs → judged_table bs ≡ sound
  written_table w = ap judged_table w.are_its_bytes ∙ valid_table_accepted w.written w.is_valid

  -- the table that writes a document is the one it is read to
  table_valid : WrittenBy ValidTable table_bytes bs → ValidTable (table_of bs)
  table_valid w = subst ValidTable (sym (ap table_of w.are_its_bytes ∙ table_of_bytes w.written)) w.is_valid

  pub table_accepted_exactly : AcceptedTable bs ↔ WrittenBy ValidTable table_bytes bs
  table_accepted_exactly = (λ a. table_written (judge_accepts bs a.1), λ w. table_is_accepted bs (written_table w))

-- an embedding by its judge, between accepted tables
module _ (s t e : List ℕ) where
  abbrev EmbeddingWritten : Type 0
  EmbeddingWritten = WrittenBy (ValidEmbedding (table_of s) (table_of t)) embedding_bytes e

  embedding_written : judged_table s ≡ sound → judged_table t ≡ sound → judged_embedding (table_of s) (table_of t) e ≡ sound → EmbeddingWritten
  embedding_written source target h =
      let root = (table_sound t target).well_formed.has_root in
      let valid = accepted_embedding_valid (table_of s) (table_of t) root e h in
      let same = accepted_embedding_written (table_of s) (table_of t) root e h in
      let short = valid_embedding_short (table_of s) (table_of t) (mapping_of e) valid (accepted_table_valid s source) in
      record { written = mapping_of e; is_valid = valid; are_its_bytes = same; at_most_60000 = subst (λ (b : List ℕ). length b ≤ 60000) (sym same) (omega (arith, short)) }

  written_embedding : ValidTable (table_of s) → EmbeddingWritten → judged_embedding (table_of s) (table_of t) e ≡ sound
  written_embedding source w =
      ap (judged_embedding (table_of s) (table_of t)) w.are_its_bytes ∙ valid_embedding_accepted (table_of s) (table_of t) w.written w.is_valid source

  pub embedding_accepted_exactly : AcceptedEmbedding s t e ↔ (WrittenBy ValidTable table_bytes s × WrittenBy ValidTable table_bytes t × EmbeddingWritten)
  embedding_accepted_exactly = (
    λ a.
        let j = judges_accept s t e a.1 in
        (table_written s j.source_sound, table_written t j.target_sound, embedding_written j.source_sound j.target_sound j.embedding_sound),
    λ w.
        judges_are_all s t e
        (record { source_sound = written_table s w.0; target_sound = written_table t w.1; embedding_sound = written_embedding (table_valid s w.0) w.2 }),
  )

-- a tree by its judge, by an accepted table
pub tree_accepted_exactly : (t d : List ℕ) → AcceptedTree t d ↔ (WrittenBy ValidTable table_bytes t × WrittenBy (ValidTree (table_of t)) (document 0) d)
tree_accepted_exactly t d = (
  λ a. let j = tree_judged t d a.1 in (table_written t j.0, (tree_exactly (table_of t) (table_sound t j.0).well_formed d).0 j.1),
  λ w.
      let table = written_table t w.0 in
      tree_is_accepted t d table ((tree_exactly (table_of t) (table_sound t table).well_formed d).1 w.1),
)
