-- From judged documents to what the judging entries answer.
use Rattle.std.specs.Prelude.{◌≡◌, refl, List, ℕ, ⊤, Result, Ok, Err, length}
use Rattle.std.proofs.Common.{sym, ap, subst, ◌∙◌}
use Rattle.answers.specs.declared.Fault.{Fault}
use Rattle.answers.specs.declared.Document.TheVariants.{SourceTable, Tree}
use Rattle.answers.specs.declared.Refusal.TheVariants.{Faulty}
use Rattle.answers.specs.Answers.{counted_result}
use Rattle.table_judge.specs.Judging.{TableJudged}
use Rattle.tree_judge.specs.Judging.{TreeJudged}
use Rattle.loaded_table.specs.Loaded as loaded_table
use Rattle.loaded_table.specs.Loaded.{types_in, Bounded, length_of_lem}
use Rattle.model.specs.Definitions.Table as model
use Rattle.model.specs.Definitions.Table.{table_of}
use Rattle.model.specs.Definitions.Refusals.{sound}
use Rattle.model.specs.Definitions.Entries.{unless_faulty, judged_table, judge_table, judge_tree}

-- ---- a table that is refused

pub table_faulty : {bs rows : List ℕ} {f : Fault} → TableJudged bs (Err f) rows → counted_result (Err (Faulty SourceTable f)) ≡ judge_table bs
unfolding judge_table unless_faulty
table_faulty h = rw (← h.judgement) refl

pub tree_table_faulty : {bs rows : List ℕ} {f : Fault} (tr : List ℕ) → TableJudged bs (Err f) rows → counted_result (Err (Faulty SourceTable f)) ≡ judge_tree bs tr
unfolding judge_tree unless_faulty
tree_table_faulty tr h = rw (← h.judgement) refl

-- ---- one that is accepted

module _ {bs rows : List ℕ} {done : ⊤} (h : TableJudged bs (Ok done) rows) where
  accepted : judged_table bs ≡ sound
  accepted = sym h.judgement

  pub loaded_bounded : Bounded rows
  loaded_bounded = (h.loaded accepted).bounded

  -- it has the document's types
  pub table_counted : (n : ℕ) → n ≡ types_in rows → counted_result (Ok n) ≡ judge_table bs
  unfolding judge_table unless_faulty
  table_counted n same =
      let types : types_in rows ≡ length (table_of bs) = sym (length_of_lem rows) ∙ ap length (h.loaded accepted).same_table in
      rw (accepted, ← types, same) refl

  -- a tree is judged by it
  pub tree_counted : (tr : List ℕ) (n : ℕ) → TreeJudged (loaded_table.table_by rows) tr (Ok n) → counted_result (Ok n) ≡ judge_tree bs tr
  unfolding judge_tree unless_faulty
  tree_counted tr n j =
      let k = subst (λ (S : model.Table). TreeJudged S tr (Ok n)) (h.loaded accepted).same_table j in
      rw (accepted, k.0, k.1) refl

  pub tree_faulty : (tr : List ℕ) (f : Fault) → TreeJudged (loaded_table.table_by rows) tr (Err f) → counted_result (Err (Faulty Tree f)) ≡ judge_tree bs tr
  unfolding judge_tree unless_faulty
  tree_faulty tr f j =
      let k = subst (λ (S : model.Table). TreeJudged S tr (Err f)) (h.loaded accepted).same_table j in
      rw (accepted, k) refl
