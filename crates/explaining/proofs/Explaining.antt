-- From what judging and searching found to the explanation.
use mathlib.Core.Path.{◌≡◌, refl, sym, ap, ◌∙◌, subst}
use mathlib.Core.Bool.{true, false}
use mathlib.Core.List.{List}
use mathlib.Core.Option.{Option, none, some}
use Prim.Native.Nat.{ℕ}
use native.Mathlib.Omega.{arith}
use lib.Dec.{eqb}
use borrow.Author.Tests.{eqb-true, eqb-false}
use Rattle.answers.specs.declared.Clash.{Clash}
use Rattle.answers.specs.declared.Refusal.{Refusal}
use Rattle.std.specs.Prelude as std
use Rattle.std.specs.Prelude.{Ok, Err}
use Rattle.answers.specs.declared.Explanation.{Explanation}
use Rattle.answers.specs.Answers as answers
use Rattle.answers.specs.Answers.{clash, search, counted_result}
use Rattle.loaded_table.specs.Loaded.{table_by}
use Rattle.loaded_embedding.specs.Loaded.{embedding_by}
use Rattle.embedding_clash.specs.Ready.{Checkable}
use Rattle.embedding_judge.proofs.Checks.{paths_ready}
use Rattle.embedding_load.specs.Loading.{EmbeddingLoaded}
use Rattle.setting_judge.specs.Judging.{Refusing, AllLoaded, Standing, SettingRefused}
use Rattle.setting_judge.specs.Laws.{refused_answer, counted-answer}
use Rattle.model.specs.Definitions.Basics.{passes}
use Rattle.model.specs.Definitions.Table.{Table, table_of}
use Rattle.model.specs.Definitions.Embedding.{embedding_of}
use Rattle.model.specs.Definitions.EmbeddingChecks.{embedding_operands}
use Rattle.model.specs.Definitions.Entries.{Result, answer_of, edge_count, judge_embedding}
use Rattle.model.specs.Definitions.Explanation as model
use Rattle.model.specs.Definitions.Explanation.{clash_of, explanation, explain}
use Rattle.model.proofs.Theorems.Facts.{SoundTable}
use Rattle.model.proofs.Theorems.JudgedTables.{table_sound}
use Rattle.model.proofs.Theorems.Explanations.{RefusedFor10, refused_10, only_clash, explain_10, explain_other}

-- ---- what a search found

pub nothing_found : {r : std.Option Clash} {o : Option model.Clash} → search r ≡ o → r ≡ std.None → o ≡ none
nothing_found e told = sym e ∙ ap search told

pub something_found : {r : std.Option Clash} {o : Option model.Clash} {c : Clash} → search r ≡ o → r ≡ std.Some c → o ≡ some (clash c)
something_found e told = sym e ∙ ap search told

-- ---- what judging answered

-- the number of a refusal
abbrev number : Refusal → ℕ
number r = (answer_of (counted_result (Err r))).refusal

module _ {s t e : List ℕ} {r : Refusal} (refusing : Refusing s t e r) where
  -- it is the number of the judging answer
  number_is : (answer_of (judge_embedding s t e)).refusal ≡ number r
  number_is = ap (λ (x : Result). (answer_of x).refusal) (sym (refused_answer refusing))

  -- refused with 10
  pub for_10 : eqb (number r) 10 ≡ true → (answer_of (judge_embedding s t e)).refusal ≡ 10
  for_10 told = number_is ∙ eqb-true _ 10 told

  -- refused otherwise: the judging answer
  pub refused_otherwise : eqb (number r) 10 ≡ false → answers.explanation (Explanation.Unexplained (Err r)) ≡ explain s t e
  refused_otherwise told = ap model.unexplained (refused_answer refusing) ∙ sym (explain_other s t e (λ ten. eqb-false _ 10 told (sym number_is ∙ ten)))

-- accepted: the judging answer
pub accepted_so : {s t e from to map : List ℕ} (n : ℕ) → Standing s t e from to map → n ≡ edge_count (table_by from) → answers.explanation (Explanation.Unexplained (Ok n)) ≡ explain s t e
unfolding answer_of
accepted_so {s} {t} {e} n h count =
    let answer = counted-answer n h count in
    let zero : 0 ≡ (answer_of (judge_embedding s t e)).refusal = ap (λ (x : Result). (answer_of x).refusal) answer in
    ap model.unexplained answer ∙ sym (explain_other s t e (λ ten. omega (arith, zero, ten)))

-- ---- refused with 10

module _ {s t e from to map : List ℕ} {r : Refusal} (refused : SettingRefused s t e from to map r) (told : eqb (number r) 10 ≡ true) where
  ten : (answer_of (judge_embedding s t e)).refusal ≡ 10
  ten = for_10 refused.refusing told

  found_10 : RefusedFor10 s t e
  found_10 = refused_10 s t e ten

  loaded : AllLoaded s t e from to map
  loaded = refused.loaded_for_10 found_10

  -- the loaded documents can be searched
  pub searchable : Checkable from to e map
  searchable =
      paths_ready
      (record {
        source_bounded = loaded.source_stands.bounded;
        target_bounded = loaded.target_stands.bounded;
        source_sound = subst SoundTable (sym loaded.source_stands.same_table) (table_sound s found_10.source_sound);
        target_sound = subst SoundTable (sym loaded.target_stands.same_table) (table_sound t found_10.target_sound);
      })
      (subst (λ (T : Table). embedding_operands T e ≡ passes) (sym loaded.target_stands.same_table) (only_clash (table_of s) (table_of t) e found_10.found).operands)
      (subst (λ (S : Table). EmbeddingLoaded e S map) (sym loaded.source_stands.same_table) (record { same_embedding = loaded.same_embedding; bounded = loaded.paths_bounded }))

  -- and stand for what the documents write
  same_search : clash_of (table_by from) (table_by to) (embedding_by e (table_by from) map) ≡ clash_of (table_of s) (table_of t) (embedding_of e)
  same_search =
      let source : table_by from ≡ table_of s = loaded.source_stands.same_table in
      let target : table_by to ≡ table_of t = loaded.target_stands.same_table in
      let paths : embedding_by e (table_of s) map ≡ embedding_of e = loaded.same_embedding in
      rw (source, target, paths) refl

  module _ {found : std.Option Clash} (searched : search found ≡ clash_of (table_by from) (table_by to) (embedding_by e (table_by from) map)) where
    -- a clash is found
    pub clash-explained : {c : Clash} → found ≡ std.Some c → answers.explanation (Explanation.Explained c) ≡ explain s t e
    unfolding explanation
    clash-explained is = sym (explain_10 s t e ten ∙ ap (explanation (judge_embedding s t e)) (sym same_search ∙ something_found searched is))

    -- none is
    pub none-explained : found ≡ std.None → answers.explanation (Explanation.Unexplained (Err r)) ≡ explain s t e
    unfolding explanation
    none-explained is =
        ap model.unexplained (refused_answer refused.refusing)
        ∙ sym (explain_10 s t e ten ∙ ap (explanation (judge_embedding s t e)) (sym same_search ∙ nothing_found searched is))
