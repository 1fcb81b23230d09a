-- From the verdicts of the checks, in order, to the judgement.
use mathlib.Core.Path.{◌≡◌, refl, sym, ap, ◌∙◌, subst}
use mathlib.Core.Bool.{true, false}
use mathlib.Core.List.{List}
use mathlib.Core.Logic.{inl, inr}
use Prim.Native.Nat.{ℕ, ◌≤◌, ◌<◌}
use native.Mathlib.Omega.{arith}
use lib.ListN.{length, get_or}
use borrow.Author.Tests.{le-leb, lt-leb}
use Rattle.embedding_judge.specs.Judging.{edge_checks, path_checks, Judgeable, UpToClashes, EmbeddingJudged}
use Rattle.answers.specs.Answers.{verdict, fault, judged}
use Rattle.std.specs.Prelude.{Result, Ok, Err, ⊤, MatchResult, IsErrAnd, is_ok}
use Rattle.std.proofs.lemmas.Result.{err_from_is_err_and}
use Rattle.answers.specs.declared.Fault.{Fault}
use Rattle.loaded_table.specs.Loaded.{table_by, length_of_lem}
use Rattle.loaded_embedding.specs.Loaded.{embedding_by}
use Rattle.embedding_clash.specs.Ready.{Checkable}
use Rattle.embedding_load.specs.Loading.{EmbeddingLoaded}
use Rattle.model.specs.Definitions.Basics as model
use Rattle.model.specs.Definitions.Basics.{passes, fails}
use Rattle.model.specs.Definitions.Table.{Table}
use Rattle.model.specs.Definitions.Embedding.{Edge, Embedding, no_map, target_of, embedding_of}
use Rattle.model.specs.Definitions.EmbeddingChecks.{embedding_form, embedding_limits, embedding_operands, root_to_root, wrong_end_verdict, wrong_steps_verdict, path_clash_verdict}
use Rattle.model.specs.Definitions.Refusals as refusals
use Rattle.model.specs.Definitions.Refusals.{sound, has, fault_at, fault_unless, fits}
use Rattle.model.specs.Definitions.Entries.{judged_embedding}
use Rattle.model.proofs.Theorems.Facts.{All, Walks}
use Rattle.model.proofs.Theorems.JudgedEmbeddings.{paths_walk}

-- a fault is no acceptance, and another than a clash is no clash
other_fault : {X : Type 0} (f : refusals.Fault) {j : refusals.Judged} → ((at : ℕ) → f ≡ refusals.path_clash at → ⊥) → j ≡ has f → UpToClashes j → X
other_fault f {j} other p (inl q) = let z : ◌≡◌ {A = ℕ} 0 1 = cc in absurd (omega arith)
other_fault f {j} other p (inr q) = absurd (other q.0 (same-fault (sym p ∙ q.1)))
  where
    same-fault : {g h : refusals.Fault} → has g ≡ has h → g ≡ h
    same-fault {g} {h} e = cc

-- no fault is a verdict that passes
pub is_passes : (r : Result ⊤ ℕ) → is_ok r ≡ true → verdict r ≡ passes
is_passes (Ok x) e = refl
is_passes (Err at) e = let z : ◌≡◌ {A = ℕ} 0 1 = cc in absurd (omega arith)

-- ---- one check, whose offset gets the name of a fault

-- what is told of it: the model's verdict, and the answer with the name
pub record Check (name : ℕ → Fault) (r : Result ⊤ ℕ) (named : Result ⊤ Fault) (w : model.Verdict) : Type 0 where
  pub told : verdict r ≡ w
  pub with_name : MatchResult r (λ x. named ≡ Ok x) (λ at. IsErrAnd named (λ f. f ≡ name at))

module _ {name : ℕ → Fault} {named : Result ⊤ Fault} {w : model.Verdict} where
  -- it passes
  pub check_passes : (r : Result ⊤ ℕ) {x : ⊤} → Check name r named w → named ≡ Ok x → w ≡ passes
  check_passes (Ok x) c e = sym c.told
  check_passes (Err at) c e = let p = err_from_is_err_and named c.with_name in let z : Err p.0 ≡ Ok _ = sym p.1 ∙ e in let z : ◌≡◌ {A = ℕ} 0 1 = cc in absurd (omega arith)

  -- it fails, and so does the whole
  pub check_fails : (r : Result ⊤ ℕ) {f : Fault} {whole : Result ⊤ Fault} → Check name r named w → named ≡ Err f → IsErrAnd whole (λ g. g ≡ f) → (at : ℕ) × (w ≡ fails at) × (whole ≡ Err (name at))
  check_fails (Ok x) c e end = let z : Ok x ≡ Err _ = sym c.with_name ∙ e in let z : ◌≡◌ {A = ℕ} 0 1 = cc in absurd (omega arith)
  check_fails (Err at) {f} {whole} c e end =
      let p = err_from_is_err_and named c.with_name in
      let q = err_from_is_err_and whole end in
      let same : Err f ≡ Err p.0 = sym e ∙ p.1 in
      let same : f ≡ p.0 = cc in
      (at, sym c.told, q.1 ∙ ap Err (q.2 ∙ same ∙ p.2))

  -- it is the last
  pub check_last : (r : Result ⊤ ℕ) → Check name r named w → judged named ≡ fault_at (λ at. fault (name at)) w (λ u. sound)
  unfolding fault_at
  check_last (Ok x) c = ap judged c.with_name ∙ ap (λ (v : model.Verdict). fault_at (λ at. fault (name at)) v (λ u. sound)) c.told
  check_last (Err at) c =
      let p = err_from_is_err_and named c.with_name in
      ap judged (p.1 ∙ ap Err p.2) ∙ ap (λ (v : model.Verdict). fault_at (λ at. fault (name at)) v (λ u. sound)) c.told

-- ---- checks 7 to 10

module _ (S T : Table) (E : Embedding) where
  pub root_moved : root_to_root E ≡ false → judged (Err Fault.RootMoved) ≡ path_checks S T E
  unfolding path_checks fault_unless
  root_moved e = sym (rw e refl)

  -- the root is kept: the other checks decide
  pub root_kept : (j : Result ⊤ Fault) → root_to_root E ≡ true → judged j ≡ edge_checks S T E → judged j ≡ path_checks S T E
  unfolding path_checks fault_unless
  root_kept j r e = rw r e

  pub ends_wrong : (at : ℕ) → wrong_end_verdict S T E ≡ fails at → judged (Err (Fault.WrongEnd at)) ≡ edge_checks S T E
  unfolding edge_checks fault_at
  ends_wrong at e = sym (rw e refl)

  pub steps_wrong : (at : ℕ) → wrong_end_verdict S T E ≡ passes → wrong_steps_verdict S T E ≡ fails at → judged (Err (Fault.WrongSteps at)) ≡ edge_checks S T E
  unfolding edge_checks fault_at
  steps_wrong at e f = sym (rw (e, f) refl)

  -- the last one decides
  pub clash_decides : {j : refusals.Judged} → wrong_end_verdict S T E ≡ passes → wrong_steps_verdict S T E ≡ passes → j ≡ fault_at refusals.path_clash (path_clash_verdict S T E) (λ u. sound) → j ≡ edge_checks S T E
  unfolding edge_checks fault_at
  clash_decides e f same = rw (e, f) same

  pub paths_right : wrong_end_verdict S T E ≡ passes → wrong_steps_verdict S T E ≡ passes → path_clash_verdict S T E ≡ passes → judged (Ok tt) ≡ edge_checks S T E
  unfolding edge_checks fault_at
  paths_right e f g = sym (rw (e, f, g) refl)

-- ---- all checks

module _ (S T : Table) (bs map : List ℕ) where
  refused : (f : Fault) → ((at : ℕ) → fault f ≡ refusals.path_clash at → ⊥) → judged_embedding S T bs ≡ has (fault f) → EmbeddingJudged S T bs (Err f) map
  refused f other g = record { judgement = sym g; loaded = other_fault (fault f) other g }

  pub length_refused : 60000 < length bs → EmbeddingJudged S T bs (Err Fault.TooLong) map
  unfolding judged_embedding fault_unless fits
  length_refused long = refused Fault.TooLong (λ at e. let z : ◌≡◌ {A = ℕ} 0 1 = cc in absurd (omega arith)) (rw (lt-leb (length bs) 60000 long) refl)

  module _ (short : length bs ≤ 60000) where
    pub form_refused : (at : ℕ) → embedding_form S bs ≡ fails at → EmbeddingJudged S T bs (Err (Fault.BadForm at)) map
    unfolding judged_embedding fault_unless fault_at fits
    form_refused at e = refused (Fault.BadForm at) (λ m e. let z : ◌≡◌ {A = ℕ} 0 1 = cc in absurd (omega arith)) (rw (le-leb (length bs) 60000 short, e) refl)

    module _ (f : embedding_form S bs ≡ passes) where
      pub limit_refused : (at : ℕ) → embedding_limits bs ≡ fails at → EmbeddingJudged S T bs (Err (Fault.OverLimit at)) map
      unfolding judged_embedding fault_unless fault_at fits
      limit_refused at e = refused (Fault.OverLimit at) (λ m e. let z : ◌≡◌ {A = ℕ} 0 1 = cc in absurd (omega arith)) (rw (le-leb (length bs) 60000 short, f, e) refl)

      module _ (l : embedding_limits bs ≡ passes) where
        pub operand_refused : (at : ℕ) → embedding_operands T bs ≡ fails at → EmbeddingJudged S T bs (Err (Fault.BadOperand at)) map
        unfolding judged_embedding fault_unless fault_at fits
        operand_refused at e = refused (Fault.BadOperand at) (λ m e. let z : ◌≡◌ {A = ℕ} 0 1 = cc in absurd (omega arith)) (rw (le-leb (length bs) 60000 short, f, l, e) refl)

        -- after the first four checks those of the paths decide
        pub paths-decide : (r : Result ⊤ Fault) → embedding_operands T bs ≡ passes → EmbeddingLoaded bs S map → judged r ≡ path_checks S T (embedding_by bs S map) → EmbeddingJudged S T bs r map
        paths-decide r o loaded e =
            record { judgement = e ∙ ap (path_checks S T) loaded.same_embedding ∙ sym same; loaded = λ reached. loaded }
          where
            same : judged_embedding S T bs ≡ path_checks S T (embedding_of bs)
            same = unfold judged_embedding path_checks edge_checks fault_unless fault_at fits in rw (le-leb (length bs) 60000 short, f, l, o) refl

-- what the path checks ask, once the operands are right
pub paths_ready : {source target em map : List ℕ} → Judgeable source target → embedding_operands (table_by target) em ≡ passes → EmbeddingLoaded em (table_by source) map
    → Checkable source target em map
paths_ready {source} {target} {em} {map} h o loaded =
    record {
      source_bounded = h.source_bounded;
      target_bounded = h.target_bounded;
      paths_bounded = loaded.bounded;
      source_formed = h.source_sound.well_formed;
      target_formed = h.target_sound.well_formed;
      walks = λ s exists. (walks_at s).1;
      targets_exist = λ s exists. subst (λ (n : ℕ). target_of (embedding_by em (table_by source) map) s < n) (length_of_lem target) (walks_at s).0;
    }
  where
    T : Table
    T = table_by target

    E : Embedding
    E = embedding_by em (table_by source) map

    walks_at : (s : ℕ) → (target_of E s < length T) × All (λ (d : Edge). Walks T (target_of E s) d.steps) (get_or E s no_map).edges
    walks_at s =
        subst (λ (F : Embedding). (target_of F s < length T) × All (λ (d : Edge). Walks T (target_of F s) d.steps) (get_or F s no_map).edges) (sym loaded.same_embedding)
        (paths_walk T em h.target_sound.well_formed.has_root o s)
