-- The entries with another rule for the kinds of steps in check 9, to be held beside the entries themselves (02, N6). A rule
-- that asks for more accepts no embedding that isn't accepted, and with what it accepts every entry answers as it does.
use Rattle.std.specs.Prelude.{◌≡◌, refl, Bool, true, ◌&&◌, List, [], ◌∷◌, map, ℕ}
use Rattle.std.proofs.Math.Path.{sym, ap}
use Rattle.std.proofs.Common.{◌∙◌}
use Rattle.model.specs.Definitions.Basics.{Verdict, passes, fails, or_else}
use Rattle.model.specs.Definitions.Table.{Kind, Table, table_of}
use Rattle.model.specs.Definitions.Content.{content_of}
use Rattle.model.specs.Definitions.Embedding.{Edge, TypeMap, Embedding, embedding_of, leaves, first_path}
use Rattle.model.specs.Definitions.EmbeddingChecks.{first_edge, each_type, right_steps, agrees, steps_of, wrong_steps_verdict}
use Rattle.model.specs.Definitions.Inverse.{bring_back_content}
use Rattle.model.specs.Definitions.Refusals.{source_table, target_table, embedding, tree, Judged, sound}
use Rattle.model.specs.Definitions.Entries.{judged_table, judged_embedding, judged_tree, Result, refused, accepted, Outcome, unless_faulty, edge_count, judge_embedding, untouched, setting_of, carry_content, carry, bring_content, bring_back}
use Rattle.model.proofs.Theorems.Tools.{pick_true, and_left, and_right, and_both}
use Rattle.model.proofs.Theorems.JudgedTables.{pick_passes}
use Rattle.model.proofs.Theorems.JudgedEmbeddings.{or_else_passes, judged_with, judged_with_lem, embedding_checks}
use Rattle.model.proofs.Theorems.EntryLaws.{past_judge}

-- ---- the three entries that take an embedding, as `Entries` has them, given how it is judged

unfoldable pub judge_embedding_with : List ℕ → List ℕ → Judged → Result
judge_embedding_with source target judged =
    unless_faulty refused source_table (judged_table source) λ u.
    unless_faulty refused target_table (judged_table target) λ u.
    unless_faulty refused embedding judged λ u.
    accepted (edge_count (table_of source)) 0

unfoldable pub carry_with : List ℕ → List ℕ → List ℕ → Judged → List ℕ → List ℕ → Outcome
carry_with source target em judged tr out =
    unless_faulty (untouched out) source_table (judged_table source) λ u.
    unless_faulty (untouched out) target_table (judged_table target) λ u.
    unless_faulty (untouched out) embedding judged λ u.
    unless_faulty (untouched out) tree (judged_tree (table_of source) tr) λ u.
    carry_content out (setting_of source target em) (content_of tr)

unfoldable pub bring_back_with : List ℕ → List ℕ → List ℕ → Judged → List ℕ → List ℕ → Outcome
bring_back_with source target em judged tr out =
    unless_faulty (untouched out) source_table (judged_table source) λ u.
    unless_faulty (untouched out) target_table (judged_table target) λ u.
    unless_faulty (untouched out) embedding judged λ u.
    unless_faulty (untouched out) tree (judged_tree (table_of target) tr) λ u.
    bring_content out (bring_back_content (setting_of source target em) (content_of tr))

-- ---- with a rule in place of `right_steps`

module _ (rule : Kind → List Kind → Bool) where
  -- check 9 of a source type, and the judging of an embedding
  unfoldable pub steps_by : Table → Kind → TypeMap → Verdict
  steps_by T κ f =
      let first = first_path (map (λ (e : Edge). e.steps) f.edges) in
      first_edge (λ e. rule κ (leaves T f.target e.steps) && agrees T κ f.target first e.steps) f.edges

  unfoldable pub judged_by : List ℕ → List ℕ → List ℕ → Judged
  judged_by s t e = judged_with (table_of s) (table_of t) e (each_type (steps_by (table_of t)) (table_of s) (embedding_of e))

-- ---- what they answer

-- the entries answer as they would if an embedding were judged so
pub record AnsweredBy (s t e : List ℕ) (judged : Judged) : Type 0 where
  pub judges_so : judge_embedding s t e ≡ judge_embedding_with s t judged
  pub carries_so : (d out : List ℕ) → carry s t e d out ≡ carry_with s t e judged d out
  pub brings_so : (d out : List ℕ) → bring_back s t e d out ≡ bring_back_with s t e judged d out

-- they do where it is judged so
answered : (s t e : List ℕ) (judged : Judged) → judged_embedding (table_of s) (table_of t) e ≡ judged → AnsweredBy s t e judged
unfolding judge_embedding judge_embedding_with carry carry_with bring_back bring_back_with
answered s t e judged same = record { judges_so = rw same; carries_so = λ d out. rw same; brings_so = λ d out. rw same }

-- with the rule that holds
pub answered_by_rule : (s t e : List ℕ) → AnsweredBy s t e (judged_by right_steps s t e)
unfolding judged_by steps_by wrong_steps_verdict steps_of
answered_by_rule s t e = answered s t e (judged_by right_steps s t e) (judged_with_lem (table_of s) (table_of t) e)

-- ---- a rule that asks for more

-- what passes a check of each edge passes one that asks for less
edges_pass : {f g : Edge → Bool} → ((d : Edge) → f d ≡ true → g d ≡ true) → (es : List Edge) → first_edge f es ≡ passes → first_edge g es ≡ passes
unfolding first_edge
edges_pass less [] e = refl
edges_pass {f} {g} less (d ∷ es) e =
    let both = pick_passes (f d) (first_edge f es) d.at e in
    pick_true (g d) (first_edge g es) (fails d.at) (less d both.0) ∙ edges_pass less es both.1

-- two checks that pass
or_else_both : {v w : Verdict} → v ≡ passes → w ≡ passes → or_else v w ≡ passes
unfolding or_else
or_else_both {v} {w} p q = rw (p, q)

-- and so with a check of each source type
types_pass : {f g : Kind → TypeMap → Verdict} → ((κ : Kind) (m : TypeMap) → f κ m ≡ passes → g κ m ≡ passes)
    → (S : Table) (E : Embedding) → each_type f S E ≡ passes → each_type g S E ≡ passes
unfolding each_type
types_pass less [] E e = refl
types_pass less (κ ∷ S) [] e = refl
types_pass {f} {g} less (κ ∷ S) (m ∷ E) e =
    let both = or_else_passes (f κ m) (each_type f S E) e in
    or_else_both (less κ m both.0) (types_pass less S E both.1)

module _ (rule : Kind → List Kind → Bool) (stricter : (κ : Kind) (κs : List Kind) → rule κ κs ≡ true → right_steps κ κs ≡ true) (s t e : List ℕ) where
  -- what an embedding's steps pass by that rule they pass
  steps_pass : (κ : Kind) (f : TypeMap) → steps_by rule (table_of t) κ f ≡ passes → steps_of (table_of t) κ f ≡ passes
  unfolding steps_by steps_of
  steps_pass κ f = edges_pass (λ d h. and_both (stricter κ _ (and_left (rule κ _) _ h)) (and_right (rule κ _) _ h)) f.edges

  -- so an embedding judged sound by that rule is sound
  judged_too : judged_by rule s t e ≡ sound → judged_embedding (table_of s) (table_of t) e ≡ judged_by rule s t e
  unfolding judged_by wrong_steps_verdict
  judged_too h =
      let by-rule : each_type (steps_by rule (table_of t)) (table_of s) (embedding_of e) ≡ passes = (embedding_checks _ _ e _ h).right_steps_lem in
      let now : each_type (steps_of (table_of t)) (table_of s) (embedding_of e) ≡ passes = types_pass steps_pass (table_of s) (embedding_of e) by-rule in
      judged_with_lem (table_of s) (table_of t) e ∙ ap (judged_with (table_of s) (table_of t) e) (now ∙ sym by-rule)

  -- with an embedding that is accepted by that rule every entry answers as it does with that rule
  pub answered_too : {n : ℕ} → judge_embedding_with s t (judged_by rule s t e) ≡ accepted n 0 → AnsweredBy s t e (judged_by rule s t e)
  unfolding judge_embedding_with
  answered_too h =
      let first = past_judge source_table (judged_table s) _ h in
      let second = past_judge target_table (judged_table t) _ first.1 in
      let third = past_judge embedding (judged_by rule s t e) _ second.1 in
      answered s t e (judged_by rule s t e) (judged_too third.0)
