-- What an entry that writes answers: the first of the four documents that is refused, or what is done with an accepted tree.
use Rattle.std.specs.Prelude.{◌≡◌, refl, List, ℕ, Result, Err}
use Rattle.std.proofs.Math.Path.{sym, ap}
use Rattle.std.proofs.Common.{◌∙◌, subst, leb-true}
use Rattle.answer_numbers.specs.declared.Answer.{Answer}
use Rattle.answer_numbers.specs.Numbers.{numbers, Answers}
use Rattle.answers.specs.declared.Fault.{Fault}
use Rattle.answers.specs.declared.Refusal.{Refusal}
use Rattle.answers.specs.declared.Written.{Written}
use Rattle.answers.specs.Answers.{fault, refusal, counted_result, written_result}
use Rattle.setting_judge.specs.Judging.{Refusing, by_source, by_target, by_embedding, Standing}
use Rattle.setting_judge.specs.Laws.{same_setting}
use Rattle.loaded_setting.specs.Ready.{setting_in}
use Rattle.loaded_setting.specs.Trees.{SoundTree}
use Rattle.loaded_table.specs.Loaded as loaded_table
use Rattle.loaded_table.specs.Loaded.{Stands}
use Rattle.model.specs.Definitions.Table.{Table, table_of}
use Rattle.model.specs.Definitions.Refusals.{source_table, target_table, embedding, tree, faulty, sound, has, fits}
use Rattle.model.specs.Definitions.Image.{Setting}
use Rattle.model.specs.Definitions.Entries as model
use Rattle.model.specs.Definitions.Entries.{Outcome, setting_of, answer_of, untouched, unless_faulty, judged_table, judged_embedding, judged_tree}
use Rattle.model.proofs.Theorems.Facts.{SoundTable}
use Rattle.model.proofs.Theorems.JudgedTables.{table_sound, tree_checks}
use Rattle.model.proofs.Theorems.Documents.{accepted_content}
use Rattle.model.proofs.Theorems.EntryLaws.{Judges}

-- ---- what is answered

-- result and output are those of an outcome, of what answers one number and of what answers two
pub record Counts (o : Outcome) (new : List ℕ) (r : Result ℕ Refusal) : Type 0 where
  pub same_result : counted_result r ≡ o.result
  pub same_output : new ≡ o.output

pub record Writes (o : Outcome) (new : List ℕ) (r : Result Written Refusal) : Type 0 where
  pub same_result : written_result r ≡ o.result
  pub same_output : new ≡ o.output

-- so are the answer's numbers
pub counts_answered : {o : Outcome} {new : List ℕ} {r : Result ℕ Refusal} (a : Answer) → Counts o new r → numbers a ≡ answer_of (counted_result r) → Answers o new a
counts_answered a h answer = record { same_answer = answer ∙ ap answer_of h.same_result; same_output = h.same_output }

pub writes_answered : {o : Outcome} {new : List ℕ} {r : Result Written Refusal} (a : Answer) → Writes o new r → numbers a ≡ answer_of (written_result r) → Answers o new a
writes_answered a h answer = record { same_answer = answer ∙ ap answer_of h.same_result; same_output = h.same_output }

-- a refusal leaves the output as it was
pub counts_refused : (out : List ℕ) (why : Refusal) → Counts (untouched out (refusal why)) out (Err why)
unfolding untouched
counts_refused out why = record { same_result = refl; same_output = refl }

pub writes_refused : (out : List ℕ) (why : Refusal) → Writes (untouched out (refusal why)) out (Err why)
unfolding untouched
writes_refused out why = record { same_result = refl; same_output = refl }

-- what is said of an outcome holds of the same outcome otherwise written
pub counts_as : {o p : Outcome} {new : List ℕ} {r : Result ℕ Refusal} → Counts o new r → o ≡ p → Counts p new r
counts_as {new = new} {r = r} h e = subst (λ (q : Outcome). Counts q new r) e h

pub writes_as : {o p : Outcome} {new : List ℕ} {r : Result Written Refusal} → Writes o new r → o ≡ p → Writes p new r
writes_as {new = new} {r = r} h e = subst (λ (q : Outcome). Writes q new r) e h

-- ---- the first three documents

-- what comes after them
abbrev after_setting : List ℕ → List ℕ → List ℕ → List ℕ → Outcome → Outcome
after_setting s t e out later =
    unless_faulty (untouched out) source_table (judged_table s) λ u.
    unless_faulty (untouched out) target_table (judged_table t) λ u.
    unless_faulty (untouched out) embedding (judged_embedding (table_of s) (table_of t) e) λ u.
    later

-- one of them is refused
pub setting_refused : (s t e out : List ℕ) (later : Outcome) {why : Refusal} → Refusing s t e why → untouched out (refusal why) ≡ after_setting s t e out later
unfolding unless_faulty
setting_refused s t e out later (by_source h) = rw h refl
setting_refused s t e out later (by_target g h) = rw (g, h) refl
setting_refused s t e out later (by_embedding g h i) = rw (g, h, i) refl

-- none is
setting_accepted : (s t e out : List ℕ) (later : Outcome) → Judges s t e → after_setting s t e out later ≡ later
unfolding unless_faulty
setting_accepted s t e out later j = rw (j.source_sound, j.target_sound, j.embedding_sound) refl

-- ---- the tree

-- what an entry that writes answers once the setting is accepted: the tree's fault, or what is done with it
abbrev after_tree : Table → List ℕ → List ℕ → Outcome → Outcome
after_tree T tr out done = unless_faulty (untouched out) tree (judged_tree T tr) λ u. done

-- an accepted tree is a conforming document
pub sound_tree : (bs rows tr : List ℕ) → judged_table bs ≡ sound → Stands rows (table_of bs) → judged_tree (loaded_table.table_by rows) tr ≡ sound → SoundTree (loaded_table.table_by rows) tr
unfolding fits
sound_tree bs rows tr accepted stands found =
    let S : Table = loaded_table.table_by rows in
    let checks = tree_checks S tr found in
    let well_formed = (subst SoundTable (sym stands.same_table) (table_sound bs accepted)).well_formed in
    let content = accepted_content S well_formed tr checks.form checks.operands checks.expected in
    record { form = content.0; holds = content.1; short = leb-true _ _ checks.short }

-- ---- both

-- An entry's outcome for the documents' tables is its outcome for the loaded ones: `T` is the table that judges the tree, as the
-- document writes it and as loaded, and `done` what is done with an accepted tree.
module _ {s t e from to map : List ℕ} (h : Standing s t e from to map) (done : Setting → Outcome) {T loaded : Table} (same : loaded ≡ T) (tr out : List ℕ) where
  after_setting_lem : after_tree loaded tr out (done (setting_in from to map e)) ≡ after_setting s t e out (after_tree T tr out (done (setting_of s t e)))
  after_setting_lem =
      sym (setting_accepted s t e out _ h.judges
      ∙ ap (λ (U : Table). after_tree U tr out (done (setting_of s t e))) (sym same)
      ∙ ap (λ (X : Setting). after_tree loaded tr out (done X)) (sym (same_setting h)))

  -- the tree is refused
  pub tree_refused : (f : Fault) → judged_tree loaded tr ≡ has (fault f) → untouched out (faulty tree (fault f)) ≡ after_setting s t e out (after_tree T tr out (done (setting_of s t e)))
  unfolding unless_faulty
  tree_refused f found = (rw found refl) ∙ after_setting_lem

  -- it is accepted: what is done with it
  pub tree_accepted : judged_tree loaded tr ≡ sound → done (setting_in from to map e) ≡ after_setting s t e out (after_tree T tr out (done (setting_of s t e)))
  unfolding unless_faulty
  tree_accepted found = (rw found refl) ∙ after_setting_lem
