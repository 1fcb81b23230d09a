-- `brought` meets its contract: the first of the four documents that is refused, or what is done with an accepted tree.
use Rattle.std.proofs.Common.{List, ℕ, refl}
use Rattle.std.proofs.lemmas.Result.{err_from_is_err_and}
use Rattle.model.specs.Definitions.Content.{content_of}
use Rattle.model.specs.Definitions.Image.{Setting}
use Rattle.model.specs.Definitions.Inverse.{bring_back_content}
use Rattle.model.specs.Definitions.Entries.{Outcome, bring_content, bring_back}
use Rattle.loaded_embedding.specs.Loaded.{cleared_map}
use Rattle.setting_judge.specs.Laws.{standing_ready}
use Rattle.outcomes.specs.Outcomes.{counts_as, counts_refused, setting_refused, sound_tree, tree_refused, tree_accepted}
use Rattle.bring_entry.proofs.brought.Goals as goal

-- what is done with an accepted tree
abbrev done : List ℕ → List ℕ → Setting → Outcome
done out tr X = bring_content out (bring_back_content X (content_of tr))

pub judge-requires : goal.judge-requires
judge-requires c = (refl, refl, cleared_map)

pub returns-in_err-judge : goal.returns-in_err-judge
unfolding bring_back
returns-in_err-judge c =
    let p = err_from_is_err_and c.from_residual.result c.from_residual.ensures.1 in
    rw (p.1, p.2) (counts_as (counts_refused _ _) (setting_refused _ _ _ _ _ c.in_err-judge.ensures.refusing))

pub judge-requires-2 : goal.judge-requires-2
judge-requires-2 c = c.in_ok-judge.ensures.loaded.target_stands.bounded

pub returns-in-Err : goal.returns-in-Err
unfolding bring_back
returns-in-Err c =
    let h = c.in_ok-judge.ensures in
    counts_as (counts_refused _ _) (tree_refused h (done _ _) h.loaded.target_stands.same_table _ _ _ c.in-Err.ensures)

pub bring_back-requires : goal.bring_back-requires
bring_back-requires c =
    let h = c.in_ok-judge.ensures in
    record { setting = standing_ready h; target = sound_tree _ _ _ h.judges.target_sound h.loaded.target_stands c.in-Ok.ensures.0 }

pub returns-in-Ok : goal.returns-in-Ok
unfolding bring_back
returns-in-Ok c =
    let h = c.in_ok-judge.ensures in
    let did = c.bring_back.ensures in
    counts_as (record { same_result = did.same_answer; same_output = did.same_output }) (tree_accepted h (done _ _) h.loaded.target_stands.same_table _ _ c.in-Ok.ensures.0)
