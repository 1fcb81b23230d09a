-- Check 7, then all others at once or one after the other.
use mathlib.Core.Path.{◌≡◌, sym, ◌∙◌}
use mathlib.Core.Bool.{true}
use Rattle.std.specs.Prelude.{Ok}
use Rattle.loaded_table.specs.Loaded.{table_by}
use Rattle.loaded_embedding.specs.Loaded.{embedding_by}
use Rattle.model.specs.Definitions.EmbeddingChecks.{root_to_root}
use Rattle.embedding_checks.specs.declared.EdgeCheck.TheVariants.{Ends, Steps, Clashes}
use Rattle.embedding_checks.proofs.Each.{all_right}
use Rattle.embedding_judge.proofs.Checks.{is_passes, root_moved, root_kept, paths_right}
use Rattle.embedding_judge.proofs.judge_paths.Goals.{Else-not-root_to_root}
use Rattle.embedding_judge.proofs.judge_paths.Goals as goal

-- where check 7 has passed
kept : (c : Else-not-root_to_root) → let a = c.args in root_to_root (embedding_by a.em.now (table_by a.source.now) a.map.now) ≡ true
kept c = sym (c.root_to_root.ensures c.args.em.now (table_by c.args.source.now) c.requires.source_formed.has_root) ∙ c.if-not-root_to_root.false

pub returns-then-not-root_to_root : goal.returns-then-not-root_to_root
returns-then-not-root_to_root c = root_moved _ _ _ (sym (c.root_to_root.ensures c.args.em.now (table_by c.args.source.now) c.requires.source_formed.has_root) ∙ c.if-not-root_to_root.true)

-- all pass at once
pub returns-then-is_ok : goal.returns-then-is_ok
returns-then-is_ok c =
    let each = all_right c.requires (sym c.first_fault.ensures ∙ is_passes c.first_fault.result (sym c.is_ok.ensures.value ∙ c.if-is_ok.true)) in
    root_kept _ _ _ (Ok tt) (kept (goal.at.returns-then-is_ok c).Else-not-root_to_root) (paths_right _ _ _ (each Ends) (each Steps) (each Clashes))

pub returns : goal.returns
returns c = root_kept _ _ _ c.judge_each.result (kept (goal.at.returns c).Else-not-root_to_root) c.judge_each.ensures
