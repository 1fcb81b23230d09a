use mathlib.Core.Bool.{not}
-- Check 9 of an edge, on its path and, for an optional choice, on the type's first one.
use mathlib.Core.Path.{ap, ◌≡◌, sym, ◌∙◌}
use native.Mathlib.Omega.{arith}
use borrow.Author.Tests.{eq-eqb, ne_eqb}
use Rattle.model.specs.Definitions.Table.{kind_of}
use Rattle.model.specs.Definitions.Embedding.{leaves, edge_of}
use Rattle.model.specs.Definitions.EmbeddingChecks.{right_steps}
use Rattle.loaded_table.specs.Loaded.{table_by}
use Rattle.embedding_clash.specs.Ready.{map_of}
use Rattle.embedding_clash.proofs.ClashLaws.{same_steps_lem}
use Rattle.embedding_checks.proofs.Here.{type_here, edge_here, few_before, path_here, walkable_here, first_here, count_first, optional_here}
use Rattle.embedding_ends.proofs.StepLaws.{kinds_right}
use Rattle.embedding_checks.proofs.StepsRight.{kinds_wrong, nothing_more, first-decides}
use Rattle.embedding_checks.specs.Tests.{edge_right}
use Rattle.embedding_checks.proofs.steps_right.Goals.{After-right_kinds}
use Rattle.embedding_checks.proofs.steps_right.Goals as goal

-- what was found of them
found : (c : After-right_kinds)
    → let a = c.args in
    c.right_kinds.result
    ≡ right_steps (kind_of (table_by a.source.now) a.s)
    (leaves (table_by a.target.now) (map_of a.source.now a.em.now a.map.now a.s).target (edge_of (map_of a.source.now a.em.now a.map.now a.s) a.i).steps)
found c =
    c.right_kinds.ensures
    ∙ kinds_right c.requires.ready _ _ c.requires.type_exists c.requires.edge_exists c.kind-kind.ensures.0 c.target-from.ensures.0 c.steps-count.ensures.0 (path_here c.requires) c.kinds_left-left.ensures

pub offset_bounds-paths-i : goal.offset_bounds-paths-i
offset_bounds-paths-i c = omega (arith, few_before c.requires)

pub bounds-paths-i : goal.bounds-paths-i
bounds-paths-i c = few_before c.requires

pub overflow_add-s : goal.overflow_add-s
overflow_add-s c = omega (arith, (edge_here c.requires).inside)

pub steps-count-requires : goal.steps-count-requires
steps-count-requires c = (edge_here c.requires).inside

pub kinds_left-left-requires : goal.kinds_left-left-requires
kinds_left-left-requires c = walkable_here c.requires c.target-from.ensures.0 c.steps-count.ensures.0

pub returns-then-not-right_kinds : goal.returns-then-not-right_kinds
unfolding edge_right
returns-then-not-right_kinds c = kinds_wrong _ _ _ _ (found (goal.at.returns-then-not-right_kinds c).After-right_kinds) (ap not c.if-not-right_kinds.true)

pub returns-then-kind-ne-OPTIONAL : goal.returns-then-kind-ne-OPTIONAL
unfolding edge_right
returns-then-kind-ne-OPTIONAL c = nothing_more _ _ _ _ (found (goal.at.returns-then-kind-ne-OPTIONAL c).After-right_kinds) (ap not c.if-not-right_kinds.false) (optional_here c.requires c.kind-kind.ensures.0 ∙ ne_eqb _ 4 c.if-kind-ne-OPTIONAL.true)

pub bounds-paths-0 : goal.bounds-paths-0
bounds-paths-0 c = omega arith

pub overflow_mul-s-2 : goal.overflow_mul-s-2
overflow_mul-s-2 c = omega (arith, (edge_here c.requires).inside)

pub steps-steps-requires : goal.steps-steps-requires
steps-steps-requires c = omega (arith, (edge_here c.requires).inside)

pub agree-requires : goal.agree-requires
agree-requires c =
    let from = c.target-from.ensures.0 in
    record { walkable = walkable_here (first_here c.requires) from (count_first c.requires c.steps-steps.ensures.0); walkable_2 = walkable_here c.requires from c.steps-count.ensures.0 }

pub returns : goal.returns
unfolding edge_right
returns c =
    let agreed = c.agree.ensures in
    let from-there = c.target-from.ensures.0 ∙ sym (type_here c.requires).target_is in
    let first_there = same_steps_lem c.requires.ready _ _ c.requires.type_exists (first_here c.requires).edge_exists (count_first c.requires c.steps-steps.ensures.0) (path_here (first_here c.requires)) in
    let steps-there = same_steps_lem c.requires.ready _ _ c.requires.type_exists c.requires.edge_exists c.steps-count.ensures.0 (path_here c.requires) in
    first-decides _ _ _ _ (found (goal.at.returns c).After-right_kinds) (ap not c.if-not-right_kinds.false) (optional_here c.requires c.kind-kind.ensures.0 ∙ eq-eqb _ 4 c.if-kind-ne-OPTIONAL.false) (rw (from-there, first_there, steps-there) at agreed)
