-- Check 8 of an edge, on its path.
use mathlib.Core.Path.{sym, ◌∙◌}
use native.Mathlib.Omega.{arith}
use Rattle.embedding_clash.proofs.ClashLaws.{same_steps_lem}
use Rattle.embedding_checks.proofs.Here.{type_here, edge_here, few_before, path_here, walkable_here}
use Rattle.embedding_checks.specs.Tests.{edge_right}
use Rattle.embedding_checks.proofs.ends_right.Goals as goal

pub offset_bounds-paths-i : goal.offset_bounds-paths-i
unfolding edge_right
offset_bounds-paths-i c = omega (arith, few_before c.requires)

pub bounds-paths-i : goal.bounds-paths-i
unfolding edge_right
bounds-paths-i c = few_before c.requires

pub overflow_add-s : goal.overflow_add-s
unfolding edge_right
overflow_add-s c = omega (arith, (edge_here c.requires).inside)

pub steps-count-requires : goal.steps-count-requires
unfolding edge_right
steps-count-requires c = (edge_here c.requires).inside

pub end_of-end-requires : goal.end_of-end-requires
unfolding edge_right
end_of-end-requires c = walkable_here c.requires c.target-from.ensures.0 c.steps-count.ensures.0

pub right_end-requires : goal.right_end-requires
right_end-requires c =
    let ends = c.end_of-end.ensures in
    let from-there = c.target-from.ensures.0 ∙ sym (type_here c.requires).target_is in
    let steps-there = same_steps_lem c.requires.ready _ _ c.requires.type_exists c.requires.edge_exists c.steps-count.ensures.0 (path_here c.requires) in
    record { checkable = c.requires.ready; s_bound = c.requires.type_exists; i_bound = c.requires.edge_exists; end_value = rw (from-there, steps-there) at ends }

pub returns : goal.returns
unfolding edge_right
returns c = c.right_end.ensures
