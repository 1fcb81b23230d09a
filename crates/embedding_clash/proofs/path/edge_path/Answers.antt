-- The bounds of a loaded embedding are what `path_at` requires.
use mathlib.Core.Path.{◌∙◌}
use Rattle.embedding_clash.proofs.path.edge_path.Goals as goal

pub start-requires : goal.start-requires
start-requires c = c.requires.edge_lt_edge_places

pub steps-requires : goal.steps-requires
steps-requires c = c.requires.edge_lt_edge_places

pub path_at-requires : goal.path_at-requires
path_at-requires c =
    let bounded = c.requires.paths_bounded in
    let edge = c.args.edge in
    rw (c.steps.ensures.0, c.start.ensures.0) (bounded.short edge, bounded.within edge)

pub returns : goal.returns
returns c = c.path_at.ensures ∙ rw (c.steps.ensures.0, c.start.ensures.0)
