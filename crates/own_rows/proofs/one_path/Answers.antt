-- `one_path` meets its contract.
use mathlib.Core.Path.{ap, ◌∙◌}
use native.Mathlib.Omega.{arith}
use Rattle.growing.specs.declared.Edges.{Edges}
use Rattle.growing.specs.Growing.{no_edges, push}
use Rattle.own_rows.specs.OnePath.{one_path}
use Rattle.own_rows.proofs.one_path.Goals as goal

pub pushed-requires : goal.pushed-requires
pushed-requires c = rw c.no_edges-none.ensures (unfold no_edges in omega arith)

pub returns : goal.returns
unfolding one_path
returns c =
    let start = c.args in
    c.pushed.ensures ∙ ap (λ (e : Edges). push e start.next start.steps start.hole) c.no_edges-none.ensures
