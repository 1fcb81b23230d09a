use mathlib.Core.Path.{sym, subst}
use Prim.Native.Nat.{◌+◌}
use native.Mathlib.Omega.{arith}
use Rattle.growing.specs.declared.Edges.{Edges}
use Rattle.own_rows.specs.Making.{EdgesFrom}
use Rattle.own_rows.specs.Laws.{edges_none, edges_more_lem}
use Rattle.own_rows.proofs.edges.Goals as goal

pub loop-i-init : goal.loop-i-init
loop-i-init c =
    subst (λ (e : Edges). EdgesFrom c.args.map.now c.args.first c.args.hole 0 e) (sym c.no_edges-e.ensures) (edges_none _ _ _)

pub loop-i-preserved : goal.loop-i-preserved
loop-i-preserved c =
    subst (λ (e : Edges). EdgesFrom c.args.map.now c.args.first c.args.hole (c.loop-i.i + 1) e) (sym c.with_edge-e.ensures) (edges_more_lem c.loop-i.invariant (omega (arith, c.requires.count_le_max_members)) c.requires.count_le_max_members.3 (omega (arith, c.requires.count_le_max_members)))
