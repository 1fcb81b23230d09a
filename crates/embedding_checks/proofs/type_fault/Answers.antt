use mathlib.Core.Path.{ap}
use mathlib.Core.Bool.{not}
use Prim.Native.Nat.{◌<◌}
use native.Mathlib.Omega.{arith}
use Rattle.loaded_table.specs.Loaded.{table_by}
use Rattle.model.specs.Definitions.Table.{kind_of, edges_of}
use Rattle.embedding_clash.proofs.Arrays.{TypeAt, EdgeAt, type_at, edge_at}
use Rattle.embedding_checks.proofs.Loops.{edges_start, edge-passes, edge-fails, edges-end}
use Rattle.embedding_checks.proofs.type_fault.Goals.{Start, In-loop-i}
use Rattle.embedding_checks.proofs.type_fault.Goals as goal

-- what is known of the source type
type_here : (c : Start) → TypeAt c.args.source.now c.args.target.now c.args.em.now c.args.map.now c.args.s
type_here c = type_at c.requires.checkable _ c.requires.s_bound

-- the edge at hand is one of the type's, and what is known of it
inside : (c : In-loop-i) → c.loop-i.i < edges_of (kind_of (table_by c.args.source.now) c.args.s)
inside c = omega (arith, c.edges_of-n.ensures.same)

edge_here : (c : In-loop-i)
    → EdgeAt c.args.source.now c.args.target.now c.args.em.now c.args.map.now c.args.s c.loop-i.i
edge_here c = edge_at c.requires.checkable _ _ c.requires.s_bound (omega (arith, c.edges_of-n.ensures.same))

pub edges_of-n-requires : goal.edges_of-n-requires
edges_of-n-requires c = record { bounded = c.requires.checkable.source_bounded; t_bound = c.requires.s_bound }

pub overflow_mul-s : goal.overflow_mul-s
overflow_mul-s c = omega (arith, (type_here (goal.at.overflow_mul-s c).Start).few)

pub paths_of-paths-requires : goal.paths_of-paths-requires
paths_of-paths-requires c = record { paths_bounded = c.requires.checkable.paths_bounded; n_le_max_members = c.edges_of-n.ensures.few; n_bound = omega (arith, c.edges_of-n.ensures.few, (type_here (goal.at.paths_of-paths-requires c).Start).few) }

pub loop-i-init : goal.loop-i-init
loop-i-init c = edges_start c.args.check _ _ _ _ (type_here (goal.at.loop-i-init c).Start) c.edges_of-n.ensures.same

pub edge_right-requires : goal.edge_right-requires
edge_right-requires c =
    record { ready = c.requires.checkable; type_exists = c.requires.s_bound; edge_exists = inside (goal.at.edge_right-requires c).In-loop-i; stored = rw c.edges_of-n.ensures.same at c.paths_of-paths.ensures }

pub overflow_mul-s-then-not-edge_right : goal.overflow_mul-s-then-not-edge_right
overflow_mul-s-then-not-edge_right c = omega (arith, (type_here (goal.at.overflow_mul-s-then-not-edge_right c).Start).few)

pub overflow_add-s : goal.overflow_add-s
overflow_add-s c = omega (arith, (edge_here (goal.at.overflow_add-s c).In-loop-i).inside)

pub start-requires : goal.start-requires
start-requires c = (edge_here (goal.at.start-requires c).In-loop-i).inside

pub returns-then-not-edge_right : goal.returns-then-not-edge_right
returns-then-not-edge_right c =
    edge-fails c.loop-i.invariant (omega arith) c.edge_right.ensures (ap not c.if-not-edge_right.true) (edge_here (goal.at.returns-then-not-edge_right c).In-loop-i) c.start.ensures.0

pub loop-i-preserved : goal.loop-i-preserved
loop-i-preserved c = edge-passes c.loop-i.invariant (omega arith) c.edge_right.ensures (ap not c.if-not-edge_right.false)

pub returns : goal.returns
returns c = edges-end c.loop-i.invariant (omega arith)
