use mathlib.Core.Path.{refl, sym, ◌∙◌}
use Prim.Native.Nat.{ℕ, ◌<◌}
use native.Mathlib.Omega.{arith}
use Rattle.loaded_table.specs.Loaded.{table_by}
use Rattle.model.specs.Definitions.Table.{kind_of, edges_of}
use Rattle.model.specs.Definitions.Explanation.{clash_before}
use Rattle.embedding_clash.proofs.Arrays.{TypeAt, EdgeAt, type_at, edge_at}
use Rattle.embedding_clash.proofs.Searching.{search_starts, search_passes, search_finds, search_ends}
use Rattle.embedding_clash.proofs.ClashLaws.{PairCompared, pair_compared, pair_free, pair_found}
use Rattle.embedding_clash.proofs.clash.first_clash.Goals.{Start, In-loop-j, After-why}
use Rattle.embedding_clash.proofs.clash.first_clash.Goals as goal

-- what is known of the source type, and of each of its edges
type_here : (c : Start) → TypeAt c.args.source.now c.args.target.now c.args.em.now c.args.map.now c.args.s
type_here c = type_at c.requires.ready _ c.requires.type_exists

edge_here : (c : Start) (j : ℕ) → j < edges_of (kind_of (table_by c.args.source.now) c.args.s)
    → EdgeAt c.args.source.now c.args.target.now c.args.em.now c.args.map.now c.args.s j
edge_here c j h = edge_at c.requires.ready _ j c.requires.type_exists h

few_before : (c : Start) → c.args.i < 16
few_before c = omega (arith, c.requires.edge_exists, (type_here c).at_most)

-- the edge at hand is one of the type's
inside : (c : In-loop-j) → c.loop-j.j < edges_of (kind_of (table_by c.args.source.now) c.args.s)
inside c = omega (arith, c.requires.edge_exists)

-- what was found of the two paths is what the model says of the two edges
compared : (c : After-why) (inside : c.loop-j.j < edges_of (kind_of (table_by c.args.source.now) c.args.s)) → PairCompared c.requires.ready _ _ c.loop-j.j c.requires.type_exists c.requires.edge_exists inside c.compare-parting.result c.why.result
compared c inside =
    pair_compared c.requires.ready _ _ _ c.requires.type_exists c.requires.edge_exists inside c.kind-kind.ensures.0 c.target-from.ensures.0
    c.steps-la.ensures.0 (c.requires.stored.path_at_lem _ inside) c.steps-lb.ensures.0 (c.requires.stored.path_at_lem _ c.requires.edge_exists) c.compare-parting.ensures c.why.ensures

pub kind-kind-requires : goal.kind-kind-requires
unfolding clash_before
kind-kind-requires c = (type_here (goal.at.kind-kind-requires c).Start).few

pub target-from-requires : goal.target-from-requires
unfolding clash_before
target-from-requires c = (type_here (goal.at.target-from-requires c).Start).few

pub offset_bounds-paths-i : goal.offset_bounds-paths-i
unfolding clash_before
offset_bounds-paths-i c = omega (arith, few_before (goal.at.offset_bounds-paths-i c).Start)

pub bounds-paths-i : goal.bounds-paths-i
unfolding clash_before
bounds-paths-i c = few_before (goal.at.bounds-paths-i c).Start

pub overflow_mul-s : goal.overflow_mul-s
unfolding clash_before
overflow_mul-s c = omega (arith, (type_here (goal.at.overflow_mul-s c).Start).few)

pub overflow_add-s : goal.overflow_add-s
unfolding clash_before
overflow_add-s c = omega (arith, (edge_here (goal.at.overflow_add-s c).Start _ c.requires.edge_exists).inside)

pub steps-lb-requires : goal.steps-lb-requires
unfolding clash_before
steps-lb-requires c = (edge_here (goal.at.steps-lb-requires c).Start _ c.requires.edge_exists).inside

pub loop-j-init : goal.loop-j-init
unfolding clash_before
loop-j-init c = search_starts _ refl

pub offset_bounds-paths-j : goal.offset_bounds-paths-j
unfolding clash_before
offset_bounds-paths-j c = omega (arith, inside c, (type_here (goal.at.offset_bounds-paths-j c).Start).at_most)

pub bounds-paths-j : goal.bounds-paths-j
unfolding clash_before
bounds-paths-j c = omega (arith, inside c, (type_here (goal.at.bounds-paths-j c).Start).at_most)

pub overflow_mul-s-in-loop-j : goal.overflow_mul-s-in-loop-j
unfolding clash_before
overflow_mul-s-in-loop-j c = omega (arith, (type_here (goal.at.overflow_mul-s-in-loop-j c).Start).few)

pub overflow_add-s-in-loop-j : goal.overflow_add-s-in-loop-j
unfolding clash_before
overflow_add-s-in-loop-j c = omega (arith, (edge_here (goal.at.overflow_add-s-in-loop-j c).Start _ (inside (goal.at.overflow_add-s-in-loop-j c).In-loop-j)).inside)

pub steps-la-requires : goal.steps-la-requires
unfolding clash_before
steps-la-requires c = (edge_here (goal.at.steps-la-requires c).Start _ (inside (goal.at.steps-la-requires c).In-loop-j)).inside

pub compare-parting-requires : goal.compare-parting-requires
compare-parting-requires c = record { walkable = rw (c.steps-la.ensures.0, c.requires.stored.path_at_lem _ (inside (goal.at.compare-parting-requires c).In-loop-j), c.target-from.ensures.0) (edge_here (goal.at.compare-parting-requires c).Start _ (inside (goal.at.compare-parting-requires c).In-loop-j)).walkable; lb_le_max_steps = rw c.steps-lb.ensures.0 (edge_here (goal.at.compare-parting-requires c).Start _ c.requires.edge_exists).short }

pub loop-j-preserved : goal.loop-j-preserved
loop-j-preserved c =
    search_passes _ _ _ (omega arith) (pair_free c.requires.ready _ _ _ c.requires.type_exists c.requires.edge_exists (inside (goal.at.loop-j-preserved c).In-loop-j) (compared (goal.at.loop-j-preserved c).After-why (inside (goal.at.loop-j-preserved c).In-loop-j)) c.in_default.is) ∙ c.loop-j.invariant

pub clash_at-requires : goal.clash_at-requires
clash_at-requires c =
    let start = (goal.at.clash_at-requires c).Start in
    ((edge_here start _ c.requires.edge_exists).inside, omega (arith, inside (goal.at.clash_at-requires c).In-loop-j, (type_here start).at_most))

pub returns-in-Some : goal.returns-in-Some
returns-in-Some c =
    let pre = c.requires in
    sym (search_finds _ _ _ (omega arith) (pair_found pre.ready _ _ _ pre.type_exists pre.edge_exists (inside (goal.at.returns-in-Some c).In-loop-j) c.clash_at.result (compared (goal.at.returns-in-Some c).After-why (inside (goal.at.returns-in-Some c).In-loop-j)) c.in-Some.is c.clash_at.ensures)) ∙ c.loop-j.invariant

pub returns : goal.returns
unfolding clash_before
returns c = sym (search_ends _ _ _ (omega arith)) ∙ c.loop-j.invariant
