use mathlib.Core.Path.{sym, ◌∙◌}
use Prim.Native.Nat.{◌<◌}
use native.Mathlib.Omega.{arith}
use Rattle.loaded_table.specs.Loaded.{table_by}
use Rattle.model.specs.Definitions.Table.{kind_of, edges_of}
use Rattle.model.specs.Definitions.Explanation.{clash_of_type}
use Rattle.embedding_clash.proofs.Arrays.{TypeAt, type_at}
use Rattle.embedding_clash.proofs.Searching.{search_starts, search_passes, search_finds, search_ends}
use Rattle.explaining.proofs.Explaining.{nothing_found, something_found}
use Rattle.explaining.proofs.clashes.clash_of_type.Goals.{Start, In-loop-i}
use Rattle.explaining.proofs.clashes.clash_of_type.Goals as goal

-- what is known of the source type
type_here : (c : Start) → TypeAt c.args.source.now c.args.target.now c.args.em.now c.args.map.now c.args.s
type_here c = type_at c.requires.checkable _ c.requires.s_bound

-- the edge at hand is one of the type's
inside : (c : In-loop-i) → c.loop-i.i < edges_of (kind_of (table_by c.args.source.now) c.args.s)
inside c = omega (arith, c.edges_of-n.ensures.same)

pub edges_of-n-requires : goal.edges_of-n-requires
unfolding clash_of_type
edges_of-n-requires c = record { bounded = c.requires.checkable.source_bounded; t_bound = c.requires.s_bound }

pub overflow_mul-s : goal.overflow_mul-s
unfolding clash_of_type
overflow_mul-s c = omega (arith, (type_here (goal.at.overflow_mul-s c).Start).few)

pub paths_of-paths-requires : goal.paths_of-paths-requires
paths_of-paths-requires c = record { paths_bounded = c.requires.checkable.paths_bounded; n_le_max_members = c.edges_of-n.ensures.few; n_bound = omega (arith, c.edges_of-n.ensures.few, (type_here (goal.at.paths_of-paths-requires c).Start).few) }

pub loop-i-init : goal.loop-i-init
unfolding clash_of_type
loop-i-init c = search_starts _ (c.edges_of-n.ensures.same ∙ sym (type_here (goal.at.loop-i-init c).Start).edges_due_lem)

pub first_clash-requires : goal.first_clash-requires
first_clash-requires c =
    record { ready = c.requires.checkable; type_exists = c.requires.s_bound; edge_exists = inside (goal.at.first_clash-requires c).In-loop-i; stored = rw c.edges_of-n.ensures.same at c.paths_of-paths.ensures }

pub loop-i-preserved : goal.loop-i-preserved
loop-i-preserved c =
    search_passes _ _ _ (omega arith) (nothing_found c.first_clash.ensures c.in_default.is) ∙ c.loop-i.invariant

pub returns-in-Some : goal.returns-in-Some
returns-in-Some c =
    sym (search_finds _ _ _ (omega arith) (something_found c.first_clash.ensures c.in-Some.is)) ∙ c.loop-i.invariant

pub returns : goal.returns
unfolding clash_of_type
returns c = sym (search_ends _ _ _ (omega arith)) ∙ c.loop-i.invariant
