-- `edges_of` meets its contract: each arm knows the kind's code, and a row of members has room for all that are counted.
use native.Mathlib.Omega.{arith}
use Rattle.embedding_form.proofs.Types.{text_edge, empty_edge, row-edges, list_edge}
use Rattle.embedding_form.proofs.edges.edges_of.Goals as goal

pub kind-kind-requires : goal.kind-kind-requires
kind-kind-requires c = omega (arith, c.requires.t_bound, c.requires.bounded.few_types)

pub count-requires : goal.count-requires
count-requires c = omega (arith, c.requires.t_bound, c.requires.bounded.few_types)

pub returns-in-0 : goal.returns-in-0
returns-in-0 c = record { same = text_edge c.args.table.now _ c.requires.t_bound c.kind-kind.ensures.0 c.in-0.is; few = omega arith }

pub returns-in-1 : goal.returns-in-1
returns-in-1 c = record { same = empty_edge c.args.table.now _ c.requires.t_bound c.kind-kind.ensures.0 c.in-1.is; few = omega arith }

pub returns-in-2 : goal.returns-in-2
returns-in-2 c = record { same = row-edges c.args.table.now _ c.requires.t_bound c.kind-kind.ensures.0 c.requires.bounded c.count.ensures.0 (omega (arith, c.in-2.in_default-own.rest.0.1, c.in-2.in_default-own.rest.1)) c.in-2.if-kind-lt5-own.true; few = rw c.count.ensures.0 (c.requires.bounded.few_members c.args.t) }

pub returns-in_default : goal.returns-in_default
returns-in_default c = record { same = list_edge c.args.table.now _ c.requires.t_bound c.kind-kind.ensures.0 c.in_default.if-kind-lt5-own.false; few = omega arith }
