use native.Mathlib.Nat.{zero-add}
use native.Mathlib.Omega.{arith}
use Rattle.loaded_table.specs.Loaded.{table_by, length_of_lem}
use Rattle.embedding_form.proofs.Counts.{count_on, count_end}
use Rattle.embedding_form.proofs.count.edge_count.Goals as goal

pub loop-t-init : goal.loop-t-init
loop-t-init c = (omega arith, zero-add _)

pub loop-t-preserved : goal.loop-t-preserved
loop-t-preserved c =
    let here = c.loop-t in
    let few = c.edges_of-sum.ensures.few in
    let table = table_by c.args.source.now in
    (omega arith, count_on table here.t here.sum _ c.edges_of-sum.result (omega (arith, c.types-types.ensures.0, length_of_lem c.args.source.now)) c.edges_of-sum.ensures.same here.invariant.1)

pub returns : goal.returns
returns c = let here = c.loop-t in count_end (table_by c.args.source.now) here.t _ _ (omega (arith, c.types-types.ensures.0, length_of_lem c.args.source.now)) here.invariant.1
