-- `on_type` meets its contract: what the machine does at a type's command, by whether an edge is due and whether a type is next.
use native.Mathlib.Omega.{arith}
use Rattle.loaded_table.specs.Loaded.{table_by, length_of_lem}
use Rattle.embedding_form.proofs.Forms.{type_early, type-next, type-none}
use Rattle.embedding_form.proofs.form.on_type.Goals as goal

pub returns-then-edges-gt0 : goal.returns-then-edges-gt0
returns-then-edges-gt0 c on t = type_early _ on _ t c.if-edges-gt0.true

pub edges_of-requires : goal.edges_of-requires
edges_of-requires c = record { bounded = c.requires; t_bound = omega (arith, c.if-types.true, c.types.ensures.0) }

pub returns-then-types : goal.returns-then-types
returns-then-types c = λ on t.
    let told = c.types.ensures.0 in
    type-next (table_by c.args.source.now) _ on _ t _ c.if-edges-gt0.false (omega (arith, told, length_of_lem c.args.source.now, c.if-types.true)) c.edges_of.ensures.same

pub returns : goal.returns
returns c = λ on t.
    let told = c.types.ensures.0 in
    type-none (table_by c.args.source.now) c.args.types on _ t c.if-edges-gt0.false (omega (arith, told, length_of_lem c.args.source.now, c.if-types.false))
