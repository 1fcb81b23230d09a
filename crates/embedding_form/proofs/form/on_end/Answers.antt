-- `on_end` meets its contract: what the machine does at the end's command, by whether an edge is due and whether a type is next.
use native.Mathlib.Omega.{arith}
use Rattle.loaded_table.specs.Loaded.{table_by, length_of_lem}
use Rattle.embedding_form.proofs.Forms.{end_early, end-next, end_none}
use Rattle.embedding_form.proofs.form.on_end.Goals as goal

pub returns-then-edges-gt0 : goal.returns-then-edges-gt0
returns-then-edges-gt0 c = λ on. end_early _ on _ c.if-edges-gt0.true

pub returns-then-types : goal.returns-then-types
returns-then-types c = λ on.
    end-next (table_by c.args.source.now) c.args.types on _ c.if-edges-gt0.false (omega (arith, c.types.ensures.0, length_of_lem c.args.source.now, c.if-types.true))

pub returns : goal.returns
returns c = λ on.
    end_none (table_by c.args.source.now) c.args.types on _ c.if-edges-gt0.false (omega (arith, c.types.ensures.0, length_of_lem c.args.source.now, c.if-types.false))
