-- `grow_type` meets its contract: a type that passes the checks is stored behind the others, and what is kept with it is found.
use mathlib.Core.Path.{sym, ◌∙◌}
use Rattle.std.proofs.lemmas.Result.{err_from_is_err_and}
use Rattle.loaded_table.specs.Loaded.{table_by, length_of_lem}
use Rattle.model.specs.Definitions.Operations.{operate}
use Rattle.table_growth.proofs.Appending.{refused_as}
use Rattle.table_growth.proofs.Growing.{kept-before, grown-endless, grown-done}
use Rattle.table_growth.proofs.grow_type.Goals as goal

pub returns-in_err-check_type : goal.returns-in_err-check_type
unfolding operate
returns-in_err-check_type c =
    let rows = c.args.table.now in
    let (why, is, same) = err_from_is_err_and c.from_residual.result c.from_residual.ensures.1 in
    rw (is, same) (refused_as _ _ _ _ (c.in_err-check_type.ensures (table_by rows) c.requires.valid (length_of_lem rows ∙ sym c.types-all.ensures.0)))

pub keep_last-requires : goal.keep_last-requires
keep_last-requires c =
    let fits = c.in_ok-check_type.ensures in
    (fits.few, kept-before _ _ c.requires c.types-all.ensures.0 fits c.put_type.ensures c.set_types.ensures)

pub returns-then-keep_last : goal.returns-then-keep_last
returns-then-keep_last c =
    grown-done _ _ c.requires c.types-all.ensures.0 c.in_ok-check_type.ensures c.put_type.ensures c.set_types.ensures c.keep_last.ensures c.if-keep_last.true

pub returns-else-keep_last : goal.returns-else-keep_last
returns-else-keep_last c =
    rw c.faulty.ensures (grown-endless _ _ c.requires c.types-all.ensures.0 c.in_ok-check_type.ensures c.put_type.ensures c.set_types.ensures c.keep_last.ensures c.if-keep_last.false)
