-- `type_rows` meets its contract: by the code of the kind.
use mathlib.Core.Path.{sym, ap, ◌∙◌}
use native.Mathlib.Omega.{arith}
use Rattle.loaded_table.specs.Kinds.{choice_code, choice_between}
use Rattle.preparing.proofs.type_rows.Goals as goal

pub kind-kind-requires : goal.kind-kind-requires
kind-kind-requires c =
    let can = c.requires.next.makeable in
    omega (arith, can.exists, can.ready.source_bounded.few_types)

pub one_row-requires : goal.one_row-requires
one_row-requires c = record { next = c.requires.next; s_bound = omega (arith, c.if-kind-lt-CHOICE.true, c.kind-kind.ensures.0) }

pub shape_of-pool-then-kind-lt-CHOICE : goal.shape_of-pool-then-kind-lt-CHOICE
shape_of-pool-then-kind-lt-CHOICE c = c.one_row.ensures.whole.pool_length

pub shape_of-places-then-kind-lt-CHOICE : goal.shape_of-places-then-kind-lt-CHOICE
shape_of-places-then-kind-lt-CHOICE c = c.one_row.ensures.whole.places_length

pub returns-then-kind-lt-CHOICE : goal.returns-then-kind-lt-CHOICE
returns-then-kind-lt-CHOICE c = c.one_row.ensures

pub choice_rows-requires : goal.choice_rows-requires
choice_rows-requires c = record { next = c.requires.next; s_value = ap choice_code (sym c.kind-kind.ensures.0) ∙ choice_between c.kind-kind.result (omega (arith, c.if-kind-lt-CHOICE.false)) (omega arith) }

pub list_rows-requires : goal.list_rows-requires
list_rows-requires c = record { next = c.requires.next; list = omega (arith, c.kind-kind.ensures.0) }

pub shape_of-pool : goal.shape_of-pool
shape_of-pool c = c.list_rows.ensures.whole.pool_length

pub shape_of-places : goal.shape_of-places
shape_of-places c = c.list_rows.ensures.whole.places_length

pub returns : goal.returns
returns c = c.list_rows.ensures
