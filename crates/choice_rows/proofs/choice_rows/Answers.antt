-- `choice_rows` meets its contract: the rows of the members, and behind them that of nothing where the choice is optional.
use mathlib.Core.Path.{sym, ◌∙◌}
use native.Mathlib.Omega.{arith}
use Rattle.own_rows.specs.Progress.{few_of_type}
use Rattle.own_rows.specs.Steps.{progress_from}
use Rattle.choice_rows.proofs.Members.{nothing_next, needed_rows}
use Rattle.choice_rows.proofs.choice_rows.Goals as goal

pub member_rows-end-requires : goal.member_rows-end-requires
member_rows-end-requires c = c.requires

pub kind-requires : goal.kind-requires
kind-requires c = omega (arith, few_of_type c.requires.next.makeable)

pub nothing_row-requires : goal.nothing_row-requires
nothing_row-requires c = record { next = nothing_next c.requires.next.makeable c.member_rows-end.ensures; optional = sym c.kind.ensures.0 ∙ c.if-kind-eq-OPTIONAL.true }

pub shape_of-pool-then-kind-eq-OPTIONAL : goal.shape_of-pool-then-kind-eq-OPTIONAL
shape_of-pool-then-kind-eq-OPTIONAL c = c.nothing_row.ensures.whole.pool_length ∙ c.member_rows-end.ensures.whole.pool_length

pub shape_of-places-then-kind-eq-OPTIONAL : goal.shape_of-places-then-kind-eq-OPTIONAL
shape_of-places-then-kind-eq-OPTIONAL c = c.nothing_row.ensures.whole.places_length ∙ c.member_rows-end.ensures.whole.places_length

pub returns-then-kind-eq-OPTIONAL : goal.returns-then-kind-eq-OPTIONAL
returns-then-kind-eq-OPTIONAL c =
    let whole = c.member_rows-end.ensures.whole in
    progress_from whole.pool_length whole.places_length c.nothing_row.ensures

pub shape_of-pool : goal.shape_of-pool
shape_of-pool c = c.member_rows-end.ensures.whole.pool_length

pub shape_of-places : goal.shape_of-places
shape_of-places c = c.member_rows-end.ensures.whole.places_length

pub returns : goal.returns
returns c =
    let can = c.requires.next.makeable in
    needed_rows can.ready can.exists c.requires.s_value (λ e. c.if-kind-eq-OPTIONAL.false (c.kind.ensures.0 ∙ e)) c.member_rows-end.ensures
