-- `filler` meets its contract.
use Rattle.std.proofs.Common.{refl, ap, ◌∙◌, [], ◌∷◌, arith}
use Rattle.std.proofs.lemmas.Result.{on_ok_weaker, on_err_weaker}
use Rattle.rows.specs.Rows.{from_of, to_of}
use Rattle.row_traversal.specs.Loops.{filler_goes, filler_last, filler-symbol-number, filler-asks, filler-on}
use Rattle.filling.proofs.Exits.{on_err}
use Rattle.filling.proofs.Taking.{take_all, take_room, take_turn, opening_fits, inside_fits, filler_unopened, filler_falls, filler_stops, filler_closed, filler_unclosed}
use Rattle.filling.proofs.+filler.Goals as goal

pub open-requires : goal.open-requires
open-requires g t c = opening_fits g.S.Sink.laws c.requires

pub returns-in_err-open-clause-refused : goal.returns-in_err-open-clause-refused
returns-in_err-open-clause-refused g t c = on_err _ (filler_unopened g.S.Sink.laws c.in_err-open.ensures.refused)

pub loop-i-init : goal.loop-i-init
loop-i-init g t c =
    let is_row = c.from-row.ensures in
    let places = c.args.places.now in
    filler_goes (◌∙◌ {b = to_of places c.from-row.result} c.to-to.ensures (ap (to_of places) is_row))
    (◌∙◌ {b = from_of places c.from-row.result} c.from-from.ensures (ap (from_of places) is_row))
    (take_all g.S.Sink.laws (inside_fits g.S.Sink.laws c.in_ok-open.ensures.taken c.requires))

pub overflow_sub-pool : goal.overflow_sub-pool
overflow_sub-pool g t c = filler-symbol-number c.loop-i.invariant c.loop-i-test.true c.requires.asked

-- the element of a symbol is given behind the opening of the one that holds it
pub filler-requires : goal.filler-requires
filler-requires g t c =
    let f = c.requires in
    let l = c.loop-i.invariant in
    let opened = c.in_ok-open.ensures.taken in
    λ κs lives.
    (omega (arith, c.decreases, filler_falls g.S.Sink.laws opened l f), (lives, filler-asks l c.loop-i-test.true f.asked (take_room g.S.Sink.laws (inside_fits g.S.Sink.laws opened f))))

pub returns-in_err-filler-clause-refused : goal.returns-in_err-filler-clause-refused
returns-in_err-filler-clause-refused g t c =
    on_err _ (filler_stops g.S.Sink.laws c.in_ok-open.ensures.taken c.loop-i.invariant c.loop-i-test.true c.in_err-filler.ensures.refused)

pub loop-i-preserved : goal.loop-i-preserved
loop-i-preserved g t c = filler-on c.loop-i.invariant c.loop-i-test.true (take_turn g.S.Sink.laws) c.in_ok-filler.ensures.taken

pub put-requires : goal.put-requires
put-requires g t c =
    let f = c.requires in
    (take_room g.S.Sink.laws (inside_fits g.S.Sink.laws c.in_ok-open.ensures.taken f)).room (filler_last c.loop-i.invariant (omega arith) _ f.asked) (0x32 ∷ []) [] refl

pub returns-clause-taken : goal.returns-clause-taken
returns-clause-taken g t c = on_ok_weaker _ (filler_closed g.S.Sink.laws c.in_ok-open.ensures.taken c.loop-i.invariant (omega arith)) c.put.ensures.taken

pub returns-clause-refused : goal.returns-clause-refused
returns-clause-refused g t c = on_err_weaker _ (filler_unclosed g.S.Sink.laws c.in_ok-open.ensures.taken c.loop-i.invariant (omega arith)) c.put.ensures.refused
