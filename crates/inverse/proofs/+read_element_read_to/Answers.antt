-- The cycle of calls {read_element, read_to}.
use mathlib.Core.Path.{sym, ◌∙◌}
use native.Mathlib.Omega.{arith}
use Rattle.model.proofs.Theorems.Tools.{some_none}
use Rattle.paths.specs.Edges.{text-follows}
use Rattle.inverse.proofs.ByKind.{read_zero, read_text}
use Rattle.inverse.proofs.Elements.{element_no_room, element-refused, held-within, element-no-close, element-written}
use Rattle.inverse.proofs.Turning.{ok_value, ok_none, reading_start, reading_broken, turn_shows, turn_done, turn_broken, turn_inside, turn-less, turn-refused, turn_on}
use Rattle.inverse.proofs.+read_element_read_to.Goals as goal

-- ---- an element

pub read_element-returns-then-out-at-lt-ELEMENT_BYTES : goal.read_element-returns-then-out-at-lt-ELEMENT_BYTES
read_element-returns-then-out-at-lt-ELEMENT_BYTES t c k a = element_no_room _ _ _ _ c.if-out-at-lt-ELEMENT_BYTES.true

pub read_element-returns-in_err-end : goal.read_element-returns-in_err-end
read_element-returns-in_err-end t c = rw c.from_residual.ensures (λ k a. element-refused _ _ c.put_open-inside.ensures (c.in_err-end.ensures k a))

pub read_element-returns-then-end-out : goal.read_element-returns-then-end-out
read_element-returns-then-end-out t c k a = element-no-close _ _ c.put_open-inside.ensures (c.in_ok-end.ensures k a) c.if-end-out.true

pub read_element-put_close-requires : goal.read_element-put_close-requires
read_element-put_close-requires t c =
    let here = c.requires.image.content in
    omega (arith, (held-within _ _ c.put_open-inside.ensures (c.in_ok-end.ensures here.0 here.1)).0, c.if-end-out.false)

pub read_element-returns : goal.read_element-returns
read_element-returns t c k a = element-written _ _ c.put_open-inside.ensures (c.in_ok-end.ensures k a) c.if-end-out.false c.put_close.ensures

-- ---- what it holds

pub read_to-returns-then-depth-eq0 : goal.read_to-returns-then-depth-eq0
read_to-returns-then-depth-eq0 t c k a j e = some_none e (read_zero _ _ _ _ c.if-depth-eq0.true)

pub read_to-read_text-requires-clause-path : goal.read_to-read_text-requires-clause-path
read_to-read_text-requires-clause-path t c =
    let i = c.requires.image in
    text-follows i.ready i.known_type (sym c.kind.ensures.0 ∙ c.if-kind-eq-TEXT.true)

pub read_to-returns-then-kind-eq-TEXT : goal.read_to-returns-then-kind-eq-TEXT
read_to-returns-then-kind-eq-TEXT t c k a =
    let i = c.requires.image in
    let code = sym c.kind.ensures.0 ∙ c.if-kind-eq-TEXT.true in
    rw (read_text i.ready i.known_type _ c.if-depth-eq0.false code _) (c.read_text.ensures k a)

pub read_to-returns-in_err-cursor : goal.read_to-returns-in_err-cursor
read_to-returns-in_err-cursor t c =
    let i = c.requires.image in
    let other = rw c.kind.ensures.0 at c.if-kind-eq-TEXT.false in
    let missing = ok_none _ c.in_err-cursor.ensures.value in
    rw c.from_residual.ensures (reading_broken i.ready i.known_type _ _ c.if-depth-eq0.false other (rw missing.1 at c.begin.ensures))

pub read_to-loop-child-init : goal.read_to-loop-child-init
read_to-loop-child-init t c =
    let i = c.requires.image in
    let other = rw c.kind.ensures.0 at c.if-kind-eq-TEXT.false in
    reading_start i.ready i.known_type c.if-depth-eq0.false other c.requires.room i.content (rw (ok_value _ _ c.in_ok-cursor.ensures.value) at c.begin.ensures)

pub read_to-next-requires-clause-left : goal.read_to-next-requires-clause-left
read_to-next-requires-clause-left t c = turn_shows c.loop-child.invariant

pub read_to-returns-in_err-child : goal.read_to-returns-in_err-child
read_to-returns-in_err-child t c =
    let missing = ok_none _ c.in_err-child.ensures.value in
    rw c.from_residual-in_err-child.ensures (turn_broken c.loop-child.invariant (rw missing.1 at c.next.ensures))

pub read_to-read_element-requires : goal.read_to-read_element-requires
read_to-read_element-requires t c =
    let i = c.requires.image in
    let inside = turn_inside c.loop-child.invariant (rw (ok_value _ _ c.in_ok-child.ensures.value, c.in-Some.is) at c.next.ensures) in
    (omega (arith, c.decreases, c.if-depth-eq0.false), (record { spans = i.spans; ready = i.ready; known_type = inside.0; content = inside.1 }, c.loop-child.invariant.fits))

pub read_to-returns-in_err-to : goal.read_to-returns-in_err-to
read_to-returns-in_err-to t c =
    rw c.from_residual-in_err-to.ensures
    (turn-refused c.loop-child.invariant (rw (ok_value _ _ c.in_ok-child.ensures.value, c.in-Some.is) at c.next.ensures) c.in_err-to.ensures)

pub read_to-loop-child-smaller : goal.read_to-loop-child-smaller
read_to-loop-child-smaller t c = turn-less c.loop-child.invariant (rw (ok_value _ _ c.in_ok-child.ensures.value, c.in-Some.is) at c.next.ensures)

pub read_to-loop-child-preserved : goal.read_to-loop-child-preserved
read_to-loop-child-preserved t c =
    turn_on c.loop-child.invariant (rw (ok_value _ _ c.in_ok-child.ensures.value, c.in-Some.is) at c.next.ensures) c.in_ok-to.ensures

pub read_to-returns : goal.read_to-returns
read_to-returns t c = turn_done c.loop-child.invariant (rw (ok_value _ _ c.in_ok-child.ensures.value, c.in_default.is) at c.next.ensures)
