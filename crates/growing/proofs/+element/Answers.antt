-- `element` meets its contract: its row is written, symbol by symbol and member by member.
use mathlib.Core.Path.{◌≡◌, subst}
use Prim.Native.Nat.{ℕ, ◌+◌, ◌<◌, ◌≤◌}
use native.Mathlib.Omega.{arith}
use Rattle.growing.specs.Growing.{MemberRange}
use Rattle.growing.proofs.Members.{members_none, members_all, member-task, member_room, member-written, filler_fits, filler_written, opening-fits, inside-fits, element-written, hole-fits, hole-written, end_fits}
use Rattle.growing.proofs.+element.Goals as goal

pub put-requires : goal.put-requires
put-requires t c = filler_fits c.requires.task c.if-count-eq0.true c.requires.room

pub returns-then-count-eq0 : goal.returns-then-count-eq0
returns-then-count-eq0 t c = filler_written c.requires.task c.if-count-eq0.true c.put.ensures

pub put-inside-requires : goal.put-inside-requires
put-inside-requires t c = opening-fits c.requires.task c.if-count-eq0.false c.requires.room

pub put-end-requires : goal.put-end-requires
put-end-requires t c = hole-fits c.requires.task c.if-count-eq0.false c.put-inside.ensures c.in_default.ensures c.requires.room

pub put-requires-in_default : goal.put-requires-in_default
put-requires-in_default t c = (end_fits c.requires.task c.if-count-eq0.false c.put-inside.ensures c.in_default.ensures c.requires.room c.put-end.ensures, omega arith)

pub returns-in_default : goal.returns-in_default
returns-in_default t c =
    let opened = c.put-inside.ensures in
    element-written c.requires.task c.if-count-eq0.false opened (hole-written c.requires.task c.if-count-eq0.false opened c.in_default.ensures c.requires.room c.put-end.ensures) c.put-in_default.ensures

pub loop-j-init : goal.loop-j-init
loop-j-init t c =
    let told = rw (← c.into_iter-j-iterator.ensures.into_iter_gives) at c.members_below-members.ensures in (
      members_none c.requires.task c.if-count-eq0.false (inside-fits c.requires.task c.if-count-eq0.false c.put-inside.ensures c.requires.room) (λ e. omega (arith, c.in-Some.ensures.0)) c.into_iter-j-iterator.result
          (subst (λ (q : ℕ). MemberRange c.args.target.now c.args.t q c.into_iter-j-iterator.result) c.in-Some.ensures.1 told),
      omega arith,
    )

pub element-place-requires : goal.element-place-requires
element-place-requires t c =
    let step = c.in-Some-j.ensures.steps in
    let now = rw (← step.1.1) at c.loop-j.invariant.0 in
    let less : c.in-Some-j.j < c.into_iter-j-iterator.result.end = omega (arith, step, c.loop-j.invariant.1) in
    let sub = c.beyond-sub.ensures in
    let m = c.member-m.ensures.0 in
    (omega (arith, c.decreases, c.loop-j.invariant.0.growing.positive), (member-task c.requires.task now less sub.0 sub.1 m, member_room c.requires.task now less sub.0 sub.1 m))

pub loop-j-preserved : goal.loop-j-preserved
loop-j-preserved t c =
    let step = c.in-Some-j.ensures.steps in
    let now = rw (← step.1.1) at c.loop-j.invariant.0 in
    let less : c.in-Some-j.j < c.into_iter-j-iterator.result.end = omega (arith, step, c.loop-j.invariant.1) in
    let sub = c.beyond-sub.ensures in
    let on : c.in-Some-j.j + 1 ≡ c.next.new.self.start = omega (arith, step) in
    (rw on at (member-written c.requires.task now less sub.0 sub.1 c.member-m.ensures.0 c.element-place.ensures), omega (arith, step, c.loop-j.invariant.1))

pub returns : goal.returns
returns t c =
    let over : c.into_iter-j-iterator.result.end ≤ c.loop-j.j-iterator.start = omega (arith, c.in-None.ensures.steps, c.loop-j.invariant.1) in
    element-written c.requires.task c.if-count-eq0.false c.put-inside.ensures (members_all c.requires.task c.loop-j.invariant.0 over) c.put-2.ensures
