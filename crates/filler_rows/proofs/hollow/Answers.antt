use mathlib.Core.Path.{sym}
use native.Mathlib.Omega.{arith}
use Rattle.growing.specs.Laws.{puts_none, puts-after, puts-length}
use Rattle.filler_rows.specs.Laws.{puts_as}
use Rattle.filler_rows.proofs.ByKind.{small, hollow_none, least-small, hollow-choice, hollows_none, hollows-place, nth-small, hollows-more, hollows-all}
use Rattle.filler_rows.proofs.hollow.Goals as goal

pub kind-kind-requires : goal.kind-kind-requires
kind-kind-requires c = small c.requires.sound c.requires.t_bound.0

pub least_member-m-requires : goal.least_member-m-requires
least_member-m-requires c = (c.requires.sound.bounded, c.requires.t_bound.0)

pub put-requires : goal.put-requires
put-requires c =
    (omega (arith, c.requires.t_bound.1), omega (arith, least-small c.requires.sound c.requires.t_bound.0 c.kind-kind.ensures.0 c.if-kind-eq-CHOICE.true c.least_member-m.ensures))

pub shape_of-pool-then-kind-eq-CHOICE : goal.shape_of-pool-then-kind-eq-CHOICE
shape_of-pool-then-kind-eq-CHOICE c = puts-length c.put.ensures

pub returns-then-kind-eq-CHOICE : goal.returns-then-kind-eq-CHOICE
returns-then-kind-eq-CHOICE c =
    let put = c.put.ensures in
    (puts_as (hollow-choice c.requires.sound c.requires.t_bound.0 c.kind-kind.ensures.0 c.if-kind-eq-CHOICE.true c.least_member-m.ensures) put, omega (arith, puts-after put))

pub returns-then-kind-ne-SEQUENCE : goal.returns-then-kind-ne-SEQUENCE
returns-then-kind-ne-SEQUENCE c =
    (puts_as (sym (hollow_none c.requires.sound c.requires.t_bound.0 c.kind-kind.ensures.0 c.if-kind-ne-SEQUENCE.true c.if-kind-eq-CHOICE.false)) (puts_none _ _), omega arith)

pub count-count-requires : goal.count-count-requires
count-count-requires c = small c.requires.sound c.requires.t_bound.0

pub loop-i-init : goal.loop-i-init
loop-i-init c = λ sound exists. hollows_none sound exists _ _

pub member-m-requires : goal.member-m-requires
member-m-requires c =
    (small c.requires.sound c.requires.t_bound.0, omega (arith, c.count-count.ensures.0, c.requires.sound.bounded.few_members c.args.t))

pub put-place-requires : goal.put-place-requires
put-place-requires c =
    let now = c.loop-i.invariant c.requires.sound c.requires.t_bound.0 in (
      omega (arith, hollows-place c.requires.sound c.requires.t_bound.0 now, puts-length now.puts, c.requires.t_bound.1, c.count-count.ensures.0, c.requires.sound.bounded.few_members c.args.t),
      omega (arith, nth-small c.requires.sound c.requires.t_bound.0 now (omega (arith, c.count-count.ensures.0)) c.member-m.ensures.0 c.kind-kind.ensures.0 c.if-kind-ne-SEQUENCE.false),
    )

pub loop-i-preserved : goal.loop-i-preserved
loop-i-preserved c = λ sound exists. hollows-more sound exists (c.loop-i.invariant sound exists) (omega (arith, c.count-count.ensures.0)) c.member-m.ensures.0 c.kind-kind.ensures.0 c.if-kind-ne-SEQUENCE.false c.put-place.ensures

pub shape_of-pool : goal.shape_of-pool
shape_of-pool c =
    puts-length (c.loop-i.invariant c.requires.sound c.requires.t_bound.0).puts

pub returns : goal.returns
returns c =
    let inv = (c.loop-i.invariant c.requires.sound c.requires.t_bound.0) in (
      hollows-all c.requires.sound c.requires.t_bound.0 inv (omega (arith, c.count-count.ensures.0)) c.kind-kind.ensures.0 c.if-kind-ne-SEQUENCE.false,
      omega (arith, hollows-place c.requires.sound c.requires.t_bound.0 inv, inv.high, c.requires.sound.bounded.few_members c.args.t),
    )
