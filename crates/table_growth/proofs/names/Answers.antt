use mathlib.Core.Path.{◌≡◌, sym, ◌∙◌}
use Prim.Native.Nat.{◌<◌}
use native.Mathlib.Omega.{arith}
use lib.ListN.{length, get_or}
use Rattle.table_heights.specs.Sections.{members_at, members_long, member_is}
use Rattle.table_growth.proofs.Naming.{named_here, not_named_here, named_nowhere}
use Rattle.table_growth.proofs.names.Goals as goal
use Rattle.table_growth.proofs.names.Goals.{After-member, In-loop-i}

-- what is asked is member i
asked : (c : After-member) → let a = c.args in c.member.result ≡ get_or (members_at a.table.now a.t) c.loop-i.i 0
asked c =
    let a = c.args in
    member_is a.table.now a.t c.loop-i.i (omega (arith, c.loop-i-test.true, c.count-i-end.ensures.0)) c.member.ensures.0

here : (c : In-loop-i) → let a = c.args in c.loop-i.i < length (members_at a.table.now a.t)
here c = omega (arith, c.loop-i-test.true, members_long _ _ c.requires c.count-i-end.ensures.0)

pub returns-then-member-m : goal.returns-then-member-m
returns-then-member-m c =
    let a = c.args in
    sym (sym c.loop-i.invariant ∙ named_here a.m (members_at a.table.now a.t) c.loop-i.i (here (goal.at.returns-then-member-m c).In-loop-i) (sym (asked (goal.at.returns-then-member-m c).After-member) ∙ c.if-member-m.true))

pub loop-i-preserved : goal.loop-i-preserved
loop-i-preserved c =
    let a = c.args in
    not_named_here a.m (members_at a.table.now a.t) c.loop-i.i (here (goal.at.loop-i-preserved c).In-loop-i) (λ e. c.if-member-m.false (asked (goal.at.loop-i-preserved c).After-member ∙ e)) ∙ c.loop-i.invariant

pub returns : goal.returns
returns c =
    let a = c.args in
    sym (sym c.loop-i.invariant ∙ named_nowhere a.m (members_at a.table.now a.t) c.loop-i.i (omega (arith, c.loop-i-test.false, members_long _ _ c.requires c.count-i-end.ensures.0)))
