use mathlib.Core.Path.{◌≡◌, refl, ap, ◌∙◌}
use Prim.Native.Nat.{ℕ, ◌+◌, ◌<◌, min}
use native.Mathlib.Omega.{arith}
use lib.ListN.{get_or}
use Rattle.loaded_table.specs.Loaded.{fill_of}
use Rattle.table_heights.specs.Sections.{members_at, members_long, member_is}
use Rattle.table_fill.proofs.Members.{fill_turn, fill_end}
use Rattle.table_fill.proofs.fill_sum.Goals as goal

pub loop-i-init : goal.loop-i-init
loop-i-init c = (omega arith, refl)

pub loop-i-preserved : goal.loop-i-preserved
loop-i-preserved c =
    let fill = fill_of c.args.table.now in
    let ms = members_at c.args.table.now c.args.t in
    let here : c.loop-i.i < c.count-i-end.result = c.loop-i-test.true in
    let found : c.fill_at.result ≡ get_or fill (get_or ms c.loop-i.i 0) 0 =
    c.fill_at.ensures ∙ ap (λ (m : ℕ). get_or fill m 0) (member_is c.args.table.now c.args.t c.loop-i.i (omega (arith, c.count-i-end.ensures.0)) c.member.ensures.0) in
    let e : c.held_sum-total.result ≡ min 60001 (c.loop-i.total + get_or fill (get_or ms c.loop-i.i 0) 0) = c.held_sum-total.ensures ∙ ap (λ (k : ℕ). min 60001 (c.loop-i.total + k)) found in
    (omega arith, fill_turn fill ms c.loop-i.i c.loop-i.total c.held_sum-total.result _ (rw (members_long _ _ c.requires c.count-i-end.ensures.0) here) e c.loop-i.invariant.1)

pub returns : goal.returns
returns c =
    fill_end (fill_of c.args.table.now) (members_at c.args.table.now c.args.t) c.loop-i.i c.loop-i.total _ (rw (members_long _ _ c.requires c.count-i-end.ensures.0) c.loop-i-test.false) c.loop-i.invariant.0 c.loop-i.invariant.1
