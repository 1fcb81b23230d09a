use mathlib.Core.Path.{◌≡◌, ap, ◌∙◌}
use Prim.Native.Nat.{◌<◌, max}
use native.Mathlib.Omega.{arith}
use lib.ListN.{get_or}
use Rattle.loaded_table.specs.Loaded.{heights_of}
use Rattle.model.specs.Definitions.Heights.{height_in}
use Rattle.table_heights.specs.Sections.{members_at, members_long, member_is}
use Rattle.table_heights.proofs.Members.{highest_turn, highest_end}
use Rattle.table_heights.proofs.highest.Goals as goal

pub loop-i-preserved : goal.loop-i-preserved
loop-i-preserved c =
    let a = c.args in
    let hs = heights_of a.table.now in
    let ms = members_at a.table.now a.t in
    let here : c.loop-i.i < c.count-i-end.result = c.loop-i-test.true in
    let found : c.height_at.result ≡ height_in hs (get_or ms c.loop-i.i 0) =
    c.height_at.ensures.0 ∙ ap (height_in hs) (member_is a.table.now a.t c.loop-i.i (omega (arith, c.count-i-end.ensures.0)) c.member.ensures.0) in
    let e : c.max-best.result ≡ max c.loop-i.best (height_in hs (get_or ms c.loop-i.i 0)) = omega (arith, found, c.max-best.ensures) in
    let low : c.max-best.result < 65536 = omega (arith, c.height_at.ensures.1, c.loop-i.invariant.0, c.max-best.ensures) in
    (low, highest_turn hs ms c.loop-i.i c.loop-i.best c.max-best.result _ (rw (members_long _ _ c.requires c.count-i-end.ensures.0) here) e c.loop-i.invariant.1)

pub returns : goal.returns
returns c =
    let a = c.args in
    (highest_end (heights_of a.table.now) (members_at a.table.now a.t) c.loop-i.i c.loop-i.best _ (rw (members_long _ _ c.requires c.count-i-end.ensures.0) c.loop-i-test.false) c.loop-i.invariant.1, c.loop-i.invariant.0)
