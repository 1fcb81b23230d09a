use mathlib.Core.Path.{◌≡◌, sym, ap, ◌∙◌}
use mathlib.Core.List.{◌∷◌}
use Prim.Native.Nat.{◌<◌}
use native.Mathlib.Omega.{arith}
use lib.ListN.{drop, get_or}
use Rattle.loaded_table.specs.Loaded.{heights_of}
use Rattle.model.specs.Definitions.Heights.{height_in, least_member}
use Rattle.table_heights.specs.Sections.{members_at, members_long, member_is}
use Rattle.table_heights.proofs.Members.{lesser, lesser_second, lesser_first, least_start, least_none, least_turn, least_end}
use Rattle.table_heights.proofs.least_member.Goals as goal
use Rattle.table_heights.proofs.least_member.Goals.{then-height_at, else-height_at}

pub count-many-requires : goal.count-many-requires
count-many-requires c = omega (arith, c.requires.1, c.requires.0.few_types)

pub returns-then-many-eq0 : goal.returns-then-many-eq0
returns-then-many-eq0 c =
    least_none (heights_of c.args.table.now) (members_at c.args.table.now c.args.t) (members_long _ _ c.requires c.count-many.ensures.0 ∙ c.if-many-eq0.true)

pub member-best-requires : goal.member-best-requires
member-best-requires c =
    (omega (arith, c.requires.1, c.requires.0.few_types), omega arith)

pub loop-i-init : goal.loop-i-init
loop-i-init c =
    let a = c.args in
    let hs = heights_of a.table.now in
    let ms = members_at a.table.now a.t in
    let some : 0 < c.count-many.result = omega (arith, c.if-many-eq0.false) in
    let first = member_is a.table.now a.t 0 (omega (arith, c.count-many.ensures.0)) c.member-best.ensures.0 in
    ap (λ m. least_member hs (m ∷ drop 1 ms)) first ∙ least_start hs ms (rw (members_long _ _ c.requires c.count-many.ensures.0) some)

pub member-m-requires : goal.member-m-requires
member-m-requires c =
    (omega (arith, c.requires.1, c.requires.0.few_types), omega (arith, c.loop-i-test.true, c.count-many.ensures.0, c.requires.0.few_members c.args.t))

pub height_at-requires : goal.height_at-requires
height_at-requires c = tt

pub height_at-requires-in-loop-i : goal.height_at-requires-in-loop-i
height_at-requires-in-loop-i c = tt

pub loop-i-preserved : goal.loop-i-preserved
loop-i-preserved c =
    let a = c.args in
    let hs = heights_of a.table.now in
    let ms = members_at a.table.now a.t in
    let m = get_or ms c.loop-i.i 0 in
    let here : c.loop-i.i < c.count-many.result = c.loop-i-test.true in
    let is = member_is a.table.now a.t c.loop-i.i (omega (arith, c.count-many.ensures.0)) c.member-m.ensures.0 in
    let new = c.height_at.ensures.0 ∙ ap (height_in hs) is in
    let old = c.height_at-in-loop-i.ensures.0 in
    let e : c.if-height_at.best ≡ lesser hs c.loop-i.best m =
    elim c.if-height_at.branch [
      | then-height_at w ↦ w.best-is ∙ is ∙ sym (lesser_second hs c.loop-i.best m (omega (arith, w.if-height_at.true, old, new)))
      | else-height_at w ↦ w.best-is ∙ sym (lesser_first hs c.loop-i.best m (omega (arith, w.if-height_at.false, old, new)))
    ] in
    least_turn hs ms c.loop-i.i c.loop-i.best c.if-height_at.best _ (rw (members_long _ _ c.requires c.count-many.ensures.0) here) e c.loop-i.invariant

pub returns : goal.returns
returns c =
    let a = c.args in
    least_end (heights_of a.table.now) (members_at a.table.now a.t) c.loop-i.i c.loop-i.best _ (rw (members_long _ _ c.requires c.count-many.ensures.0) c.loop-i-test.false) c.loop-i.invariant
