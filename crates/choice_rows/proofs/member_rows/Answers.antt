use mathlib.Core.Path.{refl}
use native.Mathlib.Omega.{arith}
use Rattle.own_rows.specs.Making.{edges_small}
use Rattle.own_rows.specs.Progress.{few_of_type}
use Rattle.own_rows.specs.Steps.{row-needs, row_more}
use Rattle.choice_rows.proofs.Members.{member_edges, member_room, members_begin, members_end}
use Rattle.choice_rows.proofs.member_rows.Goals as goal

pub target-t-requires : goal.target-t-requires
target-t-requires c = omega (arith, few_of_type c.requires.next.makeable)

pub count-count-requires : goal.count-count-requires
count-count-requires c = omega (arith, few_of_type c.requires.next.makeable)

pub loop-j-init : goal.loop-j-init
loop-j-init c =
    (members_begin c.requires.next.makeable.ready c.requires.next.makeable.exists c.requires.s_value c.requires.next.progress)

pub overflow_mul-s : goal.overflow_mul-s
overflow_mul-s c = omega (arith, few_of_type c.requires.next.makeable)

pub overflow_add-s : goal.overflow_add-s
overflow_add-s c = omega (arith, few_of_type c.requires.next.makeable, c.count-count.ensures.0)

pub edges-e-requires : goal.edges-e-requires
edges-e-requires c =
    let can = c.requires.next.makeable in
    let few = few_of_type can in
    record { count_le_max_members = (omega arith, omega (arith, few, c.count-count.ensures.0), omega arith, omega arith); small = edges_small can.ready.paths_bounded }

pub overflow_mul-s-in-loop-j : goal.overflow_mul-s-in-loop-j
overflow_mul-s-in-loop-j c = omega (arith, few_of_type c.requires.next.makeable, c.count-count.ensures.0)

pub overflow_add-s-in-loop-j : goal.overflow_add-s-in-loop-j
overflow_add-s-in-loop-j c = omega (arith, few_of_type c.requires.next.makeable, c.count-count.ensures.0)

pub overflow_add-s-in-loop-j-2 : goal.overflow_add-s-in-loop-j-2
overflow_add-s-in-loop-j-2 c = omega (arith, few_of_type c.requires.next.makeable, c.count-count.ensures.0)

pub own_row-end-requires : goal.own_row-end-requires
own_row-end-requires c =
    let can = c.requires.next.makeable in
    let inv = c.loop-j.invariant in
    let count = c.count-count.ensures.0 in
    let few = few_of_type can in
    let row = member_edges can.ready can.exists c.requires.s_value (omega (arith, count)) c.edges-e.ensures in
    let all = row-needs can.ready can.exists inv row _ (member_room can.ready can.exists c.requires.s_value _ (omega (arith, count, few))) c.target-t.ensures.0 refl can.small can.long (omega (arith, count, few)) in record { task = all.0; stored = all.1.0; room = all.1.1 }

pub loop-j-preserved : goal.loop-j-preserved
loop-j-preserved c =
    let can = c.requires.next.makeable in
    let inv = c.loop-j.invariant in
    let count = c.count-count.ensures.0 in
    let few = few_of_type can in
    let row = member_edges can.ready can.exists c.requires.s_value (omega (arith, count)) c.edges-e.ensures in
    (row_more can.ready can.exists inv row _ (member_room can.ready can.exists c.requires.s_value _ (omega (arith, count, few))) c.target-t.ensures.0 refl c.own_row-end.ensures)

pub shape_of-pool : goal.shape_of-pool
shape_of-pool c = c.loop-j.invariant.whole.pool_length

pub shape_of-places : goal.shape_of-places
shape_of-places c = c.loop-j.invariant.whole.places_length

pub returns : goal.returns
returns c =
    let can = c.requires.next.makeable in
    let inv = c.loop-j.invariant in
    members_end can.ready can.exists c.requires.s_value (omega (arith, c.count-count.ensures.0)) inv
