use Rattle.children.proofs.Edges.{choice_none, choice-follow, choice-on, choice-one}
use Rattle.children.proofs.next_choice.Goals as goal

pub along-requires-clause-path : goal.along-requires-clause-path
along-requires-clause-path c =
    let i = c.requires.image in
    let less = rw c.count-i-end.ensures.0 at c.loop-i-test.true in
    choice-follow i.ready i.known_type c.requires.left.3.is_choice_lem _ less

pub returns-in-Some : goal.returns-in-Some
returns-in-Some c k parts a left =
    let i = c.requires.image in
    let less = rw c.count-i-end.ensures.0 at c.loop-i-test.true in
    rw c.member-sigma.ensures.0 (choice-one i.ready i.known_type left.is_choice_lem _ less (c.loop-i.invariant.left k parts a left) (c.in-Some.ensures k a))

pub loop-i-preserved : goal.loop-i-preserved
loop-i-preserved c =
    let i = c.requires.image in
    let less = rw c.count-i-end.ensures.0 at c.loop-i-test.true in
    record { left = λ k parts a left. choice-on i.ready i.known_type left.is_choice_lem _ less _ (c.loop-i.invariant.left k parts a left) (c.in_default.ensures k a) }

pub returns : goal.returns
returns c k parts a left =
    let i = c.requires.image in
    choice_none i.ready i.known_type _ _ (c.loop-i.invariant.left k parts a left) (rw c.count-i-end.ensures.0 at c.loop-i-test.false)
