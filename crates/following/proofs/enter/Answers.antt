-- `enter` meets its contract, by the code of the kind.
use native.Mathlib.Omega.{arith}
use Rattle.following.proofs.Entering.{enter_nothing, enter_sequence, enter_choice, enter_list}
use Rattle.following.proofs.enter.Goals as goal

pub returns-in-2 : goal.returns-in-2
returns-in-2 c = λ k a count row. rw (enter_sequence _ _ _ _ k count row c.in-2.is) (c.child.ensures k a)

pub returns-in-0 : goal.returns-in-0
returns-in-0 c = λ k a count row. enter_nothing _ _ _ _ k count row (omega arith)

pub returns-in-3 : goal.returns-in-3
returns-in-3 c =
    λ k a count row.
    rw (enter_choice c.args.kind _ _ _ k count row (omega arith) (omega arith)) (c.child_of_type.ensures k a)

pub returns-in_default : goal.returns-in_default
returns-in_default c = λ k a count row. rw (enter_list c.args.kind _ _ _ k count row (omega arith)) (c.child-in_default.ensures k a)
