-- `begin_list` meets its contract: the path is divided at its first list.
use native.Mathlib.Omega.{arith}
use Rattle.std.proofs.lemmas.Result.{err_from_is_err_and}
use Rattle.children.proofs.Beginning.{list-path, cut-less, list-before, begin-lost, begin-items}
use Rattle.children.proofs.begin_list.Goals as goal

pub list_depth-cut-requires : goal.list_depth-cut-requires
list_depth-cut-requires c =
    let i = c.requires.image in
    list-path i.ready i.known_type c.requires.list c.start-start.ensures.0 c.steps-steps.ensures.0 c.target-tau.ensures.0

pub follow-requires-clause-path : goal.follow-requires-clause-path
follow-requires-clause-path c =
    let i = c.requires.image in
    list-before i.ready i.known_type c.requires.list c.start-start.ensures.0 c.steps-steps.ensures.0 c.target-tau.ensures.0 c.list_depth-cut.ensures

pub returns-in_err-at : goal.returns-in_err-at
returns-in_err-at c =
    let i = c.requires.image in
    let p = err_from_is_err_and c.from_residual.result c.from_residual.ensures.1 in
    rw p.1
    (λ k a. begin-lost i.ready i.known_type c.requires.list c.start-start.ensures.0 c.steps-steps.ensures.0 c.target-tau.ensures.0 c.list_depth-cut.ensures _ (rw c.in_err-at.ensures.ok_part at (c.follow.ensures k a)))

pub overflow_sub-rest : goal.overflow_sub-rest
overflow_sub-rest c =
    let i = c.requires.image in
    omega (arith, cut-less i.ready i.known_type c.requires.list c.start-start.ensures.0 c.steps-steps.ensures.0 c.target-tau.ensures.0 c.list_depth-cut.ensures)

pub returns : goal.returns
returns c k a =
    let i = c.requires.image in
    begin-items i.ready i.known_type c.requires.list c.start-start.ensures.0 c.steps-steps.ensures.0 c.target-tau.ensures.0 c.list_depth-cut.ensures _ (rw c.in_ok-at.ensures.ok_part at (c.follow.ensures k a)) c.member.ensures.0
