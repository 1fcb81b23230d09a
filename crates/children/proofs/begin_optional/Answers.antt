-- `begin_optional` meets its contract: what stands before the first choice step decides.
use Rattle.children.proofs.Beginning.{SharedPath, optional-path, shared-path, begin_empty, begin_member}
use Rattle.children.proofs.Finding.{found_within, missing_not, held_not}
use Rattle.children.proofs.begin_optional.Goals as goal
use Rattle.children.proofs.begin_optional.Goals.{After-choice_depth-depth}

-- they are the first steps of the paths
shared-here : (c : After-choice_depth-depth) → let a = c.args in
    SharedPath a.source.now a.target.now a.map.now a.em.now a.image.sigma c.start-start.result c.choice_depth-depth.result c.target-tau.result
shared-here c =
    let i = c.requires.image in
    shared-path i.ready i.known_type c.requires.optional c.start-start.ensures.0 c.steps-steps.ensures.0 c.target-tau.ensures.0 c.choice_depth-depth.ensures

pub choice_depth-depth-requires : goal.choice_depth-depth-requires
choice_depth-depth-requires c =
    let i = c.requires.image in
    optional-path i.ready i.known_type c.requires.optional c.start-start.ensures.0 c.steps-steps.ensures.0 c.target-tau.ensures.0

pub follow-requires-clause-path : goal.follow-requires-clause-path
follow-requires-clause-path c = (shared-here c).follows

pub bounds-tr-at : goal.bounds-tr-at
bounds-tr-at c = let content = c.requires.image.content in found_within (c.in-Some.ensures content.0 content.1)

pub returns-in-Some : goal.returns-in-Some
returns-in-Some c k a = begin_empty (shared-here (goal.at.returns-in-Some c).After-choice_depth-depth) _ (c.in-Some.ensures k a) c.if-tr-at-eq-CLOSES.true

pub returns-in_default : goal.returns-in_default
returns-in_default c k a =
    begin_member (shared-here (goal.at.returns-in_default c).After-choice_depth-depth) _ (held_not (c.in-Some.ensures k a) c.if-tr-at-eq-CLOSES.false)

pub returns-in_default-2 : goal.returns-in_default-2
returns-in_default-2 c k a = begin_member (shared-here (goal.at.returns-in_default-2 c).After-choice_depth-depth) _ (missing_not (c.in_default.ensures k a))
