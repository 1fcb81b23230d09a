-- `put` meets its contract: each command by what it stores.
use mathlib.Core.Path.{refl}
use native.Mathlib.Omega.{arith}
use Rattle.embedding_load.specs.Loading.{loaded_at, TypeMayFollow, PathMayBegin, StepMayFollow, puts}
use Rattle.embedding_load.proofs.Rooms.{told_room, told_puts, path_room, step_room, target_stored, path_stored, step_stored}
use borrow.Author.Rules.{rules}
use Rattle.embedding_load.proofs.put.Goals.{In-MapsTo, In-Path, In-Step}
use Rattle.embedding_load.proofs.put.Goals as goal

-- room for a map, for a path, for a step
maps-here : (c : In-MapsTo) → TypeMayFollow (loaded_at c.args.p c.args.map.now)
maps-here c = told_room (loaded_at c.args.p c.args.map.now) c.args.at c.in-MapsTo.is c.requires

begins-here : (c : In-Path) → PathMayBegin (loaded_at c.args.p c.args.map.now) c.args.at
begins-here c = told_room (loaded_at c.args.p c.args.map.now) c.args.at c.in-Path.is c.requires

steps_here : (c : In-Step) → StepMayFollow (loaded_at c.args.p c.args.map.now)
steps_here c = told_room (loaded_at c.args.p c.args.map.now) c.args.at c.in-Step.is c.requires

pub set_target-requires : goal.set_target-requires
set_target-requires c = (maps-here (goal.at.set_target-requires c).In-MapsTo).room

pub overflow_add-result : goal.overflow_add-result
overflow_add-result c = search (rules, maps-here (goal.at.overflow_add-result c).In-MapsTo)

pub overflow_sub-edge : goal.overflow_sub-edge
overflow_sub-edge c = search (rules, begins-here c)

pub overflow_mul-edge : goal.overflow_mul-edge
overflow_mul-edge c = search (rules, begins-here c)

pub overflow_add-edge : goal.overflow_add-edge
overflow_add-edge c = search (rules, begins-here c)

pub overflow_cast-at : goal.overflow_cast-at
overflow_cast-at c = search (rules, begins-here (goal.at.overflow_cast-at c).In-Path)

pub set_start-requires : goal.set_start-requires
set_start-requires c = path_room (begins-here (goal.at.set_start-requires c).In-Path)

pub set_steps-requires : goal.set_steps-requires
set_steps-requires c = path_room (begins-here (goal.at.set_steps-requires c).In-Path)

pub overflow_add-result-in-Path : goal.overflow_add-result-in-Path
overflow_add-result-in-Path c = search (rules, begins-here (goal.at.overflow_add-result-in-Path c).In-Path)

pub overflow_sub-edge-in-Step : goal.overflow_sub-edge-in-Step
overflow_sub-edge-in-Step c = search (rules, steps_here c)

pub overflow_mul-edge-in-Step : goal.overflow_mul-edge-in-Step
overflow_mul-edge-in-Step c = search (rules, steps_here c)

pub overflow_sub-edge-in-Step-2 : goal.overflow_sub-edge-in-Step-2
overflow_sub-edge-in-Step-2 c = search (rules, steps_here c)

pub overflow_add-edge-in-Step : goal.overflow_add-edge-in-Step
overflow_add-edge-in-Step c = search (rules, steps_here c)

pub steps-count-requires : goal.steps-count-requires
steps-count-requires c = step_room (steps_here c)

pub overflow_cast-count : goal.overflow_cast-count
overflow_cast-count c = record { fits = omega (arith, c.steps-count.ensures.0, (steps_here (goal.at.overflow_cast-count c).In-Step).room) }

pub set_steps-requires-in-Step : goal.set_steps-requires-in-Step
set_steps-requires-in-Step c = step_room (steps_here (goal.at.set_steps-requires-in-Step c).In-Step)

pub returns-in-MapsTo : goal.returns-in-MapsTo
unfolding puts
returns-in-MapsTo c =
    let is = c.in-MapsTo.is in
    let stored = target_stored c.args.map.now _ _ _ (maps-here (goal.at.returns-in-MapsTo c).In-MapsTo).room (rw c.from.ensures at c.set_target.ensures) in
    record { same_size = stored.0; put_there = told_puts (loaded_at c.args.p c.args.map.now) c.args.at is stored.1 }

pub returns-in-Path : goal.returns-in-Path
unfolding puts
returns-in-Path c =
    let is = c.in-Path.is in
    let stored = path_stored c.args.map.now _ _ _ (path_room (begins-here (goal.at.returns-in-Path c).In-Path)) c.set_start.ensures c.set_steps.ensures in
    record { same_size = stored.0; put_there = told_puts (loaded_at c.args.p c.args.map.now) c.args.at is stored.1 }

pub returns-in-Step : goal.returns-in-Step
unfolding puts
returns-in-Step c =
    let is = c.in-Step.is in
    let stored = step_stored c.args.map.now _ _ (step_room (steps_here (goal.at.returns-in-Step c).In-Step)) c.steps-count.ensures.0 c.set_steps-in-Step.ensures in
    record { same_size = stored.0; put_there = told_puts (loaded_at c.args.p c.args.map.now) c.args.at is stored.1 }

pub returns-in-End : goal.returns-in-End
unfolding puts
returns-in-End c = record { same_size = refl; put_there = told_puts (loaded_at c.args.p c.args.map.now) c.args.at c.in-End.is refl }
