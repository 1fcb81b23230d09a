use mathlib.Core.Path.{◌∙◌}
use Prim.Native.Nat.{◌+◌}
use native.Mathlib.Omega.{arith}
use Rattle.table_form.specs.Read.{command}
use Rattle.table_load.specs.Loading.{loaded_in}
use Rattle.table_load.proofs.Turns.{TableLoading, TableTurn, loading_starts, loading_few, turn, turned, loading_ends, all_read}
use Rattle.table_load.proofs.load.Goals as goal
use Rattle.table_load.proofs.load.Goals.{In-Some, After-width-at, else-loop-at-test, then-loop-at-test+in_default}

-- what a turn needs and gives
here : (c : In-Some) → TableTurn c.args.t.now (loaded_in c.loop-at.types c.loop-at.table) c.loop-at.at (command c.in-Some.c)
here c = turn _ _ _ c.loop-at-test.true c.in-Some.ensures c.loop-at.invariant.1

-- the invariant behind the command
again : (c : After-width-at)
    → TableLoading c.args.t.now (loaded_in c.put-types.result c.put-types.new.table) (c.loop-at.at + c.width-at.result)
again c = turned (turn _ _ _ c.loop-at-test.true c.in-Some.ensures c.loop-at.invariant.1) c.put-types.ensures c.width-at.ensures

pub loop-at-init : goal.loop-at-init
loop-at-init c =
    let cleared = c.clear_counts.ensures in
    (cleared.size, loading_starts _ c.requires.t_value c.requires.t_value_2 cleared)

pub put-types-requires : goal.put-types-requires
put-types-requires c = (here (goal.at.put-types-requires c).In-Some).room

pub overflow_add-at : goal.overflow_add-at
overflow_add-at c = record { fits = omega (arith, (again (goal.at.overflow_add-at c).After-width-at).within, c.well_formed.0) }

pub loop-at-smaller : goal.loop-at-smaller
loop-at-smaller c =
    let turned_by = here (goal.at.loop-at-smaller c).In-Some in
    omega (arith, (again (goal.at.loop-at-smaller c).After-width-at).within, turned_by.moves, c.width-at.ensures, c.loop-at-test.true)

pub loop-at-preserved : goal.loop-at-preserved
loop-at-preserved c = (c.put-types.ensures.same_size ∙ c.loop-at.invariant.0, again (goal.at.loop-at-preserved c).After-width-at)

pub overflow_cast-types : goal.overflow_cast-types
overflow_cast-types c = record { fits = omega (arith, loading_few c.loop-at.invariant.1) }

pub returns : goal.returns
returns c =
    elim c.loop-at-test.branch [
      | else-loop-at-test w ↦ rw c.set_types.ensures (loading_ends c.loop-at.table c.loop-at.types c.loop-at.invariant.0 w.loop-at-test.false c.loop-at.invariant.1)
      | then-loop-at-test+in_default w ↦ absurd (all_read _ _ _ w.loop-at-test.true w.in_default.ensures c.loop-at.invariant.1)
    ]
