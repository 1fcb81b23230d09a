use mathlib.Core.Path.{◌∙◌}
use Prim.Native.Nat.{◌+◌}
use native.Mathlib.Omega.{arith}
use Rattle.loaded_table.specs.Loaded.{table_by}
use Rattle.embedding_form.specs.Commands.{command}
use Rattle.embedding_load.specs.Loading.{loaded_at}
use Rattle.embedding_load.proofs.Sources.{source_in}
use Rattle.embedding_load.proofs.Turns.{EmbeddingLoading, EmbeddingTurn, loading_starts, command_stands, none_stands, turn, turned, loading_ends}
use Rattle.embedding_load.proofs.load.Goals.{In-Some, After-width-at}
use Rattle.embedding_load.proofs.load.Goals as goal

-- what a turn needs and gives
here : (c : In-Some)
    → EmbeddingTurn c.args.em.now (table_by c.args.source.now) (loaded_at c.loop-c.place c.loop-c.map) c.loop-c.at (command c.in-Some.c)
here c = turn (command_stands _ _ c.in-Some.c c.in-Some.ensures) c.in-Some.ensures c.loop-c.invariant.1

-- the invariant behind the command
again : (c : After-width-at)
    → EmbeddingLoading c.args.em.now (table_by c.args.source.now) (loaded_at c.put-place.result c.put-place.new.map) (c.loop-c.at + c.width-at.result)
again c = turned (turn (command_stands _ _ c.in-Some.c c.in-Some.ensures) c.in-Some.ensures c.loop-c.invariant.1) c.put-place.ensures.put_there c.width-at.ensures

pub loop-c-init : goal.loop-c-init
loop-c-init c =
    let cleared = c.requires.cleared in
    (cleared.size, loading_starts _ cleared (source_in _ _ c.requires.bounded c.requires.em_len_bound) c.requires.em_value c.requires.em_value_2)

pub put-place-requires : goal.put-place-requires
put-place-requires c = (here (goal.at.put-place-requires c).In-Some).room

pub overflow_add-at : goal.overflow_add-at
overflow_add-at c = record { fits = omega (arith, (again c).within, c.requires.em_len_bound) }

pub loop-c-smaller : goal.loop-c-smaller
loop-c-smaller c = omega (arith, (again c).within, (here (goal.at.loop-c-smaller c).In-Some).moves, c.width-at.ensures)

pub loop-c-preserved : goal.loop-c-preserved
loop-c-preserved c = (c.put-place.ensures.same_size ∙ c.loop-c.invariant.0, again c)

pub returns : goal.returns
returns c = let l = c.loop-c in loading_ends _ _ _ (none_stands _ _ _ _ c.in_default.ensures l.invariant.1) l.invariant.0 l.invariant.1
