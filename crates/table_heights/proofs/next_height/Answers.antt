-- `next_height` meets its contract.
use mathlib.Core.Path.{refl, sym, ◌∙◌}
use native.Mathlib.Omega.{arith}
use Rattle.loaded_table.specs.Loaded.{length_of_lem}
use Rattle.table_heights.proofs.Rounds.{next_is}
use Rattle.table_heights.proofs.next_height.Goals as goal

pub types-requires : goal.types-requires
types-requires c = tt

pub height_of-requires : goal.height_of-requires
height_of-requires c = c.requires

pub held_height-requires : goal.held_height-requires
held_height-requires c = omega (arith, c.types.ensures.0, c.requires.0.few_types)

pub returns : goal.returns
returns c =
    let rows = c.args.table.now in
    next_is _ rows _ refl (length_of_lem rows ∙ sym c.types.ensures.0) c.height_of.ensures c.held_height.ensures
