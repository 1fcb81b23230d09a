-- `keep_last` meets its contract: one step finds the height, and one the filler's length.
use mathlib.Core.Path.{◌≡◌, refl}
use Prim.Native.Nat.{◌≤◌}
use native.Mathlib.Omega.{arith}
use Rattle.loaded_table.specs.Loaded.{table_by, length_of_lem}
use Rattle.model.specs.Definitions.Heights.{height_of}
use Rattle.table_heights.specs.Sections.{types_elsewhere, bounded_elsewhere}
use Rattle.table_growth.proofs.Keeping.{height_held, first-elsewhere, found, mid-elsewhere, bounded-mid, last-kept}
use Rattle.table_growth.proofs.keep_last.Goals as goal
use Rattle.table_growth.proofs.keep_last.Goals.{After-next_height-h}

-- what is found is the height
height : (c : After-next_height-h) → c.next_height-h.result ≡ height_of (table_by c.args.table.now) c.args.t
height c =
    found _ _ c.requires.0 c.requires.1 c.set_height.ensures c.next_height-h.ensures

-- it fits a number of the table
fits : (c : After-next_height-h) → c.next_height-h.result ≤ 65
fits c =
    omega (arith, height c, height_held (table_by c.args.table.now) c.args.t, length_of_lem c.args.table.now, c.requires.1.last, c.requires.0)

pub overflow_cast-t : goal.overflow_cast-t
overflow_cast-t c = record { fits = omega (arith, c.requires.0) }

pub overflow_add-t : goal.overflow_add-t
overflow_add-t c = record { fits = omega (arith, c.requires.0) }

pub set_height-requires : goal.set_height-requires
set_height-requires c = c.requires.0

pub next_height-h-requires : goal.next_height-h-requires
next_height-h-requires c =
    let kept = first-elsewhere _ _ c.requires.0 c.requires.1 c.set_height.ensures in
    (bounded_elsewhere (omega arith) (omega arith) kept c.requires.1.bounded, omega (arith, types_elsewhere (omega arith) (omega arith) kept, c.requires.1.last))

pub overflow_cast-h : goal.overflow_cast-h
overflow_cast-h c = record { fits = omega (arith, fits (goal.at.overflow_cast-h c).After-next_height-h) }

pub set_height-requires-2 : goal.set_height-requires-2
set_height-requires-2 c = c.requires.0

pub fill_of-length-requires : goal.fill_of-length-requires
fill_of-length-requires c =
    let first = c.set_height.ensures in (
      bounded-mid _ _ c.requires.0 c.requires.1 first (height (goal.at.fill_of-length-requires c).After-next_height-h) c.set_height-2.ensures,
      omega (arith, types_elsewhere (omega arith) (omega arith) (mid-elsewhere _ _ c.requires.0 c.requires.1 first (height (goal.at.fill_of-length-requires c).After-next_height-h) c.set_height-2.ensures), c.requires.1.last),
    )

pub set_fill-requires : goal.set_fill-requires
set_fill-requires c = c.requires.0

pub overflow_add-result : goal.overflow_add-result
overflow_add-result c = record { fits = omega (arith, c.requires.0) }

pub returns : goal.returns
returns c =
    last-kept _ _ c.requires.0 c.requires.1 c.set_height.ensures (height (goal.at.returns c).After-next_height-h) c.set_height-2.ensures c.fill_of-length.ensures c.set_fill.ensures refl (omega arith)
