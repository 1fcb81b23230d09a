-- `row_of` meets its contract.
use mathlib.Core.Path.{◌∙◌, ap₂}
use native.Mathlib.Omega.{arith}
use Rattle.loaded_table.specs.Loaded.{table_by, length_of_lem}
use Rattle.rows.specs.Rows.{source_row}
use Rattle.scanning.specs.Laws.{content_within}
use Rattle.row_traversal.specs.Contents.{first_conforms}
use Rattle.row_traversal.proofs.row_of.Goals as goal

pub overflow_add-second : goal.overflow_add-second
overflow_add-second c = omega (arith, content_within c.requires.element.element.within, c.well_formed.1.0)

pub bounds-tr-second : goal.bounds-tr-second
bounds-tr-second c = omega (arith, content_within c.requires.element.element.within)

pub overflow_add-o : goal.overflow_add-o
overflow_add-o c = omega (arith, content_within c.requires.element.element.within, c.well_formed.1.0)

pub first_type-t-requires : goal.first_type-t-requires
first_type-t-requires c = first_conforms c.requires.element

pub source_row-requires : goal.source_row-requires
source_row-requires c = record { bounded = c.requires.bounded; s_bound = omega (arith, c.requires.element.is_type, c.requires.element.element.named, c.from-s.ensures, length_of_lem c.args.source.now) }

pub returns : goal.returns
returns c =
    λ k. c.source_row.ensures.0
    ∙ ap₂ (source_row (table_by c.args.source.now)) (c.from-s.ensures ∙ k.element.named) (c.first_type-t.ensures (first_conforms k))
