-- `item_size` meets its contract: by the code of the kind.
use mathlib.Core.Path.{ap, ◌∙◌}
use Rattle.rows.specs.Rows.{levels_in, bytes_in, filler_in, item_row}
use Rattle.measuring.proofs.Edges.{none_around, all_around}
use Rattle.measuring.proofs.item_size.Goals as goal

pub returns-then-kind-lt-LIST : goal.returns-then-kind-lt-LIST
returns-then-kind-lt-LIST c =
    let sizes = c.args.sizes.now in
    let row = item_row c.args.s in
    let none = none_around c.args.source.now c.args.s c.kind.result c.requires.s_bound.0 c.kind.ensures.0 c.if-kind-lt-LIST.true in
    record { levels = none (levels_in sizes row); bytes = none (bytes_in sizes row); filler = none (filler_in sizes row) }

pub returns : goal.returns
returns c =
    let sizes = c.args.sizes.now in
    let row = c.item_row.ensures in
    let size = c.size_of.ensures in
    let all = all_around c.args.source.now c.args.s c.kind.result c.requires.s_bound.0 c.kind.ensures.0 c.if-kind-lt-LIST.false in
    record { levels = all _ _ (size.0 ∙ ap (levels_in sizes) row); bytes = all _ _ (size.1 ∙ ap (bytes_in sizes) row); filler = all _ _ (size.2 ∙ ap (filler_in sizes) row) }
