-- `item_openings` meets its contract: by the code of the kind.
use mathlib.Core.Path.{◌∙◌}
use borrow.Author.Rules.{rules}
use Rattle.measuring.proofs.Edges.{none_around, all_around}
use Rattle.path_elements.proofs.item_openings.Goals as goal

pub returns-then-kind-lt-LIST : goal.returns-then-kind-lt-LIST
returns-then-kind-lt-LIST c =
    none_around c.args.source.now c.args.s c.kind.result c.requires.0 c.kind.ensures.0 c.if-kind-lt-LIST.true _

pub row_openings-requires : goal.row_openings-requires
row_openings-requires c = rw c.item_row.ensures (search rules)

pub returns : goal.returns
returns c =
    all_around c.args.source.now c.args.s c.kind.result c.requires.0 c.kind.ensures.0 c.if-kind-lt-LIST.false _ _ (c.row_openings.ensures ∙ rw c.item_row.ensures)
