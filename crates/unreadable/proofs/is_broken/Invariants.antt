-- `is_broken` meets its contract: what is left of the children is broken exactly where all are.
use mathlib.Core.Path.{◌≡◌}
use Rattle.model.specs.Definitions.Inverse.{unbroken, child_parts}
use Rattle.loaded_setting.specs.Ready.{setting_in}
use Rattle.children.specs.Cursors.{cursor_weight}
use Rattle.unreadable.proofs.Going.{Going}
use Rattle.unreadable.proofs.is_broken.Given as goal

abbrev pub invariant-loop-child : goal.invariant-loop-child
invariant-loop-child l =
    Going l.source l.target l.map l.em l.image.sigma l.tr l.image.from (λ k parts. unbroken (child_parts (setting_in l.source l.target l.map l.em) l.image.sigma k) ≡ unbroken parts) l.cursor

abbrev pub decreases-loop-child : goal.decreases-loop-child
decreases-loop-child l = cursor_weight l.tr l.cursor
