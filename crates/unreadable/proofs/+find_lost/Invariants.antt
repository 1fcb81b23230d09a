-- The measure is the number of levels; the loop's invariant says that reading fails as what is left of the children does.
use Rattle.std.proofs.Common.{◌-◌}
use Rattle.model.specs.Definitions.Inverse.{opened_at, read_parts, read_to}
use Rattle.loaded_setting.specs.Ready.{setting_in}
use Rattle.children.specs.Cursors.{cursor_weight}
use Rattle.unreadable.specs.Losing.{FailsAs}
use Rattle.unreadable.proofs.Going.{Going}
use Rattle.unreadable.proofs.+find_lost.Given as goal

abbrev pub decreases-find_lost : goal.decreases-find_lost
decreases-find_lost l = l.depth

abbrev pub invariant-loop-child : goal.invariant-loop-child
invariant-loop-child l =
    let X = setting_in l.source l.target l.map l.em in
    let σ = l.image.sigma in
    let depth = l.depth in
    Going l.source l.target l.map l.em σ l.tr l.image.from
    (λ k parts. FailsAs (read_to X depth σ k) (read_parts (λ m a. read_to X (depth - 1) m a) (opened_at k) parts)) l.cursor

abbrev pub decreases-loop-child : goal.decreases-loop-child
decreases-loop-child l = cursor_weight l.tr l.cursor
