use mathlib.Core.Path.{◌∙◌}
use native.Mathlib.Omega.{arith}
use Rattle.row_sizes.specs.Sizes.{sized_all}
use Rattle.row_sizes.proofs.Storing.{type_kept, below_more}
use Rattle.row_sizes.proofs.size_rows.Goals as goal

pub loop-s-preserved : goal.loop-s-preserved
loop-s-preserved c =
    let inv = c.loop-s.invariant in
    let sized = c.size_type.ensures in
    (sized.0.long ∙ inv.0, below_more _ _ _ inv.1 (λ i. type_kept sized.0) sized.1)

pub returns : goal.returns
returns c =
    let inv = c.loop-s.invariant in
    λ map em ready rows.
    sized_all ready rows (omega (arith, c.requires.long.1, inv.0)) (λ s exists. inv.1 s (omega (arith, exists, c.types-types.ensures.0)))
