-- `measure` meets its contract: the root element is given, and the model's sums over rows are the image's sizes.
use native.Mathlib.Omega.{arith}
use Rattle.measuring.proofs.Whole.{root_given, root-held, whole-size}
use Rattle.measuring.proofs.measure.Goals as goal

pub element-root-requires : goal.element-root-requires
element-root-requires c = root_given c.requires

pub overflow_add-size : goal.overflow_add-size
overflow_add-size c =
    let small = root-held c.requires (c.element-root.ensures (root_given c.requires)).0 in
    omega (arith, small.levels_held)

pub overflow_add-size-2 : goal.overflow_add-size-2
overflow_add-size-2 c =
    let small = root-held c.requires (c.element-root.ensures (root_given c.requires)).0 in
    omega (arith, small.bytes_held)

pub returns : goal.returns
returns c =
    λ m. whole-size m (c.element-root.ensures (root_given m)).0 (omega (arith, c.min.ensures)) (omega (arith, c.min-2.ensures))
