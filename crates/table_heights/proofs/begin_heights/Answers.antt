use mathlib.Core.Path.{ap, ◌∙◌}
use Prim.Native.Nat.{ℕ}
use native.Mathlib.Omega.{arith}
use Rattle.loaded_table.specs.Loaded.{types_in, section_more}
use Rattle.table_heights.specs.Sections.{elsewhere_same, elsewhere_set}
use Rattle.table_heights.specs.Heights.{first_height}
use Rattle.table_heights.proofs.begin_heights.Goals as goal

pub loop-t-init : goal.loop-t-init
loop-t-init c = (elsewhere_same 128 64 _, λ k low. absurd (omega arith))

pub first_height-requires : goal.first_height-requires
first_height-requires c = omega (arith, c.types-all.ensures.0, c.requires.few_types)

pub loop-t-preserved : goal.loop-t-preserved
loop-t-preserved c =
    let kept = c.loop-t.invariant.0 in
    let first = c.first_height in (
      elsewhere_set c.loop-t.t first.result (omega arith) c.set_height.ensures kept,
      section_more (first_height (types_in c.args.table.now)) 128 64 c.loop-t.table c.loop-t.t first.result (omega (arith, kept.same_size, c.requires.size)) (omega arith)
          (first.ensures ∙ ap (λ (n : ℕ). first_height n c.loop-t.t) c.types-all.ensures.0) c.set_height.ensures c.loop-t.invariant.1,
    )

pub returns : goal.returns
returns c = (c.loop-t.invariant.0, λ t low. c.loop-t.invariant.1 t (omega arith))
