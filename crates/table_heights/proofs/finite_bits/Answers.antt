use mathlib.Core.Path.{◌≡◌, refl, ◌∙◌}
use Prim.Native.Nat.{◌+◌, ◌<◌}
use native.Mathlib.Omega.{arith}
use lib.ListN.{length, take}
use Rattle.loaded_table.specs.Loaded.{heights_of}
use Rattle.table_heights.specs.Heights.{word, finite_bits}
use Rattle.table_heights.proofs.Words.{bits_set, bits_clear}
use Rattle.table_heights.proofs.finite_bits.Goals as goal
use Rattle.table_heights.proofs.finite_bits.Goals.{then-h-all, else-h-all}

pub loop-t-init : goal.loop-t-init
unfolding word finite_bits
loop-t-init c = refl

pub height-h-requires : goal.height-h-requires
unfolding word finite_bits
height-h-requires c = omega (arith, c.requires.0)

pub overflow_shl-bits : goal.overflow_shl-bits
unfolding word finite_bits
overflow_shl-bits c = omega (arith, c.requires.0)

pub loop-t-preserved : goal.loop-t-preserved
loop-t-preserved c =
    let hs = heights_of c.args.table.now in
    let is = c.height-h.ensures.0 in
    let within : c.loop-t.t < length hs = omega (arith, c.requires.0, c.requires.1) in
    let e : c.if-h-all.bits ≡ word (finite_bits c.args.all (take (c.loop-t.t + 1) hs)) =
    elim c.if-h-all.branch [
      | then-h-all w ↦ w.bits-is ∙ bits_set c.args.all hs c.loop-t.t c.loop-t.bits (omega (arith, c.requires.0)) within (omega (arith, is, w.if-h-all.true)) c.loop-t.invariant
      | else-h-all w ↦ w.bits-is ∙ bits_clear c.args.all hs c.loop-t.t c.loop-t.bits within (omega (arith, is, w.if-h-all.false)) c.loop-t.invariant
    ] in e

pub returns : goal.returns
returns c =
    let all : c.loop-t.t ≡ c.args.all = omega arith in
    rw all at c.loop-t.invariant
