-- `tree_expected::is_text` meets its contract. Assumes nothing.
use mathlib.Core.Path.{ap, ◌∙◌}
use Prim.Native.Nat.{ℕ}
use lib.Dec.{eqb}
use Rattle.tree_expected.proofs.Rests.{text_here}
use Rattle.tree_expected.proofs.is_text.Goals as goal

pub returns : goal.returns
returns c h = ap (λ (k : ℕ). eqb k 0) c.kind.ensures.0 ∙ text_here c.args.table.now c.args.m h
