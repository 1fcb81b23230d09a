-- `first_step` meets its contract.
use mathlib.Core.Path.{◌≡◌, refl, sym}
use mathlib.Core.List.{List}
use Prim.Native.Nat.{ℕ, zero, suc}
use native.Mathlib.Omega.{arith}
use lib.ListN.{get_or}
use Rattle.loaded_embedding.specs.Loaded.{steps_from}
use Rattle.growing.specs.Growing.{first_of}
use Rattle.growing.proofs.first_step.Goals as goal

-- some step is left
first-is : (em : List ℕ) (o left : ℕ) → (left ≡ 0 → ⊥) → first_of (steps_from em o left) ≡ get_or em o 0
unfolding first_of steps_from
first-is em o zero some = absurd (some refl)
first-is em o (suc left) some = refl

pub returns : goal.returns
returns c = (omega arith, rw (c.from-2.ensures, c.from.ensures) (sym (first-is _ _ _ c.if-left-eq0.false)), omega arith)
