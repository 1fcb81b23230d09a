-- What the answer of `first_step` says of a step.
use Rattle.std.specs.Prelude.{◌≡◌, true, false, List, ℕ, ◌<◌, eqb, Option, Some, None, MatchOption}
use Rattle.std.specs.Option.{option_eq}
use Rattle.std.proofs.Common.{sym, ◌∙◌, arith}
use Rattle.std.proofs.lemmas.Bool.{eqb-true, eqb-false}
use Rattle.loaded_embedding.specs.Loaded.{steps_from}
use Rattle.growing.specs.Growing.{first_of}

-- the first of some steps, if there is one
abbrev pub IsFirst : List ℕ → ℕ → ℕ → Option ℕ → Type 0
IsFirst em o left r = MatchOption r (left ≡ 0) (λ p. (0 < left) × (p ≡ first_of (steps_from em o left)) × (p < 256))

-- it is step q
pub first_same : (em : List ℕ) (o left q : ℕ) (r : Option ℕ) → IsFirst em o left r → option_eq eqb r (Some q) ≡ true → first_of (steps_from em o left) ≡ q
first_same em o left q None h e = cc
first_same em o left q (Some p) h e = sym h.1 ∙ eqb-true p q e

-- it is another, or there is none
pub first_other : (em : List ℕ) (o left q : ℕ) (r : Option ℕ) → 0 < q → IsFirst em o left r → option_eq eqb r (Some q) ≡ false → first_of (steps_from em o left) ≡ q → ⊥
unfolding first_of steps_from
first_other em o left q None some h e is = let none : 0 ≡ q = rw h at is in omega arith
first_other em o left q (Some p) some h e is = eqb-false p q e (h.1 ∙ is)
