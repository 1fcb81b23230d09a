-- Content from which elements, and all that is behind some place, were taken away.
use Rattle.std.specs.Prelude.{◌∷◌, ℕ, ◌≤◌, length}
use Rattle.std.proofs.Common.{arith, length-append}
use Rattle.model.specs.Definitions.Content.{Content, end, char, elem, bytes, levels, elements}

-- `LeftOf j k`: j is k, or what is left of it when elements and characters are taken away
pub data LeftOf : Content → Content → Type 0 where
  nothing_left : {k : Content} → LeftOf end k
  letter_left : {c : ℕ} {j k : Content} → LeftOf j k → LeftOf (char c j) (char c k)
  element_left : {t : ℕ} {i j k r : Content} → LeftOf i k → LeftOf j r → LeftOf (elem t i j) (elem t k r)
  element_taken : {t : ℕ} {j k r : Content} → LeftOf j r → LeftOf j (elem t k r)

-- what is left has no more elements
pub left-elements : {j k : Content} → LeftOf j k → elements j ≤ elements k
unfolding elements
left-elements nothing_left = omega arith
left-elements (letter_left h) = left-elements h
left-elements (element_left hi hj) = omega (arith, left-elements hi, left-elements hj)
left-elements (element_taken h) = omega (arith, left-elements h)

-- no more levels
pub left-levels : {j k : Content} → LeftOf j k → levels j ≤ levels k
unfolding levels
left-levels nothing_left = omega arith
left-levels (letter_left h) = left-levels h
left-levels (element_left hi hj) = omega (arith, left-levels hi, left-levels hj)
left-levels (element_taken h) = omega (arith, left-levels h)

-- and no more bytes
pub left-bytes : {j k : Content} → LeftOf j k → length (bytes j) ≤ length (bytes k)
unfolding bytes
left-bytes nothing_left = omega arith
left-bytes (letter_left h) = omega (arith, left-bytes h)
left-bytes (element_left {i = i} {j = j} {k = k} {r = r} hi hj) =
    omega (arith, length-append (bytes i) (0x32 ∷ bytes j), length-append (bytes k) (0x32 ∷ bytes r), left-bytes hi, left-bytes hj)
left-bytes (element_taken {k = k} {r = r} h) = omega (arith, length-append (bytes k) (0x32 ∷ bytes r), left-bytes h)
