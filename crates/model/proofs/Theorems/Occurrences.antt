-- 02, N14: each character occurs as often in the image as in the source document: filler has none, and the paths build none.
use Rattle.std.specs.Prelude.{◌≡◌, ℕ, ◌+◌, eqb}
use Rattle.std.proofs.Math.Path.{refl}
use Rattle.std.proofs.Common.{◌∙◌}
use Rattle.std.proofs.Math.Nat.{zero-add}
use native.Mathlib.Omega.{arith}
use Rattle.model.specs.Definitions.Basics.{pick}
use Rattle.model.specs.Definitions.Table.{Kind, text, empty, sequence, choice, list, Table, kind_of}
use Rattle.model.specs.Definitions.Content.{Content, end, char, elem}
use Rattle.model.specs.Definitions.Conformance.{Holds}
use Rattle.model.specs.Definitions.Filler.{Builder, content, known, fillers}
use Rattle.model.specs.Definitions.Image.{Setting, image}
use Rattle.model.specs.Definitions.Templates.{around}
use Rattle.model.specs.Definitions.Counting.{occurrences}
use Rattle.model.proofs.Theorems.Facts.{Valid}
use Rattle.model.proofs.Theorems.Measures.{Hom, image_hom}
use Rattle.model.proofs.Theorems.TemplateSizes.{Adds, RowAdds, sum_of, image_sum}
use Rattle.model.proofs.Theorems.Kept.{all_filler}

module _ (c : ℕ) where
  -- the occurrences of c in what is built, part by part
  occurrences_of : Builder ℕ
  occurrences_of = record { none = 0; letter = λ d r. pick (eqb c d) 1 0 + r; element = λ built t k r. k + r }

  occurrences_hom : Hom content occurrences_of (occurrences c)
  unfolding content occurrences_of occurrences
  occurrences_hom = record { on_none = refl; on_letter = λ d r. refl; on_element = λ built t k r. refl }

  -- they add up, an element adding none
  occurrences_add : Adds occurrences_of
  unfolding occurrences_of
  occurrences_add =
      record { letter_cost = λ d. pick (eqb c d) 1 0; cost = λ built. 0; no_cost = refl; of_letter = λ d r. refl; element_cost = λ built t k r. omega arith }

  -- filler has no characters
  none_in_filler : (T : Table) (t : ℕ) → known occurrences_of (fillers occurrences_of T) t ≡ 0
  unfolding occurrences_of
  none_in_filler T t = all_filler occurrences_of (λ n. n ≡ 0) refl (λ m k r hk hr. omega (arith, hk, hr)) T t

  -- so a row has none, its holes aside
  none_in_rows : (T : Table) → RowAdds T occurrences_of occurrences_add (λ row. 0)
  unfolding occurrences_add
  none_in_rows T =
      record {
        of_end = refl;
        of_opening = λ t row. refl;
        of_closing = λ row. refl;
        of_filler = λ t row. omega (arith, none_in_filler T t);
        of_hole = λ h row. refl;
      }

  nothing_around : (κ : Kind) → around κ 0 ≡ 0
  unfolding around
  nothing_around text = refl
  nothing_around empty = refl
  nothing_around (sequence ms) = refl
  nothing_around (choice need ms) = refl
  nothing_around (list m) = refl

  -- and the sum over the source document is that of its characters
  only_characters : (X : Setting) (s : ℕ) (k : Content) → sum_of X (λ d. pick (eqb c d) 1 0) (λ t m. 0) (λ t. 0) s k ≡ occurrences c k
  unfolding sum_of occurrences
  only_characters X s end = refl
  only_characters X s (char d r) = rw (only_characters X s r)
  only_characters X s (elem t k r) = omega (arith, nothing_around (kind_of X.source s), only_characters X t k, only_characters X s r)

  -- Character c occurs in the image as often as in the source document.
  pub occurs_as_often : (X : Setting) → Valid X → (k : Content) → Holds X.source (kind_of X.source 0) k → occurrences c (image X k) ≡ occurrences c k
  unfolding image occurrences_add
  occurs_as_often X v k h =
      image_hom content occurrences_of (occurrences c) occurrences_hom X k
      ∙ image_sum occurrences_of occurrences_add X v (λ row. 0) (none_in_rows X.target) k h ∙ zero-add _ ∙ only_characters X 0 k
