-- The number of elements that paths build is found from the rows of the templates: a symbol that opens an element is one.
use Rattle.std.specs.Prelude.{◌≡◌, refl, List, [], ◌∷◌, ℕ, ◌+◌}
use Rattle.std.proofs.Common.{sym, ap, ◌∙◌, zero-add, arith}
use Rattle.std.proofs.Math.Option.{Option}
use Rattle.model.specs.Definitions.Basics.{pick}
use Rattle.model.specs.Definitions.Table.{Table, kind_of}
use Rattle.model.specs.Definitions.Content.{Content, end, char, elem}
use Rattle.model.specs.Definitions.Conformance.{Holds}
use Rattle.model.specs.Definitions.Filler.{known, fillers}
use Rattle.model.specs.Definitions.Image.{Setting, image_by}
use Rattle.model.specs.Definitions.Templates.{Symbol, opening, closing, filler, hole, template, item_template, first_in, around}
use Rattle.model.proofs.Theorems.Facts.{Valid}
use Rattle.model.proofs.Theorems.TemplateSizes.{Adds, RowAdds, sum_of, image_sum}
use Rattle.model.proofs.Theorems.WithoutFiller.{built_of}
use Rattle.model.proofs.Theorems.Kept.{all_filler}

-- the elements that a row builds
unfoldable pub row_built : List Symbol → ℕ
row_built [] = 0
row_built (opening t ∷ row) = 1 + row_built row
row_built (closing ∷ row) = row_built row
row_built (filler t ∷ row) = row_built row
row_built (hole h ∷ row) = row_built row

-- those of the row of an element of type s whose first child, if it has one, has type t, and those of an item's row
unfoldable pub own_built : Setting → ℕ → Option ℕ → ℕ
own_built X s t = row_built (template X s t)

unfoldable pub item_built : Setting → ℕ → ℕ
item_built X s = row_built (item_template X s)

-- What the content of an element of type s adds: for each child its row and what its content adds, and for an item of a list what
-- stands around it.
unfoldable pub sum_built : Setting → ℕ → Content → ℕ
sum_built X s end = 0
sum_built X s (char c r) = sum_built X s r
sum_built X s (elem t k r) =
    around (kind_of X.source s) (item_built X s) + (own_built X t (first_in k) + sum_built X t k) + sum_built X s r

built_adds : Adds built_of
unfolding built_of
built_adds = record { letter_cost = λ c. 0; cost = λ built. pick built 1 0; no_cost = refl; of_letter = λ c r. sym (zero-add r); element_cost = λ built t k r. refl }

-- no path builds anything in filler
pub filler_not_built : (T : Table) (t : ℕ) → known built_of (fillers built_of T) t ≡ 0
unfolding built_of pick
filler_not_built T t = all_filler built_of (λ n. n ≡ 0) refl (λ m k r hk hr. omega (arith, hk, hr)) T t

built_rows : (T : Table) → RowAdds T built_of built_adds row_built
unfolding row_built built_adds pick
built_rows T =
    record {
      of_end = refl;
      of_opening = λ t row. refl;
      of_closing = λ row. refl;
      of_filler = λ t row. omega (arith, filler_not_built T t);
      of_hole = λ h row. refl;
    }

built_sum : (X : Setting) (s : ℕ) (k : Content) → sum_built X s k ≡ sum_of X (λ c. 0) (own_built X) (item_built X) s k
unfolding sum_built sum_of
built_sum X s end = refl
built_sum X s (char c r) = built_sum X s r ∙ sym (zero-add _)
built_sum X s (elem t k r) = rw (built_sum X t k, built_sum X s r)

-- The elements that paths build in the image are those of the rows.
pub image_built_rows : (X : Setting) → Valid X → (k : Content) → Holds X.source (kind_of X.source 0) k
    → image_by built_of X k ≡ own_built X 0 (first_in k) + sum_built X 0 k
unfolding own_built item_built built_adds
image_built_rows X valid k held =
    image_sum built_of built_adds X valid row_built (built_rows X.target) k held ∙ ap (λ (n : ℕ). own_built X 0 (first_in k) + n) (sym (built_sum X 0 k))
