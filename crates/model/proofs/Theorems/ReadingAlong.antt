-- 02, N4: of a conforming target document that was read there is left what the paths of the source document read from it build. So the
-- elements left out are counted, the source document is no longer than the target document, and what is left determines it.
use Rattle.std.specs.Prelude.{◌≡◌, refl, true, false, ℕ, ◌+◌, ◌≤◌, length}
use Rattle.std.proofs.Common.{sym, ◌∙◌, subst}
use Rattle.std.proofs.Math.Path.{ap}
use native.Mathlib.Omega.{arith}
use Rattle.model.specs.Definitions.Basics.{pick}
use Rattle.model.specs.Definitions.Table.{kind_of}
use Rattle.model.specs.Definitions.Content.{Content, bytes, document, levels, elements}
use Rattle.model.specs.Definitions.Conformance.{Holds}
use Rattle.model.specs.Definitions.Image.{Setting, image, image_by, image_filler}
use Rattle.model.specs.Definitions.Inverse.{located, yields, reading, read_back}
use Rattle.model.specs.Definitions.LeftOut.{on_paths, left_out_of}
use Rattle.model.proofs.Theorems.Facts.{Valid}
use Rattle.model.proofs.Theorems.ReadsPlain.{yields_held, read_content_lem}
use Rattle.model.proofs.Theorems.Measures.{Hom, image_hom, document-length, Marked, marked_end, marked_char, marked_elem, marked, unmarked, count_filler, marked_is_image, marked_filler}
use Rattle.model.proofs.Theorems.WithoutFiller.{bare_image, built_of}
use Rattle.model.proofs.Theorems.Taken.{left-elements, left-levels, left-bytes}
use Rattle.model.proofs.Theorems.Kept.{kept_is_bare, kept-left}
use Rattle.model.proofs.Theorems.BareImages.{bare_injective, bare_elements, bare_levels, bare_bytes}
use Rattle.model.proofs.Theorems.BringingBack.{Source, image_conforms, read_image, read_conforms}

-- ---- an image's elements: those that paths build, and filler

-- the elements that paths build
unfoldable count_built : Marked → ℕ
count_built marked_end = 0
count_built (marked_char c r) = count_built r
count_built (marked_elem built t k r) = pick built 1 0 + count_built k + count_built r

count_built_lem : Hom marked built_of count_built
unfolding marked built_of count_built
count_built_lem = record { on_none = refl; on_letter = λ c r. refl; on_element = λ built t k r. refl }

-- each element is one or the other
marked-elements : (m : Marked) → elements (unmarked m) ≡ count_built m + count_filler m
unfolding elements unmarked count_built count_filler pick
marked-elements marked_end = refl
marked-elements (marked_char c r) = marked-elements r
marked-elements (marked_elem true t k r) = omega (arith, marked-elements k, marked-elements r)
marked-elements (marked_elem false t k r) = omega (arith, marked-elements k, marked-elements r)

-- so are those of an image
pub image-elements : (X : Setting) (j : Content) → elements (image X j) ≡ image_by built_of X j + image_filler X j
image-elements X j =
    rw (← marked_is_image X j, ← image_hom marked built_of count_built count_built_lem X j, ← marked_filler X j) (marked-elements (image_by marked X j))

-- ---- documents

-- the elements that are left of target content k, of which j was read, are those that paths build, and the others are left out
pub record Counted (X : Setting) (k j : Content) : Type 0 where
  pub built_left : elements (on_paths X j k) ≡ image_by built_of X j
  pub built_and_left_out : image_by built_of X j + left_out_of X j k ≡ elements k
  pub built_within : image_by built_of X j ≤ elements k

module _ (X : Setting) (v : Valid X) where
  -- a conforming target document, by what its root holds
  abbrev Target : Content → Type 0
  Target k = Holds X.target (kind_of X.target 0) k

  -- ---- what is left

  -- of a target document that was read, the image without filler of what was read is left
  pub kept_built : (k j : Content) → Target k → reading X k ≡ yields j → on_paths X j k ≡ bare_image X j
  unfolding on_paths bare_image image_by reading
  kept_built k j h e =
      kept_is_bare X v (length (document 0 k)) 0 k j v.source_sound.well_formed.has_root
      (subst (λ (t : ℕ). Holds X.target (kind_of X.target t) k) (sym v.root_to_root_lem) h) (yields_held X (length (document 0 k)) 0 (located 2 k) j e)

  -- so its elements are counted
  pub read_counts : (k j : Content) → Target k → reading X k ≡ yields j → Counted X k j
  unfolding left_out_of
  read_counts k j h e =
      let same : elements (on_paths X j k) ≡ image_by built_of X j = ap elements (kept_built k j h e) ∙ bare_elements X j in
      let fewer = left-elements (kept-left X j k) in
      record { built_left = same; built_and_left_out = omega arith; built_within = omega arith }

  -- ---- images

  -- an image is read as its source
  pub image_read : (j : Content) → Source X v j → reading X (image X j) ≡ yields j
  unfolding read_back
  image_read j h = (read_content_lem (reading X (image X j)) j).1 (read_image X v j h)

  -- and its filler is left out
  pub image_left_out : (j : Content) → Source X v j → left_out_of X j (image X j) ≡ image_filler X j
  image_left_out j h = omega (arith, (read_counts (image X j) j (image_conforms X v j h) (image_read j h)).built_and_left_out, image-elements X j)

  -- ---- what was read

  -- it conforms to the source table
  pub yielded_conforms : (k j : Content) → Target k → reading X k ≡ yields j → Source X v j
  unfolding read_back
  yielded_conforms k j h e = read_conforms X v k j h ((read_content_lem (reading X k) j).0 e)

  -- it has at most the bytes of the document that it was read from
  pub read_no_longer : (k j : Content) → Target k → reading X k ≡ yields j → length (document 0 j) ≤ length (document 0 k)
  read_no_longer k j h e =
      let built : length (bytes j) ≤ length (bytes (on_paths X j k)) = rw (kept_built k j h e) (bare_bytes X v j (yielded_conforms k j h e)) in
      omega (arith, document-length 0 j, document-length 0 k, left-bytes (kept-left X j k))

  -- and at most its levels
  pub read_no_deeper : (k j : Content) → Target k → reading X k ≡ yields j → levels j ≤ levels k
  read_no_deeper k j h e =
      let built : levels j ≤ levels (on_paths X j k) = rw (kept_built k j h e) (bare_levels X v j (yielded_conforms k j h e)) in
      omega (arith, left-levels (kept-left X j k))

  -- Two target documents of which the same is left are read as the same.
  pub read_by_what_is_left : (k l i j : Content) → Target k → Target l → reading X k ≡ yields i → reading X l ≡ yields j → on_paths X i k ≡ on_paths X j l → i ≡ j
  read_by_what_is_left k l i j hk hl ek el same =
      bare_injective X v i j (yielded_conforms k i hk ek) (yielded_conforms l j hl el) (sym (kept_built k i hk ek) ∙ same ∙ kept_built l j hl el)
