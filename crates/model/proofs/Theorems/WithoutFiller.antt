-- Images without their filler elements: what the paths alone build.
use Rattle.std.specs.Prelude.{Bool, true, false, ℕ, ◌+◌}
use Rattle.model.specs.Definitions.Basics.{pick}
use Rattle.model.specs.Definitions.Content.{Content, end, char, elem}
use Rattle.model.specs.Definitions.Filler.{Builder}
use Rattle.model.specs.Definitions.Image.{Setting, image_by}

-- content, and other content behind it
unfoldable pub joined : Content → Content → Content
joined end r = r
joined (char c k) r = char c (joined k r)
joined (elem t j k) r = elem t j (joined k r)

-- an element that a path builds; of a filler element what it holds, which is filler too, so that nothing is left of it
unfoldable pub built_element : Bool → ℕ → Content → Content → Content
built_element true t k r = elem t k r
built_element false t k r = joined k r

unfoldable pub without_filler : Builder Content
without_filler = record { none = end; letter = char; element = built_element }

-- what the root of an image holds, its filler elements left out
unfoldable pub bare_image : Setting → Content → Content
bare_image X k = image_by without_filler X k

-- the number of elements that paths build, the root aside
unfoldable pub built_of : Builder ℕ
built_of = record { none = 0; letter = λ c r. r; element = λ built t k r. pick built 1 0 + k + r }
