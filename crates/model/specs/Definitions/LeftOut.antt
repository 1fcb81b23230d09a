-- 02, N4: what is left of a target document once the elements on no followed path, and the characters that no character path leads
-- to, are left out.
--
-- The image of a document goes along the paths of all its elements (`Image.antt`), told at each element whether a path builds it. Here
-- it goes along them in a target document that was read: it takes what stands there in place of building it, and passes over
-- what no path builds.
use Rattle.std.specs.Prelude.{Bool, true, false, ℕ, ◌-◌}
use Rattle.model.specs.Definitions.Content.{Content, end, char, elem, elements}
use Rattle.model.specs.Definitions.Filler.{Builder}
use Rattle.model.specs.Definitions.Image.{Setting, image_by}

-- a character that a character path leads to
unfoldable pub keep_character : (Content → Content) → Content → Content
keep_character after end = end
keep_character after (char c r) = char c (after r)
keep_character after (elem t k r) = end

-- an element on a path, of whose content `inside` is kept, or one on no path
unfoldable pub keep_element : Bool → (Content → Content) → (Content → Content) → Content → Content
keep_element on_path inside after end = end
keep_element on_path inside after (char c r) = end
keep_element true inside after (elem t k r) = elem t (inside k) (after r)
keep_element false inside after (elem t k r) = after r

-- what is kept of target content, part by part; what comes behind the last part is left out
unfoldable pub kept : Builder (Content → Content)
kept = record { none = λ k. end; letter = λ c after k. keep_character after k; element = λ on_path t inside after k. keep_element on_path inside after k }

-- what is left of target content k, of which source content j was read
unfoldable pub on_paths : Setting → Content → Content → Content
on_paths X j k = image_by kept X j k

-- the number of elements that are left out; k is what the root holds, so the root is not among them
unfoldable pub left_out_of : Setting → Content → Content → ℕ
left_out_of X j k = elements k - elements (on_paths X j k)
