-- 01 "The image and the filler" and 02, N6: a list on a path holds exactly one item. A test of a source document beside a
-- target document: the paths of every source element are followed in the target document, each from the element that stands
-- for it to those that stand for its children, and each list that a step leaves has to hold exactly one item. The list that
-- takes the items of a source list is left by no step that is followed: its path is followed up to it, and the rest of the
-- path from each of its items.
use Rattle.std.specs.Prelude.{Bool, true, false, not, ◌&&◌, ◌||◌, List, [], ◌∷◌, ℕ}
use Rattle.std.proofs.Math.Option.{Option, none, some}
use Rattle.model.specs.Definitions.Table.{Kind, text, empty, sequence, choice, list, Table, kind_of, is_list}
use Rattle.model.specs.Definitions.Content.{Content, end, char, elem}
use Rattle.model.specs.Definitions.Embedding.{target_of, paths_of, first_path, next, divide, Divided, before_choice}
use Rattle.model.specs.Definitions.Filler.{Builder}
use Rattle.model.specs.Definitions.Image.{Setting, Placement, placed, Child, letter, element, along_paths, along_choice}
use Rattle.model.specs.Definitions.Inverse.{enter}

-- ---- one path

-- whether an element holds exactly one element
unfoldable pub holds_one : Content → Bool
holds_one end = false
holds_one (char c r) = false
holds_one (elem t k end) = true
holds_one (elem t k (char c r)) = false
holds_one (elem t k (elem u l r)) = false

-- whether what was found passes a test; what is not there doesn't
unfoldable pub found_passes : (Content → Bool) → Option Content → Bool
found_passes test none = false
found_passes test (some k) = test k

-- Following a path from an element of type τ that holds k: every element on it is there, each list that a step leaves holds
-- exactly one item, and what the element at its end holds passes a test.
unfoldable pub single_along : Table → ℕ → List ℕ → (Content → Bool) → Content → Bool
single_along T τ [] test k = test k
single_along T τ (p ∷ ps) test k =
    (not (is_list (kind_of T τ)) || holds_one k)
    && found_passes (λ inside. single_along T (next T τ p) ps test inside) (enter (kind_of T τ) p (next T τ p) k)

-- ---- the paths of one source element; of each child, the test of what its image holds

-- every content passes
unfoldable pub unasked : Builder (Content → Bool)
unasked = record { none = λ k. true; letter = λ c r k. true; element = λ built t inside r k. true }

-- one target item for each source item, in order, and the rest of the path followed from each
unfoldable pub single_items_of : Table → Divided → List (Child (Content → Bool)) → Content → Bool
single_items_of T d [] end = true
single_items_of T d [] (char c r) = false
single_items_of T d [] (elem t k r) = false
single_items_of T d (letter c ∷ ks) k = single_items_of T d ks k
single_items_of T d (element s test ∷ ks) end = false
single_items_of T d (element s test ∷ ks) (char c r) = false
single_items_of T d (element s test ∷ ks) (elem t k r) = single_along T d.item d.rest test k && single_items_of T d ks r

-- The paths that are followed from the image of a source element of kind κ, kind by kind as `placements` goes, and what is
-- asked of what stands at their ends.
unfoldable pub followed_paths : Table → Kind → ℕ → List (List ℕ) → List (Child (Content → Bool)) → List (Placement (Content → Bool))
followed_paths T text τ ps ks = placed (first_path ps) unasked.none ∷ []
followed_paths T empty τ ps ks = []
followed_paths T (sequence ms) τ ps ks = along_paths ps ks
followed_paths T (choice need ms) τ ps ks = along_choice unasked (before_choice T τ (first_path ps)) ms ps ks
followed_paths T (list m) τ ps ks = placed (divide T τ (first_path ps)).before (single_items_of T (divide T τ (first_path ps)) ks) ∷ []

-- all of some paths
unfoldable pub all_single : Table → ℕ → List (Placement (Content → Bool)) → Content → Bool
all_single T τ [] k = true
all_single T τ (placed path test ∷ ps) k = single_along T τ path test k && all_single T τ ps k

-- ---- all source elements

-- an element of type s, given the tests for its children, and what its image holds
unfoldable pub single_element : Setting → ℕ → List (Child (Content → Bool)) → Content → Bool
single_element X s ks k =
    all_single X.target (target_of X.embedding s)
    (followed_paths X.target (kind_of X.source s) (target_of X.embedding s) (paths_of X.embedding s) ks) k

-- the children that some source content stands for, each with its test
unfoldable pub single_children : Setting → Content → List (Child (Content → Bool))
single_children X end = []
single_children X (char c r) = letter c ∷ single_children X r
single_children X (elem t k r) = element t (single_element X t (single_children X k)) ∷ single_children X r

-- a source document whose root holds k, and a target document whose root holds j
unfoldable pub single_items : Setting → Content → Content → Bool
single_items X k j = single_element X 0 (single_children X k) j
