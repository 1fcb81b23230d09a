-- 02, N14: what an image holds, counted: the elements that paths build, from tables, embedding and source document alone, and how often
-- a character occurs.
use Rattle.std.specs.Prelude.{List, [], ◌∷◌, ◌++◌, map, ℕ, suc, ◌+◌, ◌*◌, ◌-◌, length, eqb}
use Rattle.std.proofs.Math.Option.{Option, none, some}
use Rattle.model.specs.Definitions.Basics.{pick, some_of}
use Rattle.model.specs.Definitions.Table.{Kind, text, empty, sequence, choice, list, Table, kind_of}
use Rattle.model.specs.Definitions.Content.{Content, end, char, elem}
use Rattle.model.specs.Definitions.Embedding.{target_of, paths_of, first_path, divide, before_choice, same_steps}
use Rattle.model.specs.Definitions.Image.{Setting, path_of_member}
use Rattle.model.specs.Definitions.Templates.{first_in}

-- ---- the different beginnings of paths

-- the beginnings of a path, of one step or more
unfoldable pub beginnings : List ℕ → List (List ℕ)
beginnings [] = []
beginnings (p ∷ ps) = (p ∷ []) ∷ map (λ (qs : List ℕ). p ∷ qs) (beginnings ps)

-- those of several paths, one path's after the other's
unfoldable pub beginnings_of : List (List ℕ) → List (List ℕ)
beginnings_of [] = []
beginnings_of (ps ∷ pss) = beginnings ps ++ beginnings_of pss

-- the number of different rows: each is counted where it occurs last
unfoldable pub different : List (List ℕ) → ℕ
different [] = 0
different (ps ∷ pss) = pick (some_of (same_steps ps) pss) 0 1 + different pss

-- ---- path elements

-- the number of children
unfoldable pub child_count : Content → ℕ
child_count end = 0
child_count (char c r) = child_count r
child_count (elem t k r) = suc (child_count r)

-- a choice: the steps of the path taken; where it holds nothing, those before its first choice step
unfoldable pub choice_steps : List ℕ → List ℕ → List (List ℕ) → Option ℕ → ℕ
choice_steps shared ms pss none = length shared
choice_steps shared ms pss (some t) = length (path_of_member t ms pss)

-- a list of n items, by a path and the steps before its first that leaves a list: these once, and the rest for each item
unfoldable pub list_steps : List ℕ → List ℕ → ℕ → ℕ
list_steps path before n = length before + n * (length path - length before)

-- the path elements of a source element of kind κ that holds k, its image of type τ, the paths of its edges being pss
unfoldable pub kind_elements : Table → Kind → ℕ → List (List ℕ) → Content → ℕ
kind_elements T text τ pss k = length (first_path pss)
kind_elements T empty τ pss k = 0
kind_elements T (sequence ms) τ pss k = different (beginnings_of pss)
kind_elements T (choice need ms) τ pss k = choice_steps (before_choice T τ (first_path pss)) ms pss (first_in k)
kind_elements T (list m) τ pss k = list_steps (first_path pss) (divide T τ (first_path pss)).before (child_count k)

-- those of a source element of type s that holds k, without the elements below it
unfoldable pub own_elements : Setting → ℕ → Content → ℕ
own_elements X s k = kind_elements X.target (kind_of X.source s) (target_of X.embedding s) (paths_of X.embedding s) k

-- the sum over all elements of some content
unfoldable pub elements_below : Setting → Content → ℕ
elements_below X end = 0
elements_below X (char c r) = elements_below X r
elements_below X (elem t k r) = own_elements X t k + elements_below X k + elements_below X r

-- the sum over all elements of a source document whose root holds k
unfoldable pub path_elements : Setting → Content → ℕ
path_elements X k = own_elements X 0 k + elements_below X k

-- ---- characters

-- how often character c occurs in some content
unfoldable pub occurrences : ℕ → Content → ℕ
occurrences c end = 0
occurrences c (char d r) = pick (eqb c d) 1 0 + occurrences c r
occurrences c (elem t k r) = occurrences c k + occurrences c r
