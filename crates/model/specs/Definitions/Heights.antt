-- 01 "The image and the filler": heights, and with them "each type must have a finite instance" of "Table"; of the optional
-- choice 02, N3.
--
-- Heights are the least numbers such that text, empty, list and optional choice types have 1, a sequence 1 more than its
-- highest member, a choice 1 more than its lowest. `heights_to T n` are the heights held at n: a height above n counts as n.
-- They come by rounds, each from the round before, so they are there for every table. A type has a finite instance exactly where
-- its height is at most the number of types: a smallest instance has no type twice on the way down.
use Rattle.std.specs.Prelude.{Bool, List, [], ◌∷◌, map, ℕ, zero, suc, max, min, length, get_or, leb}
use Rattle.model.specs.Definitions.Basics.{Verdict, passes, fails, pick}
use Rattle.model.specs.Definitions.Commands.{needed, optional}
use Rattle.model.specs.Definitions.Table.{Kind, text, empty, sequence, choice, list, Table}

-- the height that a list of heights gives a type
unfoldable pub height_in : List ℕ → ℕ → ℕ
height_in hs t = get_or hs t 0

unfoldable pub highest : List ℕ → List ℕ → ℕ
highest hs [] = 0
highest hs (m ∷ ms) = max (height_in hs m) (highest hs ms)

unfoldable pub lowest : List ℕ → List ℕ → ℕ
lowest hs [] = 0
lowest hs (m ∷ []) = height_in hs m
lowest hs (m ∷ n ∷ ms) = min (height_in hs m) (lowest hs (n ∷ ms))

-- 01's equations for heights: a kind's height from those of its members
unfoldable pub height_of_kind : List ℕ → Kind → ℕ
height_of_kind hs text = 1
height_of_kind hs empty = 1
height_of_kind hs (sequence ms) = suc (highest hs ms)
height_of_kind hs (choice needed ms) = suc (lowest hs ms)
height_of_kind hs (choice optional ms) = 1
height_of_kind hs (list m) = 1

-- the heights of all types, held at n
unfoldable pub heights_to : Table → ℕ → List ℕ
heights_to T zero = []
heights_to T (suc n) = map (height_of_kind (heights_to T n)) T

-- the heights of all types, held at one more than the number of types
unfoldable pub heights : Table → List ℕ
heights T = heights_to T (suc (length T))

unfoldable pub height_of : Table → ℕ → ℕ
height_of T t = height_in (heights T) t

-- the test of check 6
unfoldable pub has_instance : Table → ℕ → Bool
has_instance T t = leb (height_of T t) (length T)

-- the lowest type, from t on, whose height is above the number of types
unfoldable pub first_endless : ℕ → ℕ → List ℕ → Verdict
first_endless types t [] = passes
first_endless types t (h ∷ hs) = pick (leb h types) (first_endless types (suc t) hs) (fails t)

-- 01 "Refusal answers", 6: the lowest type number without a finite instance
unfoldable pub endless_type : Table → Verdict
endless_type T = first_endless (length T) 0 (heights T)

-- 01 "The image and the filler": the member of least height, the earliest of equals
unfoldable pub least_member : List ℕ → List ℕ → ℕ
least_member hs [] = 0
least_member hs (m ∷ []) = m
least_member hs (m ∷ n ∷ ms) =
    let later = least_member hs (n ∷ ms) in
    pick (leb (height_in hs m) (height_in hs later)) m later
