-- Room for the bytes that are asked for.
use Rattle.std.specs.Prelude.{List, ℕ, ◌+◌, ◌≤◌, length}
use Rattle.row_traversal.specs.Asked.{SomeAsked}

-- there is room for them from offset `at` on
abbrev pub ImageFits : (List ℕ → Type 0) → ℕ → ℕ → Type 0
ImageFits Asked at long = SomeAsked Asked (λ (bs : List ℕ). at + length bs ≤ long)
