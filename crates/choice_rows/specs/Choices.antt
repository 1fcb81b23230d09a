-- The rows of the members of a source choice are made.
use Rattle.std.specs.Prelude.{List, ℕ, get_or}
use Rattle.loaded_table.specs.Loaded.{counts_of}
use Rattle.pools.specs.Room.{nothing_of}
use Rattle.own_rows.specs.Progress.{Makeable, Partly}

-- and there is room for that of nothing, where the choice is optional
abbrev pub MadeMembers : List ℕ → List ℕ → List ℕ → List ℕ → List ℕ → List ℕ → ℕ → List ℕ → List ℕ → ℕ → Type 0
MadeMembers source target map em pool₀ places₀ s pool places at = Partly source target map em pool₀ places₀ s (get_or (counts_of source) s 0) (nothing_of source map s) pool places at

-- the row of nothing can be made next, at place `at`
pub record NothingToMake (source target map em pool places : List ℕ) (s at : ℕ) : Type 0 where
  pub makeable : Makeable source target map em pool places s
  pub members : MadeMembers source target map em pool places s pool places at
