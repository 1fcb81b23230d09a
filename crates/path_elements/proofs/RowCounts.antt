-- The symbols of a row that open an element, counted from the row's start.
use mathlib.Core.Path.{◌≡◌, refl, ap, ◌∙◌}
use mathlib.Core.Bool.{Bool, true, false}
use mathlib.Core.List.{List, ◌∷◌}
use Prim.Native.Nat.{ℕ, ◌+◌, ◌-◌, ◌≤◌, ◌<◌}
use native.Mathlib.Omega.{arith}
use lib.ListN.{length, get_or}
use lib.Dec.{eqb, ltb}
use borrow.Author.Tests.{le-ltb}
use Rattle.model.specs.Definitions.Basics.{pick}
use Rattle.model.specs.Definitions.Templates.{Symbol, closing, filler, hole, characters, child, items}
use Rattle.model.proofs.Theorems.BuiltElements.{row_built}
use Rattle.rows.specs.Rows.{symbol_of, row_in}
use Rattle.rows.specs.Symbols.{is_opening, row_cons, row_none}

is_built : (n : ℕ) (row : List Symbol) → n < 64 → row_built (symbol_of n ∷ row) ≡ 1 + row_built row
unfolding row_built
is_built n row low = rw (is_opening n low) refl

not_built : (n : ℕ) (row : List Symbol) → 64 ≤ n → row_built (symbol_of n ∷ row) ≡ row_built row
unfolding row_built symbol_of pick
not_built n row high = rw (le-ltb n 64 high) (go (ltb n 128) (ltb n 144) (eqb n 144) (eqb n 145))
  where
    go : (a b c d : Bool) → row_built (pick a (filler (n - 64)) (pick b (hole (child (n - 128))) (pick c (hole characters) (pick d (hole items) closing))) ∷ row) ≡ row_built row
    go true b c d = refl
    go false true c d = refl
    go false false true d = refl
    go false false false true = refl
    go false false false false = refl

-- n symbols were counted before place i, and what is left of the row has the others
pub record CountedTo (pool : List ℕ) (from to i n : ℕ) : Type 0 where
  pub few : n ≤ i
  pub others : n + row_built (row_in pool i to) ≡ row_built (row_in pool from to)

module _ {pool : List ℕ} {from to i n : ℕ} (so_far : CountedTo pool from to i n) where
  -- at the end none are left
  pub all_counted : to ≤ i → n ≡ row_built (row_in pool from to)
  unfolding row_built
  all_counted over = omega (arith, so_far.others, ap row_built (row_none pool i to over))

  module _ (less : i < to) (within : to ≤ length pool) where
    -- the next symbol opens an element
    pub one-counted : get_or pool i 0 < 64 → CountedTo pool from to (i + 1) (n + 1)
    one-counted low =
        record { few = omega (arith, so_far.few); others = omega (arith, so_far.others, ap row_built (row_cons pool i to less within) ∙ is_built (get_or pool i 0) (row_in pool (i + 1) to) low) }

    -- or it doesn't
    pub one-passed : 64 ≤ get_or pool i 0 → CountedTo pool from to (i + 1) n
    one-passed high =
        record { few = omega (arith, so_far.few); others = omega (arith, so_far.others, ap row_built (row_cons pool i to less within) ∙ not_built (get_or pool i 0) (row_in pool (i + 1) to) high) }
