-- The loop over the members of a sequence: what is left of them gives the whole.
use mathlib.Core.Path.{◌≡◌}
use mathlib.Core.List.{List}
use Prim.Native.Nat.{ℕ, ◌+◌, ◌≤◌, ◌<◌, min}
use native.Mathlib.Numerals.{add-one}
use native.Mathlib.Omega.{arith}
use lib.ListN.{length, drop, get_or, drop_of_length-le}
use lib.Seq.{drop-cons}
use Rattle.table_fill.specs.Fill.{fill_sum}

-- a turn of the loop
pub fill_turn : (fill ms : List ℕ) (i total next whole : ℕ) → i < length ms → next ≡ min 60001 (total + get_or fill (get_or ms i 0) 0)
    → min 60001 (total + fill_sum fill (drop i ms)) ≡ whole → min 60001 (next + fill_sum fill (drop (i + 1) ms)) ≡ whole
unfolding fill_sum
fill_turn fill ms i total next whole here e before = rw (add-one i) (omega (arith, rw (drop-cons ms i 0 here) at before))

-- and its end
pub fill_end : (fill ms : List ℕ) (i total whole : ℕ) → length ms ≤ i → total ≤ 60001 → min 60001 (total + fill_sum fill (drop i ms)) ≡ whole → total ≡ whole
unfolding fill_sum
fill_end fill ms i total whole past held before = omega (arith, rw (drop_of_length-le ms past) at before)
