-- Loops that add up rooms: what is added, with the room that is left, is the room of all.
use mathlib.Core.Path.{◌≡◌}
use Prim.Native.Nat.{ℕ, suc, ◌+◌, ◌-◌, ◌*◌, ◌≤◌, ◌<◌}
use native.Mathlib.Numerals.{add-one}
use native.Mathlib.Omega.{arith}
use Rattle.pools.specs.Room.{most_of_edge}

-- of n rooms those before number i are added; `sum i k` is the room of k from number i on
pub record Added (sum : ℕ → ℕ → ℕ) (n total i : ℕ) : Type 0 where
  pub high : i ≤ n
  pub small : total ≤ i * most_of_edge
  pub whole : total + sum i (n - i) ≡ sum 0 n

-- one room more
pub added_more : {sum : ℕ → ℕ → ℕ} {n total i : ℕ} → Added sum n total i → i < n → {one : ℕ} → one ≤ most_of_edge → ((k : ℕ) → sum i (suc k) ≡ one + sum (suc i) k)
    → Added sum n (total + one) (i + 1)
added_more {sum} {n} {total} {i} now less {one} small step =
    let more : n - i ≡ suc (n - suc i) = omega arith in
    let whole : total + sum i (suc (n - suc i)) ≡ sum 0 n = rw more at now.whole in
    record { high = omega arith; small = omega (arith, now.small); whole = rw (add-one i) (omega (arith, whole, step (n - suc i))) }

-- all rooms
pub added_all : {sum : ℕ → ℕ → ℕ} {n total i : ℕ} → Added sum n total i → n ≤ i → ((j : ℕ) → sum j 0 ≡ 0) → (total ≡ sum 0 n) × (total ≤ n * most_of_edge)
added_all {sum} {n} {total} {i} now over none =
    let zero_left : n - i ≡ 0 = omega arith in
    let whole : total + sum i 0 ≡ sum 0 n = rw zero_left at now.whole in
    (omega (arith, whole, none i), omega (arith, now.small, now.high))
