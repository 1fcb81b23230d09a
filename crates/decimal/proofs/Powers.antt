-- Powers of ten: in a table, and in sums.
use mathlib.Core.Path.{◌≡◌, sym, ap, ◌∙◌}
use mathlib.Core.List.{List, [], ◌∷◌}
use Prim.Native.Nat.{ℕ, zero, suc, ◌+◌, ◌*◌, ◌^◌, ◌<◌}
use native.Mathlib.Nat.{add-mul, mul_comm, mul_assoc, mul-one, pow-suc}
use native.Mathlib.Omega.{arith}
use lib.ListN.{get_or}

-- a table of m numbers: p, and each ten times the one before
unfoldable pub tenfold : ℕ → ℕ → List ℕ
tenfold zero p = []
tenfold (suc m) p = p ∷ tenfold m (p * 10)

pub in_table : (m p k : ℕ) → k < m → get_or (tenfold m p) k 0 ≡ p * 10 ^ k
unfolding tenfold
in_table zero p k h = absurd (omega arith)
in_table (suc m) p zero h = sym (mul-one p)
in_table (suc m) p (suc k) h =
    in_table m (p * 10) k (omega arith) ∙ mul_assoc p 10 (10 ^ k) ∙ ap (λ (q : ℕ). p * q) (mul_comm 10 (10 ^ k) ∙ sym (pow-suc 10 k))

-- a digit behind those that give v: v tenfold, and the digit, each counted by u
pub next_digit : (v u d left : ℕ) → v * (u * 10) + (d * u + left) ≡ (10 * v + d) * u + left
next_digit v u d left =
    let moved : v * (u * 10) ≡ 10 * v * u = ap (λ (q : ℕ). v * q) (mul_comm u 10) ∙ sym (mul_assoc v 10 u) ∙ ap (λ (q : ℕ). q * u) (mul_comm v 10) in
    omega (arith, moved, add-mul (10 * v) d u)
