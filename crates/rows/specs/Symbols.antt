-- Laws of symbols by their numbers, and of the first symbol of a row.
use Rattle.std.specs.Prelude.{◌≡◌, refl, Bool, true, false, List, [], ◌∷◌, ℕ, suc, ◌+◌, ◌-◌, ◌≤◌, ◌<◌, length, get_or, eqb, ltb}
use Rattle.std.proofs.Common.{ap, ◌∙◌, add-one, arith, drop-cons, lt-ltb, le-ltb, ltb-false, ne_eqb}
use Rattle.std.proofs.lemmas.Bool.{eqb-false}
use Rattle.model.specs.Definitions.Basics.{pick}
use Rattle.model.specs.Definitions.Templates.{characters, child, items, opening, closing, filler, hole}
use Rattle.rows.specs.Rows.{symbol_of, hole_of, IsHole, row_in}

-- ---- symbols by their numbers

pub is_opening : (n : ℕ) → n < 64 → symbol_of n ≡ opening n
unfolding symbol_of pick
is_opening n h = rw (lt-ltb n 64 h) refl

pub is_filler : (n : ℕ) → 64 ≤ n → n < 128 → symbol_of n ≡ filler (n - 64)
unfolding symbol_of pick
is_filler n low high = rw (le-ltb n 64 low, lt-ltb n 128 high) refl

-- the same as a number written for the type
pub filler_of_lem : (t : ℕ) → t < 64 → symbol_of (64 + t) ≡ filler t
filler_of_lem t h =
    let less : 64 + t - 64 ≡ t = omega arith in
    is_filler (64 + t) (omega arith) (omega arith) ∙ ap filler less

pub is_hole : (n : ℕ) → IsHole n → symbol_of n ≡ hole (hole_of n)
unfolding symbol_of hole_of pick
is_hole n h = rw (le-ltb n 64 (omega arith), le-ltb n 128 (omega arith)) (go (ltb n 144) (eqb n 144) (eqb n 145) refl refl refl)
  where
    go : (a b c : Bool) → ltb n 144 ≡ a → eqb n 144 ≡ b → eqb n 145 ≡ c
        → pick a (hole (child (n - 128))) (pick b (hole characters) (pick c (hole items) closing)) ≡ hole (pick a (child (n - 128)) (pick b characters items))
    go true b c e f g = refl
    go false true c e f g = refl
    go false false true e f g = refl
    go false false false e f g = absurd (omega (arith, ltb-false n 144 e, eqb-false n 144 f, eqb-false n 145 g))

pub is_closing : (n : ℕ) → 145 < n → symbol_of n ≡ closing
unfolding symbol_of pick
is_closing n h = rw (le-ltb n 64 (omega arith), le-ltb n 128 (omega arith), le-ltb n 144 (omega arith), ne_eqb n 144 (λ e. omega arith), ne_eqb n 145 (λ e. omega arith)) refl

-- ---- the row from one place up to another begins with the symbol there

pub row_none : (pool : List ℕ) (i to : ℕ) → to ≤ i → row_in pool i to ≡ []
unfolding row_in
row_none pool i to over = let none : to - i ≡ 0 = omega arith in rw none refl

pub row_cons : (pool : List ℕ) (i to : ℕ) → i < to → to ≤ length pool → row_in pool i to ≡ symbol_of (get_or pool i 0) ∷ row_in pool (i + 1) to
unfolding row_in
row_cons pool i to less within =
    let more : to - i ≡ suc (to - (i + 1)) = omega arith in
    rw (more, drop-cons pool i 0 (omega arith), add-one i) refl
