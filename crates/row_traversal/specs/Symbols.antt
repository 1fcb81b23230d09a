-- Symbols of a row as numbers, and what each stands for.
use Rattle.std.specs.Prelude.{◌≡◌, Bool, true, false, List, [], ◌∷◌, ◌++◌, ℕ, zero, suc, ◌+◌, ◌-◌, ◌≤◌, ◌<◌, length, get_or, eqb, ltb}
use Rattle.std.proofs.Math.Path.{refl}
use Rattle.std.proofs.Common.{sym, ap, subst, append-nil, arith, ltb-true, ltb-false, eqb-true, lt-ltb, le-ltb, eq-eqb, ne_eqb}
use Rattle.std.proofs.lemmas.Bool.{eqb-false}
use Rattle.model.specs.Definitions.Basics.{pick}
use Rattle.model.specs.Definitions.Table.{Table}
use Rattle.model.specs.Definitions.Templates.{Hole, characters, child, items, Symbol, opening, closing, filler, hole, filler_bytes, filled_row}
use Rattle.model.proofs.Theorems.Facts.{All, all_more}
use Rattle.model.proofs.Theorems.Tools.{pick_true}
use Rattle.rows.specs.Rows.{symbol_of, row_in}
use Rattle.writing.specs.Laws.{part_cons}

-- the symbol of each number
pub opening_symbol : (x : ℕ) → x < 64 → symbol_of x ≡ opening x
unfolding symbol_of
opening_symbol x less = rw (lt-ltb x 64 less) (pick_true true _ _ refl)

pub filler_symbol_lem : (x : ℕ) → 64 ≤ x → x < 128 → symbol_of x ≡ filler (x - 64)
unfolding symbol_of
filler_symbol_lem x low less = rw (le-ltb x 64 low, lt-ltb x 128 less) (unfold pick in refl)

pub child_symbol_lem : (x : ℕ) → 128 ≤ x → x < 144 → symbol_of x ≡ hole (child (x - 128))
unfolding symbol_of
child_symbol_lem x low less = rw (le-ltb x 64 (omega arith), le-ltb x 128 low, lt-ltb x 144 less) (unfold pick in refl)

pub characters_symbol_lem : (x : ℕ) → x ≡ 144 → symbol_of x ≡ hole characters
unfolding symbol_of
characters_symbol_lem x e = rw (le-ltb x 64 (omega arith), le-ltb x 128 (omega arith), le-ltb x 144 (omega arith), eq-eqb x 144 e) (unfold pick in refl)

pub items_symbol_lem : (x : ℕ) → x ≡ 145 → symbol_of x ≡ hole items
unfolding symbol_of
items_symbol_lem x e =
    rw (le-ltb x 64 (omega arith), le-ltb x 128 (omega arith), le-ltb x 144 (omega arith), ne_eqb x 144 (λ z. omega arith), eq-eqb x 145 e) (unfold pick in refl)

pub closing_symbol_lem : (x : ℕ) → 145 < x → symbol_of x ≡ closing
unfolding symbol_of
closing_symbol_lem x more =
    rw (le-ltb x 64 (omega arith), le-ltb x 128 (omega arith), le-ltb x 144 (omega arith), ne_eqb x 144 (λ z. omega arith), ne_eqb x 145 (λ z. omega arith)) (unfold pick in refl)

-- the bytes that one symbol stands for
unfoldable pub symbol_bytes : Table → (Hole → List ℕ) → Symbol → List ℕ
symbol_bytes T held y = filled_row T held (y ∷ [])

-- a row's bytes are those of its symbols
filled_cons : (T : Table) (held : Hole → List ℕ) (y : Symbol) (row : List Symbol) → filled_row T held (y ∷ row) ≡ symbol_bytes T held y ++ filled_row T held row
unfolding filled_row symbol_bytes
filled_cons T held (opening t) row = refl
filled_cons T held closing row = refl
filled_cons T held (filler t) row = ap (λ (bs : List ℕ). bs ++ filled_row T held row) (sym (append-nil (filler_bytes T t)))
filled_cons T held (hole h) row = ap (λ (bs : List ℕ). bs ++ filled_row T held row) (sym (append-nil (held h)))

-- a row begins with its first symbol
pub row_first : (T : Table) (held : Hole → List ℕ) (pool : List ℕ) (i to : ℕ) → i < to → to ≤ length pool
    → filled_row T held (row_in pool i to) ≡ symbol_bytes T held (symbol_of (get_or pool i 0)) ++ filled_row T held (row_in pool (i + 1) to)
unfolding row_in
row_first T held pool i to less within = rw (part_cons pool i to less within) (filled_cons T held (symbol_of (get_or pool i 0)) _)

-- and at its end nothing is left
pub row_done : (T : Table) (held : Hole → List ℕ) (pool : List ℕ) (i to : ℕ) → to ≤ i → filled_row T held (row_in pool i to) ≡ []
unfolding row_in filled_row
row_done T held pool i to all = let none : to - i ≡ 0 = omega arith in rw none refl

-- what holds of all symbols of a row holds of each
pub symbol_in : {P : Symbol → Type 0} (pool : List ℕ) (from to i : ℕ) → All P (row_in pool from to) → from ≤ i → i < to → to ≤ length pool → P (symbol_of (get_or pool i 0))
symbol_in {P} pool from to i all low less within = go (i - from) from all (omega arith) less
  where
    head : {y : Symbol} {row : List Symbol} → All P (y ∷ row) → P y
    head (all_more h later) = h

    tail : {y : Symbol} {row : List Symbol} → All P (y ∷ row) → All P row
    tail (all_more h later) = later

    row_cons : (at : ℕ) → at < to → row_in pool at to ≡ symbol_of (get_or pool at 0) ∷ row_in pool (at + 1) to
    row_cons at before = unfold row_in in rw (part_cons pool at to before within) refl

    go : (n at : ℕ) → All P (row_in pool at to) → at + n ≡ i → i < to → P (symbol_of (get_or pool i 0))
    go zero at every e before =
        let same : at ≡ i = omega arith in
        head (subst (All P) (row_cons i before) (subst (λ (j : ℕ). All P (row_in pool j to)) same every))
    go (suc n) at every e before = go n (at + 1) (tail (subst (All P) (row_cons at (omega arith)) every)) (omega arith) before

-- the bytes of each symbol
module _ (T : Table) (held : Hole → List ℕ) (x : ℕ) where
  pub opening_bytes : x < 64 → symbol_bytes T held (symbol_of x) ≡ 0x30 ∷ x ∷ []
  unfolding symbol_bytes filled_row
  opening_bytes less = rw (opening_symbol x less) refl

  pub filler_bytes_lem : 64 ≤ x → x < 128 → symbol_bytes T held (symbol_of x) ≡ filler_bytes T (x - 64)
  unfolding symbol_bytes filled_row
  filler_bytes_lem low less = rw (filler_symbol_lem x low less) (append-nil (filler_bytes T (x - 64)))

  pub child_bytes : 128 ≤ x → x < 144 → symbol_bytes T held (symbol_of x) ≡ held (child (x - 128))
  unfolding symbol_bytes filled_row
  child_bytes low less = rw (child_symbol_lem x low less) (append-nil (held (child (x - 128))))

  pub characters_bytes : x ≡ 144 → symbol_bytes T held (symbol_of x) ≡ held characters
  unfolding symbol_bytes filled_row
  characters_bytes e = rw (characters_symbol_lem x e) (append-nil (held characters))

  pub items_bytes : x ≡ 145 → symbol_bytes T held (symbol_of x) ≡ held items
  unfolding symbol_bytes filled_row
  items_bytes e = rw (items_symbol_lem x e) (append-nil (held items))

  pub closing_bytes : 145 < x → symbol_bytes T held (symbol_of x) ≡ 0x32 ∷ []
  unfolding symbol_bytes filled_row
  closing_bytes more = rw (closing_symbol_lem x more) refl

-- the six kinds of number
pub data Meaning (x : ℕ) : Type 0 where
  opens : x < 64 → Meaning x
  fills : 64 ≤ x → x < 128 → Meaning x
  child_there : 128 ≤ x → x < 144 → Meaning x
  text_there : x ≡ 144 → Meaning x
  items_there : x ≡ 145 → Meaning x
  closes : 145 < x → Meaning x

-- each number is of one kind
pub meaning : (x : ℕ) → Meaning x
meaning x = go (ltb x 64) (ltb x 128) (ltb x 144) (eqb x 144) (eqb x 145) refl refl refl refl refl
  where
    go : (a b c d e : Bool) → ltb x 64 ≡ a → ltb x 128 ≡ b → ltb x 144 ≡ c → eqb x 144 ≡ d → eqb x 145 ≡ e → Meaning x
    go true b c d e p q r s t = opens (ltb-true x 64 p)
    go false true c d e p q r s t = fills (ltb-false x 64 p) (ltb-true x 128 q)
    go false false true d e p q r s t = child_there (ltb-false x 128 q) (ltb-true x 144 r)
    go false false false true e p q r s t = text_there (eqb-true x 144 s)
    go false false false false true p q r s t = items_there (eqb-true x 145 t)
    go false false false false false p q r s t =
        let low : 144 ≤ x = ltb-false x 144 r in
        let one : x ≡ 144 → ⊥ = eqb-false x 144 s in
        let two : x ≡ 145 → ⊥ = eqb-false x 145 t in
        closes (omega arith)
