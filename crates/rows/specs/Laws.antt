-- Laws of rows by number, and of the three numbers that are stored for a row.
use Rattle.std.specs.Prelude.{◌≡◌, refl, List, [], ◌∷◌, true, false, ℕ, zero, suc, ◌+◌, ◌-◌, ◌*◌, ◌<◌, min, length, take, drop, get_or, set}
use Rattle.std.proofs.Common.{sym, ap, ◌∙◌, arith, length-set, drop-cons, get_or-set_same, get_or-set_other, eq-eqb, ne_eqb}
use Rattle.std.proofs.Math.Option.{Option, some}
use Rattle.model.specs.Definitions.Basics.{pick, entry}
use Rattle.loaded_table.specs.Loaded.{kind_from}
use Rattle.loaded_table.specs.Kinds.{choice_code, other_codes, choice_from}
use Rattle.rows.specs.Rows.{index_in, member_index, row_index, SizeAt, HasRow, set_row}

-- the place of t in a part of a list: none are left; it stands first; another does
pub index_none : (t n o : ℕ) (l : List ℕ) → n ≡ 0 → index_in t (take n (drop o l)) ≡ 0
unfolding index_in
index_none t n o l e = rw e refl

part_first : (n o : ℕ) (l : List ℕ) → 0 < n → o < length l → take n (drop o l) ≡ get_or l o 0 ∷ take (n - 1) (drop (suc o) l)
part_first zero o l more within = absurd (omega arith)
part_first (suc n) o l more within =
    ap (take (suc n)) (drop-cons l o 0 within) ∙ ap (λ (k : ℕ). get_or l o 0 ∷ take k (drop (suc o) l)) (less n)
  where
    less : (n : ℕ) → n ≡ suc n - 1
    less n = omega arith

pub index_here : (t n o : ℕ) (l : List ℕ) → 0 < n → o < length l → get_or l o 0 ≡ t → index_in t (take n (drop o l)) ≡ 0
unfolding index_in pick
index_here t n o l more within e = rw (part_first n o l more within, e, eq-eqb t t refl) refl

pub index_later : (t n o : ℕ) (l : List ℕ) → 0 < n → o < length l → (get_or l o 0 ≡ t → ⊥) → index_in t (take n (drop o l)) ≡ suc (index_in t (take (n - 1) (drop (suc o) l)))
unfolding index_in pick
index_later t n o l more within other = rw (part_first n o l more within, ne_eqb t (get_or l o 0) (λ e. other (sym e))) refl

-- a kind's row by the code of the kind: for a choice the place of t among its members, else the first
pub row_of_choice : (t : Option ℕ) (code count : ℕ) (row : List ℕ) → choice_code code ≡ true → row_index (kind_from code count row) t ≡ member_index t (take count row)
unfolding row_index
row_of_choice t code count row e = rw (choice_from code count row e) refl

pub row_of_other : (t : Option ℕ) (code count : ℕ) (row : List ℕ) → choice_code code ≡ false → row_index (kind_from code count row) t ≡ 0
unfolding row_index
row_of_other t code count row = other_codes (λ (k : ℕ). row_index (kind_from k count row) t ≡ 0) refl refl refl (λ k. refl) code

-- what stands at a place of a list is the entry of the next number
pub entry_there : (ms : List ℕ) (j : ℕ) → j < length ms → entry (suc j) ms ≡ some (get_or ms j 0)
unfolding entry
entry_there [] j less = absurd (omega arith)
entry_there (m ∷ ms) zero less = refl
entry_there (m ∷ ms) (suc j) less = entry_there ms j (omega arith)

-- ---- three numbers that are stored for a row

module _ (l : List ℕ) (row a b c : ℕ) (long : HasRow l row) where
  abbrev first : List ℕ
  first = set l (3 * row) a

  abbrev second : List ℕ
  second = set first (3 * row + 1) b

  long₁ : length first ≡ length l
  long₁ = length-set l (3 * row) a

  long₂ : length second ≡ length l
  long₂ = length-set first (3 * row + 1) b ∙ long₁

  pub three_length : length (set_row l row a b c) ≡ length l
  three_length = length-set second (3 * row + 2) c ∙ long₂

  -- other numbers stay
  pub three_other : (k : ℕ) → (k ≡ 3 * row → ⊥) → (k ≡ 3 * row + 1 → ⊥) → (k ≡ 3 * row + 2 → ⊥) → get_or (set_row l row a b c) k 0 ≡ get_or l k 0
  three_other k x y z = get_or-set_other second (3 * row + 2) k c 0 z ∙ get_or-set_other first (3 * row + 1) k b 0 y ∙ get_or-set_other l (3 * row) k a 0 x

  -- these are there
  pub three_first : get_or (set_row l row a b c) (3 * row) 0 ≡ a
  three_first =
      get_or-set_other second (3 * row + 2) (3 * row) c 0 (λ e. omega arith) ∙ get_or-set_other first (3 * row + 1) (3 * row) b 0 (λ e. omega arith)
      ∙ get_or-set_same l (3 * row) a 0 (omega arith)

  pub three_second : get_or (set_row l row a b c) (3 * row + 1) 0 ≡ b
  three_second = get_or-set_other second (3 * row + 2) (3 * row + 1) c 0 (λ e. omega arith) ∙ get_or-set_same first (3 * row + 1) b 0 (omega (arith, long₁))

  pub three_third : get_or (set_row l row a b c) (3 * row + 2) 0 ≡ c
  three_third = get_or-set_same second (3 * row + 2) c 0 (omega (arith, long₂))

  -- sizes of other rows stay
  pub stored_other : (r levels bytes fill : ℕ) → (r ≡ row → ⊥) → SizeAt l r levels bytes fill → SizeAt (set_row l row a b c) r levels bytes fill
  stored_other r levels bytes fill other at =
      record {
        levels_are = three_other (3 * r) (λ e. other (omega arith)) (λ e. omega arith) (λ e. omega arith) ∙ at.levels_are;
        bytes_are = three_other (3 * r + 1) (λ e. omega arith) (λ e. other (omega arith)) (λ e. omega arith) ∙ at.bytes_are;
        filler_is = three_other (3 * r + 2) (λ e. omega arith) (λ e. omega arith) (λ e. other (omega arith)) ∙ at.filler_is;
      }

  -- the size of this one is there
  pub stored_here : (levels bytes fill : ℕ) → a ≡ min 60001 levels → b ≡ min 60001 bytes → c ≡ min 60001 fill → SizeAt (set_row l row a b c) row levels bytes fill
  stored_here levels bytes fill x y z = record { levels_are = three_first ∙ x; bytes_are = three_second ∙ y; filler_is = three_third ∙ z }
