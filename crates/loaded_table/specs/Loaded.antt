-- The table of the model that a loaded table stands for, and what is kept with each type.
use Rattle.std.specs.Prelude.{◌≡◌, Bool, true, false, List, [], ◌∷◌, length, take, drop, get_or, set, replicate, eqb, ltb, ◌⊎◌}
use Rattle.std.proofs.Math.Path.{refl, sym, ap}
use Rattle.std.proofs.Common.{◌∙◌, add-zero, add-suc, suc-add, arith, length-take, length-drop, ext_get_or, get_or-take, get_or-drop, get_or-set_same, get_or-set_other, length-take-le, eqb-true, ltb-true, ltb-false, inl, inr}
use Prim.Native.Nat.{ℕ, zero, suc, ◌+◌, ◌-◌, ◌*◌, ◌≤◌, ◌<◌, min}
use Rattle.std.proofs.Math.ListN.{get_or-eq_default}
use Rattle.std.proofs.Math.Seq.{take-set-lt}
use Rattle.std.proofs.lemmas.List.{drop-set-add}
use Rattle.std.proofs.lemmas.Bool.{eqb-false}
use Rattle.model.specs.Definitions.Commands.{needed, optional}
use Rattle.model.specs.Definitions.Table as model
use Rattle.model.specs.Definitions.TableChecks.{max_members}
use Rattle.model.specs.Definitions.Table.{Kind, text, empty, sequence, choice, list, kind_of}
use Rattle.model.specs.Definitions.Heights.{height_of}
use Rattle.model.specs.Definitions.Filler.{filler_length}

-- the codes of kinds
abbrev pub text_kind : ℕ
text_kind = 0

abbrev pub empty_kind : ℕ
empty_kind = 1

abbrev pub sequence_kind : ℕ
sequence_kind = 2

abbrev pub choice_kind : ℕ
choice_kind = 3

abbrev pub optional_kind : ℕ
optional_kind = 4

abbrev pub list_kind : ℕ
list_kind = 5

-- a kind from its code, its number of members and the row that begins with them; a code above is a list's too
abbrev pub kind_from : ℕ → ℕ → List ℕ → Kind
kind_from zero count row = text
kind_from (suc zero) count row = empty
kind_from (suc (suc zero)) count row = sequence (take count row)
kind_from (suc (suc (suc zero))) count row = choice needed (take count row)
kind_from (suc (suc (suc (suc zero)))) count row = choice optional (take count row)
kind_from (suc (suc (suc (suc (suc code))))) count row = list (get_or row 0 0)

-- the kind of type t
abbrev pub kind_in : List ℕ → List ℕ → List ℕ → ℕ → Kind
kind_in kinds counts members t = kind_from (get_or kinds t 0) (get_or counts t 0) (drop (t * 16) members)

-- n types, the first of them type t
unfoldable pub table_from : List ℕ → List ℕ → List ℕ → ℕ → ℕ → model.Table
table_from kinds counts members t zero = []
table_from kinds counts members t (suc n) = kind_in kinds counts members t ∷ table_from kinds counts members (suc t) n

-- the table that arrays stand for
unfoldable pub table_in : ℕ → List ℕ → List ℕ → List ℕ → model.Table
table_in types kinds counts members = table_from kinds counts members 0 types

-- ---- one array with sections: 64 kinds, 64 counts, 64 heights, 64 filler lengths, 1024 members, the number of types

-- how many numbers a loaded table has, and where its sections begin
abbrev pub table_size : ℕ
table_size = 1281

abbrev pub counts_start : ℕ
counts_start = 64

abbrev pub heights_start : ℕ
heights_start = 128

abbrev pub fill_start : ℕ
fill_start = 192

abbrev pub members_start : ℕ
members_start = 256

abbrev pub types_place : ℕ
types_place = 1280

-- a length as it is kept: beyond the most bytes of a document it doesn't matter how far
abbrev pub held_length : ℕ → ℕ
held_length n = min 60001 n

-- the place of member i of type t among all members
abbrev pub member_place : ℕ → ℕ → ℕ
member_place t i = t * max_members + i

abbrev pub types_in : List ℕ → ℕ
types_in rows = get_or rows 1280 0

abbrev pub section : ℕ → ℕ → List ℕ → List ℕ
section from many rows = take many (drop from rows)

abbrev pub kinds_of : List ℕ → List ℕ
kinds_of rows = section 0 64 rows

abbrev pub counts_of : List ℕ → List ℕ
counts_of rows = section 64 64 rows

abbrev pub heights_of : List ℕ → List ℕ
heights_of rows = section 128 64 rows

abbrev pub fill_of : List ℕ → List ℕ
fill_of rows = section 192 64 rows

abbrev pub members_in : List ℕ → List ℕ
members_in rows = section 256 1024 rows

-- the table that one array stands for
abbrev pub table_by : List ℕ → model.Table
table_by rows = table_in (types_in rows) (kinds_of rows) (counts_of rows) (members_in rows)

-- a number of a section is a number of the array
pub in_section : (from many : ℕ) (rows : List ℕ) (i : ℕ) → i < many → get_or (section from many rows) i 0 ≡ get_or rows (from + i) 0
in_section from many rows i h = get_or-take many (drop from rows) i 0 h ∙ get_or-drop from rows i 0

-- a cleared array holds 0 at every place, and beyond its end
pub get_d_replicate : (n i : ℕ) → ◌≡◌ {A = ℕ} (get_or (replicate n 0) i 0) 0
get_d_replicate zero i = refl
get_d_replicate (suc n) zero = refl
get_d_replicate (suc n) (suc i) = get_d_replicate n i

-- a store elsewhere leaves a section
pub section-kept : (from many : ℕ) (rows : List ℕ) (i v : ℕ) → (i < from) ⊎ (from + many ≤ i) → section from many (set rows i v) ≡ section from many rows
section-kept from many rows i v (inl h) = ap (take many) (drop-set-before from rows i v h)
  where
    drop-set-before : (n : ℕ) (l : List ℕ) (i v : ℕ) → i < n → drop n (set l i v) ≡ drop n l
    drop-set-before zero l i v h = absurd (omega arith)
    drop-set-before (suc n) [] i v h = refl
    drop-set-before (suc n) (x ∷ l) zero v h = refl
    drop-set-before (suc n) (x ∷ l) (suc i) v h = drop-set-before n l i v (omega arith)
section-kept from many rows i v (inr h) = part-set from many rows i v h
  where
    take-set : (n : ℕ) (l : List ℕ) (i v : ℕ) → n ≤ i → take n (set l i v) ≡ take n l
    take-set zero l i v h = refl
    take-set (suc n) [] i v h = refl
    take-set (suc n) (x ∷ l) zero v h = absurd (omega arith)
    take-set (suc n) (x ∷ l) (suc i) v h = ap (λ (r : List ℕ). x ∷ r) (take-set n l i v (omega arith))

    part-set : (from many : ℕ) (l : List ℕ) (i v : ℕ) → from + many ≤ i → take many (drop from (set l i v)) ≡ take many (drop from l)
    part-set zero many l i v h = take-set many l i v (omega arith)
    part-set (suc from) many [] i v h = refl
    part-set (suc from) many (x ∷ l) zero v h = absurd (omega arith)
    part-set (suc from) many (x ∷ l) (suc i) v h = part-set from many l i v (omega arith)

-- a store in a section is a store of the array
pub section-set : (from many : ℕ) (rows : List ℕ) (i v : ℕ) → i < many → section from many (set rows (from + i) v) ≡ set (section from many rows) i v
section-set from many rows i v h = ap (take many) (drop-set-add from rows i v) ∙ take-set-lt many (drop from rows) i v h

-- a section that ends within the array has all its places
pub section_long : (from many : ℕ) (rows : List ℕ) → from + many ≤ length rows → length (section from many rows) ≡ many
section_long from many rows h = length-take-le many (drop from rows) (rw (length-drop from rows) (omega arith))

-- a section whose places all hold the same is the same
pub section-same : (from many : ℕ) (rows after : List ℕ) → length after ≡ length rows → ((k : ℕ) → k < many → get_or after (from + k) 0 ≡ get_or rows (from + k) 0)
    → section from many after ≡ section from many rows
section-same from many rows after size same =
    let long : (l : List ℕ) → length (section from many l) ≡ min many (length l - from) = λ l. length-take many (drop from l) ∙ ap (min many) (length-drop from l) in
    ext_get_or 0 (section from many after) (section from many rows) (long after ∙ ap (λ (k : ℕ). min many (k - from)) size ∙ sym (long rows))
    (λ k here.
    let low : k < many = omega (arith, long after) in
    in_section from many after k low ∙ same k low ∙ sym (in_section from many rows k low))

-- where the entries below n are those of f, a store at n makes one more of them so
pub entries_more : (f : ℕ → ℕ) (z : ℕ) (xs : List ℕ) (n v : ℕ) → n < length xs → v ≡ f n → ((k : ℕ) → k < n → get_or xs k z ≡ f k)
    → (k : ℕ) → k < n + 1 → get_or (set xs n v) k z ≡ f k
entries_more f z xs n v within e before k low = go (eqb k n) refl
  where
    go : (b : Bool) → eqb k n ≡ b → get_or (set xs n v) k z ≡ f k
    go true q = rw (eqb-true k n q) (get_or-set_same xs n v z within ∙ e)
    go false q = get_or-set_other xs n k v z (eqb-false k n q) ∙ before k (omega (arith, eqb-false k n q))

-- the same of a section
pub section_more : (f : ℕ → ℕ) (from many : ℕ) (rows : List ℕ) (n v : ℕ) {after : List ℕ} → from + many ≤ length rows → n < many → v ≡ f n → after ≡ set rows (from + n) v
    → ((k : ℕ) → k < n → get_or (section from many rows) k 0 ≡ f k) → (k : ℕ) → k < n + 1 → get_or (section from many after) k 0 ≡ f k
section_more f from many rows n v {after} within low e stored before k below =
    ap (λ (l : List ℕ). get_or (section from many l) k 0) stored
    ∙ ap (λ (l : List ℕ). get_or l k 0) (section-set from many rows n v low)
    ∙ entries_more f 0 (section from many rows) n v (rw (section_long from many rows within) low) e before k below

-- an array whose entries are all 0 gives 0 everywhere
pub zero_everywhere : (xs : List ℕ) {n : ℕ} → length xs ≡ n → ((k : ℕ) → k < n → get_or xs k 0 ≡ 0) → (k : ℕ) → get_or xs k 0 ≡ 0
zero_everywhere xs {n} long all k = go (ltb k n) refl
  where
    go : (b : Bool) → ltb k n ≡ b → get_or xs k 0 ≡ 0
    go true q = all k (ltb-true k n q)
    go false q = get_or-eq_default xs 0 (rw long (ltb-false k n q))

-- the array has all its places, and the numbers in it are within their bounds
pub record Bounded (rows : List ℕ) : Type 0 where
  pub size : length rows ≡ 1281
  pub few_types : types_in rows ≤ 64
  pub few_members : (t : ℕ) → get_or (counts_of rows) t 0 ≤ 16

-- each type's height, 0 behind the types, and each type's filler's byte length held at 60,001
pub record Kept (rows : List ℕ) (T : model.Table) : Type 0 where
  pub height_at_lem : (t : ℕ) → get_or (heights_of rows) t 0 ≡ height_of T t
  pub fill_at_lem : (t : ℕ) → t < length T → get_or (fill_of rows) t 0 ≡ min 60001 (filler_length T t)

-- a loaded table stands for T, within bounds, with true numbers kept
pub record Stands (rows : List ℕ) (T : model.Table) : Type 0 where
  pub same_table : table_by rows ≡ T
  pub bounded : Bounded rows
  pub kept : Kept rows T

-- ---- laws

module _ (kinds counts members : List ℕ) where
  length_from : (t n : ℕ) → length (table_from kinds counts members t n) ≡ n
  unfolding table_from
  length_from t zero = refl
  length_from t (suc n) = ap suc (length_from (suc t) n)

  kind_from_lem : (t n i : ℕ) → i < n → kind_of (table_from kinds counts members t n) i ≡ kind_in kinds counts members (t + i)
  unfolding table_from kind_of
  kind_from_lem t zero i h = absurd (omega arith)
  kind_from_lem t (suc n) zero h = ap (kind_in kinds counts members) (sym (add-zero t))
  kind_from_lem t (suc n) (suc i) h = kind_from_lem (suc t) n i (omega arith) ∙ ap (kind_in kinds counts members) (suc-add t i ∙ sym (add-suc t i))

-- it has as many types as are loaded
pub length_in : (types : ℕ) (kinds counts members : List ℕ) → length (table_in types kinds counts members) ≡ types
unfolding table_in
length_in types kinds counts members = length_from kinds counts members 0 types

-- and each is what the arrays say
pub kind_in_lem : (types : ℕ) (kinds counts members : List ℕ) (t : ℕ) → t < types → kind_of (table_in types kinds counts members) t ≡ kind_in kinds counts members t
unfolding table_in
kind_in_lem types kinds counts members t h = kind_from_lem kinds counts members 0 types t h ∙ ap (kind_in kinds counts members) (zero-plus t)
  where
    zero-plus : (t : ℕ) → 0 + t ≡ t
    zero-plus t = omega arith

-- the same of one array
pub length_of_lem : (rows : List ℕ) → length (table_by rows) ≡ types_in rows
length_of_lem rows = length_in (types_in rows) (kinds_of rows) (counts_of rows) (members_in rows)

pub kind_of_lem : (rows : List ℕ) (t : ℕ) → t < types_in rows → kind_of (table_by rows) t ≡ kind_in (kinds_of rows) (counts_of rows) (members_in rows) t
kind_of_lem rows t h = kind_in_lem (types_in rows) (kinds_of rows) (counts_of rows) (members_in rows) t h
