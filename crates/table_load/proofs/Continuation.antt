-- What is loaded, continued by what the rest of a document says, and what each command does to it.
use mathlib.Core.Path.{◌≡◌, refl, sym, ap, ◌∙◌}
use mathlib.Core.List.{List, [], ◌∷◌, ◌++◌, append-nil, append_assoc}
use mathlib.Core.Logic.{◌⊎◌, inl, inr}
use Prim.Native.Nat.{ℕ, zero, suc, ◌+◌, ◌-◌, ◌*◌, ◌≤◌, ◌<◌}
use native.Mathlib.Nat.{add-zero, zero-add, add-suc, suc-add}
use native.Mathlib.Numerals.{add-one}
use native.Mathlib.Omega.{arith}
use lib.ListN.{length, take, drop, get_or, set, length-drop}
use lib.Seq.{get_or-set_same, get_or-set_other, take-set-le, drop-set-add, take-suc-set}
use Rattle.loaded_table.specs.Kinds.{each_code}
use Rattle.loaded_table.specs.Loaded.{kind_from, kind_in, table_from}
use Rattle.model.specs.Definitions.Commands.{needed, optional}
use Rattle.model.specs.Definitions.Table.{Kind, text, empty, sequence, choice, list, Table, TableTail}

-- a kind whose members go on
abbrev pub kind_more : ℕ → ℕ → List ℕ → List ℕ → Kind
kind_more zero count row more = text
kind_more (suc zero) count row more = empty
kind_more (suc (suc zero)) count row more = sequence (take count row ++ more)
kind_more (suc (suc (suc zero))) count row more = choice needed (take count row ++ more)
kind_more (suc (suc (suc (suc zero)))) count row more = choice optional (take count row ++ more)
kind_more (suc (suc (suc (suc (suc code))))) count row more = list (get_or row 0 0)

-- so many loaded types, continued by the members of the last one and the types after it
unfoldable pub continued : ℕ → List ℕ → List ℕ → List ℕ → TableTail → Table
continued zero kinds counts members r = r.kinds
continued (suc n) kinds counts members r =
    table_from kinds counts members 0 n ++ kind_more (get_or kinds n 0) (get_or counts n 0) (drop (n * 16) members) r.members ∷ r.kinds

-- a kind whose members don't go on is what is loaded
kind_more_none : (code count : ℕ) (row : List ℕ) → kind_more code count row [] ≡ kind_from code count row
kind_more_none code count row =
    let none_more : take count row ++ [] ≡ take count row = append-nil (take count row) in
    each_code (λ (k : ℕ). kind_more k count row [] ≡ kind_from k count row) refl refl (ap sequence none_more) (ap (choice needed) none_more) (ap (choice optional) none_more) (λ k. refl) code

-- a kind is the same in rows with the same first entries
kind_from_same : (code count : ℕ) (row other : List ℕ) → take count row ≡ take count other → get_or row 0 0 ≡ get_or other 0 0 → kind_from code count row ≡ kind_from code count other
kind_from_same code count row other p q =
    each_code (λ (k : ℕ). kind_from k count row ≡ kind_from k count other) refl refl (ap sequence p) (ap (choice needed) p) (ap (choice optional) p) (λ k. ap list q) code

module _ (kinds counts members : List ℕ) where
  -- one type more at the end
  from_snoc : (t n : ℕ) (rest : Table) → table_from kinds counts members t n ++ kind_in kinds counts members (t + n) ∷ rest ≡ table_from kinds counts members t (suc n) ++ rest
  unfolding table_from
  from_snoc t zero rest = rw (add-zero t) refl
  from_snoc t (suc n) rest = ap {B = Table} (λ ks. kind_in kinds counts members t ∷ ks) (rw (add-suc t n, ← suc-add t n) (from_snoc (suc t) n rest))

  -- where the last type has no more members, what is loaded is followed by the types after it
  pub continued_types : (types : ℕ) (ks : Table) → continued types kinds counts members (record { members = []; kinds = ks }) ≡ table_from kinds counts members 0 types ++ ks
  unfolding continued table_from
  continued_types zero ks = refl
  continued_types (suc n) ks =
      let last : kind_more (get_or kinds n 0) (get_or counts n 0) (drop (n * 16) members) [] ≡ kind_in kinds counts members (0 + n)
      = kind_more_none (get_or kinds n 0) (get_or counts n 0) (drop (n * 16) members) ∙ ap (kind_in kinds counts members) (sym (zero-add n)) in
      ap (λ κ. table_from kinds counts members 0 n ++ κ ∷ ks) last ∙ from_snoc 0 n ks

-- arrays in which the same kinds stand give the same types
from_same : (kinds counts members kinds' counts' members' : List ℕ) (t n : ℕ)
    → ((i : ℕ) → i < t + n → kind_in kinds counts members i ≡ kind_in kinds' counts' members' i)
    → table_from kinds counts members t n ≡ table_from kinds' counts' members' t n
unfolding table_from
from_same kinds counts members kinds' counts' members' t zero same = refl
from_same kinds counts members kinds' counts' members' t (suc n) same =
    let here = same t (omega arith) in
    let later = from_same kinds counts members kinds' counts' members' (suc t) n (λ i h. same i (omega arith)) in
    rw (here, later) refl

-- ---- a type begins

-- a kind written for a later type leaves a type as it was
kind_kept : (kinds counts members : List ℕ) (n code i : ℕ) → i < n → kind_in (set kinds n code) counts members i ≡ kind_in kinds counts members i
kind_kept kinds counts members n code i h =
    ap (λ k. kind_from k (get_or counts i 0) (drop (i * 16) members)) (get_or-set_other kinds n i code 0 (λ e. absurd (omega arith)))

-- A type begins after n others: they are followed by it and what comes after it.
pub continued-begun : (kinds counts members : List ℕ) (n code : ℕ) (r : TableTail) → n < length kinds → get_or counts n 0 ≡ 0
    → continued (n + 1) (set kinds n code) counts members r ≡ table_from kinds counts members 0 n ++ kind_more code 0 (drop (n * 16) members) r.members ∷ r.kinds
unfolding continued
continued-begun kinds counts members n code r room fresh =
    let earlier = from_same (set kinds n code) counts members kinds counts members 0 n (λ i h. kind_kept kinds counts members n code i (omega arith)) in
    rw (add-one n, earlier, get_or-set_same kinds n code 0 room, fresh) refl

-- ---- a member joins

-- a byte written behind a row's start is written in the row
row_written : (members : List ℕ) (start at y : ℕ) → start ≤ at → drop start (set members at y) ≡ set (drop start members) (at - start) y
row_written members start at y h =
    let split : at ≡ start + (at - start) = omega arith in
    ap (λ p. drop start (set members p y)) split ∙ drop-set-add start members (at - start) y

-- a member written for a later type, and its count, leave a type as it was
member_kept : (kinds counts members : List ℕ) (n count p y i : ℕ) → i < n → get_or counts i 0 ≤ 16
    → kind_in kinds (set counts n count) (set members (n * 16 + p) y) i ≡ kind_in kinds counts members i
member_kept kinds counts members n count p y i h few =
    let same_count : get_or (set counts n count) i 0 ≡ get_or counts i 0 = get_or-set_other counts n i count 0 (λ e. absurd (omega arith)) in
    let row = row_written members (i * 16) (n * 16 + p) y (omega arith) in
    rw (same_count, row)
    (kind_from_same (get_or kinds i 0) (get_or counts i 0) (set (drop (i * 16) members) (n * 16 + p - i * 16) y) (drop (i * 16) members)
    (take-set-le (get_or counts i 0) (drop (i * 16) members) (n * 16 + p - i * 16) y (omega arith))
    (get_or-set_other (drop (i * 16) members) (n * 16 + p - i * 16) 0 y 0 (λ e. absurd (omega arith))))

-- the codes of the types that members may join: a sequence, a choice, an optional choice
abbrev pub TakesMembers : ℕ → Type 0
TakesMembers code = (code ≡ 2) ⊎ ((code ≡ 3) ⊎ (code ≡ 4))

-- such a type with a member more in its row
kind_joined : (code count : ℕ) (row : List ℕ) (y : ℕ) (more : List ℕ) → TakesMembers code → count < length row
    → kind_more code (count + 1) (set row count y) more ≡ kind_more code count row (y ∷ more)
kind_joined code count row y more which room = go which
  where
    longer : take (suc count) (set row count y) ++ more ≡ take count row ++ y ∷ more
    longer = ap (λ l. l ++ more) (take-suc-set row count y room) ∙ append_assoc (take count row) (y ∷ []) more

    go : TakesMembers code → kind_more code (count + 1) (set row count y) more ≡ kind_more code count row (y ∷ more)
    go (inl e) = rw (e, add-one count) (ap sequence longer)
    go (inr (inl e)) = rw (e, add-one count) (ap (choice needed) longer)
    go (inr (inr e)) = rw (e, add-one count) (ap (choice optional) longer)

-- A member joins the last type, a sequence or choice of either kind: it is the first of the members with which that was continued.
pub continued-joined : (kinds counts members : List ℕ) (n y : ℕ) (r : TableTail) → n < length counts → n * 16 + get_or counts n 0 < length members
    → TakesMembers (get_or kinds n 0) → ((i : ℕ) → get_or counts i 0 ≤ 16)
    → continued (suc n) kinds (set counts n (get_or counts n 0 + 1)) (set members (n * 16 + get_or counts n 0) y) r
    ≡ continued (suc n) kinds counts members (record { members = y ∷ r.members; kinds = r.kinds })
unfolding continued
continued-joined kinds counts members n y r known room which few =
    let count = get_or counts n 0 in
    let row = drop (n * 16) members in
    let earlier = from_same kinds (set counts n (count + 1)) (set members (n * 16 + count) y) kinds counts members 0 n
    (λ i h. member_kept kinds counts members n (count + 1) count y i (omega arith) (few i)) in
    let long : length row ≡ length members - n * 16 = length-drop (n * 16) members in
    rw (earlier, get_or-set_same counts n (count + 1) 0 known, drop-set-add (n * 16) members count y)
    (ap (λ κ. table_from kinds counts members 0 n ++ κ ∷ r.kinds) (kind_joined (get_or kinds n 0) count row y r.members which (omega arith)))

-- A list type begins after n others, and its item joins it.
pub continued_list : (kinds counts members : List ℕ) (n y : ℕ) (r : TableTail) → n < length kinds → n < length counts → n * 16 < length members
    → get_or counts n 0 ≡ 0 → ((i : ℕ) → get_or counts i 0 ≤ 16)
    → continued (suc n) (set kinds n 5) (set counts n (get_or counts n 0 + 1)) (set members (n * 16 + get_or counts n 0) y) r
    ≡ table_from kinds counts members 0 n ++ list y ∷ r.kinds
unfolding continued
continued_list kinds counts members n y r known counted room fresh few =
    let count = get_or counts n 0 in
    let earlier = from_same (set kinds n 5) (set counts n (count + 1)) (set members (n * 16 + count) y) kinds counts members 0 n
    (λ i h. kind_kept kinds (set counts n (count + 1)) (set members (n * 16 + count) y) n 5 i (omega arith)
    ∙ member_kept kinds counts members n (count + 1) count y i (omega arith) (few i)) in
    let item : get_or (set (drop (n * 16) members) count y) 0 0 ≡ y = rw fresh (get_or-set_same (drop (n * 16) members) 0 y 0 (rw (length-drop (n * 16) members) (omega arith))) in
    rw (earlier, get_or-set_same kinds n 5 0 known, drop-set-add (n * 16) members count y)
    (ap (λ m. table_from kinds counts members 0 n ++ list m ∷ r.kinds) item)
