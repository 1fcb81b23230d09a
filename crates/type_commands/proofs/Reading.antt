-- Bytes of one type: where members are read, where a type is, and what its bytes tell of it.
use mathlib.Core.Path.{◌≡◌, refl, sym, ap, ◌∙◌}
use mathlib.Core.Bool.{Bool, true, false}
use mathlib.Core.List.{List, [], ◌∷◌}
use mathlib.Core.Logic.{◌⊎◌, inl, inr}
use mathlib.Core.Option.{Option, none, some}
use Prim.Native.Nat.{ℕ, zero, suc, ◌+◌, ◌*◌, ◌/◌, ◌≤◌, ◌<◌}
use native.Mathlib.Omega.{arith}
use lib.ListN.{length, drop, get_or, length-drop, drop_of_length-le}
use lib.Seq.{drop-cons}
use lib.Dec.{eqb}
use borrow.Author.Tests.{eqb-false, le-leb, lt-leb, eq-eqb, ne_eqb}
use Rattle.model.specs.Definitions.Basics.{pick, and_then, is_there}
use Rattle.model.specs.Definitions.Commands.{needed, optional}
use Rattle.model.specs.Definitions.Table.{Kind, text, empty, sequence, choice, list, members_of}
use Rattle.model.specs.Definitions.Operations.{members_written, with_at_least, where_none, where_one, type_in}
use Rattle.model.specs.Definitions.ValidTable.{member_bytes, kind_bytes}
use Rattle.model.proofs.Theorems.Tools.{true_false}
use Rattle.model.proofs.Theorems.Operations.{type_in_exactly}
use Rattle.loaded_table.specs.Kinds.{code_of}
use Rattle.type_commands.specs.Types.{is_one_type, or_empty, type_written, MembersThere, code_begun, first_operand}

-- ---- members from an offset on

-- whether members, and nothing else, stand there
abbrev pub members_from : ℕ → List ℕ → Bool
members_from at cs = is_there (members_written (drop at cs))

-- one member more changes nothing
one_read : (m : ℕ) (o : Option (List ℕ)) → is_there (and_then o (λ ms. some (m ∷ ms))) ≡ is_there o
unfolding is_there and_then
one_read m none = refl
one_read m (some ms) = refl

pub member_passed : (cs : List ℕ) (at : ℕ) → at + 2 ≤ length cs → get_or cs at 0 ≡ 0x15 → members_from (at + 2) cs ≡ members_from at cs
unfolding members_written pick
member_passed cs at room is =
    let two : at + 2 ≡ suc (suc at) = omega arith in
    rw (two, drop-cons cs at 0 (omega arith), is, drop-cons cs (suc at) 0 (omega arith)) (sym (one_read _ _))

-- another byte begins none
pub no_member : (cs : List ℕ) (at : ℕ) → at < length cs → (get_or cs at 0 ≡ 0x15 → ⊥) → members_from at cs ≡ false
unfolding members_written pick is_there
no_member cs at room isnt = rw (drop-cons cs at 0 room) (go (drop (suc at) cs))
  where
    go : (rest : List ℕ) → is_there (members_written (get_or cs at 0 ∷ rest)) ≡ false
    go [] = refl
    go (m ∷ rest) = rw (ne_eqb (get_or cs at 0) 0x15 isnt)

-- nor does one that is the last
pub member_cut : (cs : List ℕ) (at : ℕ) → at < length cs → length cs < at + 2 → members_from at cs ≡ false
unfolding members_written is_there
member_cut cs at room short = rw (drop-cons cs at 0 room, drop_of_length-le cs {i = suc at} (omega arith))

-- at the end nothing else stands
pub members_end : (cs : List ℕ) (at : ℕ) → length cs ≤ at → members_from at cs ≡ true
unfolding members_written is_there
members_end cs at end = rw (drop_of_length-le cs end)

-- ---- enough members

-- where there are members only, they are half as many as their bytes
abbrev Half : ℕ → Option (List ℕ) → Type 0
Half n none = Unit {0}
Half n (some ms) = n ≡ 2 * length ms

half : (bs : List ℕ) → Half (length bs) (members_written bs)
unfolding members_written pick and_then
half [] = refl
half (b ∷ []) = tt
half (b ∷ m ∷ rest) = go (eqb b 0x15) (members_written rest) (half rest)
  where
    go : (is : Bool) (o : Option (List ℕ)) → Half (length rest) o → Half (suc (suc (length rest))) (pick is (and_then o (λ ms. some (m ∷ ms))) none)
    go true none h = tt
    go true (some ms) h = omega arith
    go false o h = tt

-- so with the byte before them it can be asked of the number of bytes whether they are too few,
pub too_few : (least : ℕ) (cs : List ℕ) → length cs / 2 < least → MembersThere least cs false
unfolding with_at_least pick and_then is_there
too_few least cs less kind = go (members_written (drop 1 cs)) (half (drop 1 cs))
  where
    go : (o : Option (List ℕ)) → Half (length (drop 1 cs)) o → false ≡ is_there (and_then o (with_at_least least kind))
    go none h = refl
    go (some ms) h = rw (lt-leb least (length ms) (omega (arith, length-drop 1 cs)))

-- or enough
pub enough : (least : ℕ) (cs : List ℕ) → least ≤ length cs / 2 → {r : Bool} → r ≡ members_from 1 cs → MembersThere least cs r
unfolding with_at_least pick and_then is_there
enough least cs more only kind = only ∙ go (members_written (drop 1 cs)) (half (drop 1 cs))
  where
    go : (o : Option (List ℕ)) → Half (length (drop 1 cs)) o → is_there o ≡ is_there (and_then o (with_at_least least kind))
    go none h = refl
    go (some ms) h = rw (le-leb least (length ms) (omega (arith, length-drop 1 cs)))

-- ---- a type by its first byte

-- no byte
pub nothing_read : (cs : List ℕ) → length cs ≡ 0 → false ≡ is_one_type cs
unfolding type_in is_there
nothing_read [] e = refl
nothing_read (b ∷ rest) e = absurd (omega arith)

-- 10 or 11, and nothing behind it
alone : (κ : Kind) (rest : List ℕ) → eqb (suc (length rest)) 1 ≡ is_there (where_none κ rest)
unfolding where_none is_there
alone κ [] = refl
alone κ (x ∷ rest) = ne_eqb (suc (suc (length rest))) 1 (λ e. omega arith)

pub alone_read : (cs : List ℕ) → 0x10 ≤ get_or cs 0 0 → get_or cs 0 0 < 0x12 → eqb (length cs) 1 ≡ is_one_type cs
unfolding type_in pick
alone_read [] low high = absurd (omega arith)
alone_read (b ∷ rest) low high = go (eqb b 0x10) refl
  where
    go : (is : Bool) → eqb b 0x10 ≡ is → eqb (suc (length rest)) 1 ≡ is_one_type (b ∷ rest)
    go true q = rw q (alone text rest)
    go false q = rw (q, eq-eqb b 0x11 (omega (arith, eqb-false b 0x10 q))) (alone empty rest)

-- 14 and one byte
pub list_read : (cs : List ℕ) → get_or cs 0 0 ≡ 0x14 → eqb (length cs) 2 ≡ is_one_type cs
unfolding type_in where_one pick is_there
list_read [] is = absurd (omega arith)
list_read (b ∷ []) is = rw is
list_read (b ∷ m ∷ []) is = rw is
list_read (b ∷ m ∷ x ∷ rest) is = rw is (ne_eqb (suc (suc (suc (length rest)))) 2 (λ e. omega arith))

-- 12 or 17 and a member or more, 13 and two or more
begins : (cs : List ℕ) {b : ℕ} → get_or cs 0 0 ≡ suc b → suc b ∷ drop 1 cs ≡ cs
begins [] is = absurd (omega arith)
begins (x ∷ rest) is = rw is

pub one_or_more : (cs : List ℕ) {r : Bool} → (get_or cs 0 0 ≡ 0x12) ⊎ (get_or cs 0 0 ≡ 0x17) → MembersThere 1 cs r → r ≡ is_one_type cs
unfolding type_in pick
one_or_more cs (inl is) there = there sequence ∙ ap is_one_type (begins cs is)
one_or_more cs (inr is) there = there (choice optional) ∙ ap is_one_type (begins cs is)

pub two_or_more : (cs : List ℕ) {r : Bool} → get_or cs 0 0 ≡ 0x13 → MembersThere 2 cs r → r ≡ is_one_type cs
unfolding type_in pick
two_or_more cs is there = there (choice needed) ∙ ap is_one_type (begins cs is)

-- any other byte, beside 10 and 11
beside : (b : ℕ) → (b < 0x10) ⊎ (0x12 ≤ b) → (eqb b 0x10 ≡ false) × (eqb b 0x11 ≡ false)
beside b (inl h) = (ne_eqb b 0x10 (λ e. omega arith), ne_eqb b 0x11 (λ e. omega arith))
beside b (inr h) = (ne_eqb b 0x10 (λ e. omega arith), ne_eqb b 0x11 (λ e. omega arith))

pub none_read : (cs : List ℕ)
    → let first : ℕ = get_or cs 0 0 in
    ((Unit {0} × (first ≡ 0x14 → ⊥)) × ((first ≡ 0x12) ⊎ (first ≡ 0x17) → ⊥)) × (first ≡ 0x13 → ⊥) → (first < 0x10) ⊎ (0x12 ≤ first) → false ≡ is_one_type cs
unfolding type_in pick is_there
none_read [] rest side = refl
none_read (b ∷ bs) rest side =
    rw ((beside b side).0, (beside b side).1, ne_eqb _ _ rest.0.0.1, ne_eqb _ _ (λ e. rest.0.1 (inl e)), ne_eqb _ _ rest.1, ne_eqb _ _ (λ e. rest.0.1 (inr e)))

-- ---- what a type's bytes tell

-- the kind that the first byte begins, how many members there are, and where each stands; a list has one
pub record Told (cs : List ℕ) (code : ℕ) (ms : List ℕ) : Type 0 where
  pub filled : 0 < length cs
  pub begun : code_begun (get_or cs 0 0) ≡ code
  pub item : 5 ≤ code → 0 < length ms
  pub many : length cs / 2 ≡ length ms
  pub within : (i : ℕ) → i < length cs / 2 → first_operand (get_or cs 0 0) + 2 * i < length cs
  pub operand : (i : ℕ) → i < length cs / 2 → get_or cs (first_operand (get_or cs 0 0) + 2 * i) 0 ≡ get_or ms i 0

-- of the type that they write
abbrev pub TypeTold : List ℕ → Type 0
TypeTold cs = Told cs (code_of (type_written cs)) (members_of (type_written cs))

-- members stand behind each other
members_long : (ms : List ℕ) → length (member_bytes ms) ≡ 2 * length ms
unfolding member_bytes
members_long [] = refl
members_long (m ∷ ms) = omega (arith, members_long ms)

members_at_lem : (ms : List ℕ) (i : ℕ) → get_or (member_bytes ms) (suc (2 * i)) 0 ≡ get_or ms i 0
unfolding member_bytes
members_at_lem [] i = refl
members_at_lem (m ∷ ms) zero = refl
members_at_lem (m ∷ ms) (suc i) = let two : 2 * suc i ≡ suc (suc (2 * i)) = omega arith in rw two (members_at_lem ms i)

-- behind a byte that begins no list there are only they
members_told : (b : ℕ) (ms : List ℕ) → code_begun b < 5 → first_operand b ≡ 2 → Told (b ∷ member_bytes ms) (code_begun b) ms
members_told b ms other second = record {
  filled = omega arith;
  begun = refl;
  item = λ h. absurd (omega arith);
  many = omega (arith, members_long ms);
  within = λ i low. rw second (omega (arith, members_long ms));
  operand = λ i low. let two : 2 + 2 * i ≡ suc (suc (2 * i)) = omega arith in rw (second, two) (members_at_lem ms i);
}

-- and behind a list's its item
list_told : (m : ℕ) → Told (0x14 ∷ m ∷ []) 5 (m ∷ [])
unfolding code_begun first_operand pick
list_told m = record {
  filled = omega arith;
  begun = refl;
  item = λ h. omega arith;
  many = refl;
  within = λ i low. omega arith;
  operand = λ i low. let first : i ≡ 0 = omega arith in rw first;
}

kind_told : (κ : Kind) → Told (kind_bytes κ) (code_of κ) (members_of κ)
unfolding kind_bytes member_bytes members_of code_begun first_operand pick
kind_told text = members_told 0x10 [] (omega arith) refl
kind_told empty = members_told 0x11 [] (omega arith) refl
kind_told (sequence ms) = members_told 0x12 ms (omega arith) refl
kind_told (choice needed ms) = members_told 0x13 ms (omega arith) refl
kind_told (choice optional ms) = members_told 0x17 ms (omega arith) refl
kind_told (list m) = list_told m

-- bytes that are one type's own are those of the type that they write
pub type_told : (cs : List ℕ) → is_one_type cs ≡ true → TypeTold cs
unfolding is_there
type_told cs is = go (type_in cs) refl is
  where
    go : (o : Option Kind) → type_in cs ≡ o → is_there o ≡ true → Told cs (code_of (or_empty o)) (members_of (or_empty o))
    go none e t = true_false t refl
    go (some κ) e t = rw ((type_in_exactly cs κ).0 e).0 (kind_told κ)
