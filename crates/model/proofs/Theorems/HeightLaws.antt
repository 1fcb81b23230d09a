-- Heights. In a sound table those of `Heights` satisfy 01's equations, and no numbers that do are lower. A type that
-- has a finite instance has a height that is at most the number of types, so check 6 refuses none that has one;
-- `FillerLaws` proves the other direction.
use Rattle.std.specs.Prelude.{◌≡◌, refl, Bool, true, false, length, get_or, leb, eqb}
use Rattle.std.proofs.Common.{sym, ap, ◌∙◌, zero-add, suc-add, add-suc, ext_get_or, leb-true, leb-false, le-leb, eqb-true}
use Rattle.std.proofs.Math.Path.{ap₂}
use mathlib.Core.List.Memᴰ
use mathlib.Core.List.{List, [], ◌∷◌, map, Memᴰ}
use Prim.Native.Nat.{ℕ, zero, suc, ◌+◌, ◌≤◌, ◌<◌, min, max}
use native.Mathlib.Omega.{arith}
use Rattle.std.proofs.lemmas.List.{length-map}
use Rattle.std.proofs.Math.ListN.{get_or-eq_default}
use Rattle.std.proofs.lemmas.Bool.{eqb-false}
use Rattle.model.specs.Definitions.Basics.{pick, fails}
use Rattle.model.specs.Definitions.Commands.{Need, needed, optional}
use Rattle.model.specs.Definitions.Table.{Kind, text, empty, sequence, choice, list, Table, kind_of}
use Rattle.model.specs.Definitions.Heights.{height_in, highest, lowest, height_of_kind, heights_to, heights, height_of, has_instance, first_endless, endless_type, least_member}
use Rattle.model.specs.Definitions.Content.{Content, levels}
use Rattle.model.specs.Definitions.Conformance.{Holds, no_character, one_character, nothing, no_member, one_member, chosen, left_out, no_item, one_item, Instance}
use Rattle.model.proofs.Theorems.Facts.{SoundTable}
use Rattle.model.proofs.Theorems.Tools.{pick_true, pick_false}

-- ---- rounds

-- an entry of a list that is made from another
pub get_d_of_map : {A B : Type 0} (f : A → B) (xs : List A) (i : ℕ) (d : A) (e : B) → i < length xs → get_or (map f xs) i e ≡ f (get_or xs i d)
get_d_of_map f [] i d e h = absurd (omega arith)
get_d_of_map f (x ∷ xs) zero d e h = refl
get_d_of_map f (x ∷ xs) (suc i) d e h = get_d_of_map f xs i d e (omega arith)

-- a round gives a type the height of its kind by the round before
pub height_round : (T : Table) (n t : ℕ) → t < length T → height_in (heights_to T (suc n)) t ≡ height_of_kind (heights_to T n) (kind_of T t)
unfolding height_in heights_to kind_of
height_round T n t h = get_d_of_map (height_of_kind (heights_to T n)) T t empty 0 h

-- before the first round all heights are 0
height_first : (T : Table) (t : ℕ) → height_in (heights_to T 0) t ≡ 0
unfolding height_in heights_to
height_first T t = refl

-- a number that is no type has height 0
pub height_beyond : (T : Table) (n t : ℕ) → length T ≤ t → height_in (heights_to T n) t ≡ 0
unfolding height_in heights_to
height_beyond T zero t h = refl
height_beyond T (suc n) t h =
    let long : length (map (height_of_kind (heights_to T n)) T) ≤ t = rw length-map h in
    get_or-eq_default (map (height_of_kind (heights_to T n)) T) 0 long

-- of two numbers that are held, the larger is the larger of the two, held; and so with the smaller
held_max : (n a b : ℕ) → max (min n a) (min n b) ≡ min n (max a b)
held_max n a b = omega arith

held_min : (n a b : ℕ) → min (min n a) (min n b) ≡ min n (min a b)
held_min n a b = omega arith

-- Where the heights `hs` are the heights `later` held at n, the heights of kinds by them are held at n + 1.
module _ (n : ℕ) (hs later : List ℕ) (held : (t : ℕ) → height_in hs t ≡ min n (height_in later t)) where
  highest_held : (ms : List ℕ) → highest hs ms ≡ min n (highest later ms)
  unfolding highest
  highest_held [] = omega arith
  highest_held (m ∷ ms) = ap₂ max (held m) (highest_held ms) ∙ held_max n (height_in later m) (highest later ms)

  lowest_held : (ms : List ℕ) → lowest hs ms ≡ min n (lowest later ms)
  unfolding lowest
  lowest_held [] = omega arith
  lowest_held (m ∷ []) = held m
  lowest_held (m ∷ n' ∷ ms) = ap₂ min (held m) (lowest_held (n' ∷ ms)) ∙ held_min n (height_in later m) (lowest later (n' ∷ ms))

  pub kind_held : (κ : Kind) → height_of_kind hs κ ≡ min (suc n) (height_of_kind later κ)
  unfolding height_of_kind
  kind_held text = omega arith
  kind_held empty = omega arith
  kind_held (sequence ms) = omega (arith, highest_held ms)
  kind_held (choice needed ms) = omega (arith, lowest_held ms)
  kind_held (choice optional ms) = omega arith
  kind_held (list m) = omega arith

-- the heights of a round are those of the next round, held at the round's number
pub held_next : (T : Table) (n t : ℕ) → height_in (heights_to T n) t ≡ min n (height_in (heights_to T (suc n)) t)
held_next T zero t = omega (arith, height_first T t)
held_next T (suc n) t = go (leb (length T) t) refl (held_next T n)
  where
    go : (b : Bool) → leb (length T) t ≡ b → ((m : ℕ) → height_in (heights_to T n) m ≡ min n (height_in (heights_to T (suc n)) m))
        → height_in (heights_to T (suc n)) t ≡ min (suc n) (height_in (heights_to T (suc (suc n))) t)
    go true e before = omega (arith, height_beyond T (suc n) t (leb-true (length T) t e), height_beyond T (suc (suc n)) t (leb-true (length T) t e))
    go false e before =
        omega (arith, height_round T n t (leb-false (length T) t e), height_round T (suc n) t (leb-false (length T) t e), kind_held n (heights_to T n) (heights_to T (suc n)) before (kind_of T t))

-- each round has a height for every type
rounds_length : (T : Table) (n : ℕ) → length (heights_to T (suc n)) ≡ length T
unfolding heights_to
rounds_length T n = length-map T (height_of_kind (heights_to T n))

-- heights only rise from round to round
rounds_rise : (T : Table) (k n t : ℕ) → height_in (heights_to T n) t ≤ height_in (heights_to T (k + n)) t
rounds_rise T zero n t = rw zero-add (omega arith)
rounds_rise T (suc k) n t = rw suc-add (omega (arith, rounds_rise T k n t, held_next T (k + n) t))

-- a height below the round's number satisfies 01's equations
settled : (T : Table) (n t : ℕ) → t < length T → height_in (heights_to T n) t < n → height_in (heights_to T n) t ≡ height_of_kind (heights_to T n) (kind_of T t)
settled T n t exists low = omega (arith, held_next T n t, height_round T n t exists)

-- ---- finite heights

-- a height that is at most the number of types satisfies 01's equations
pub finite_height : (T : Table) (t : ℕ) → t < length T → height_of T t ≤ length T → height_of T t ≡ height_of_kind (heights T) (kind_of T t)
unfolding height_of heights
finite_height T t exists finite = settled T (suc (length T)) t exists (omega arith)

-- every kind is at least 1 high
pub kind_positive : (hs : List ℕ) (κ : Kind) → 1 ≤ height_of_kind hs κ
unfolding height_of_kind
kind_positive hs text = omega arith
kind_positive hs empty = omega arith
kind_positive hs (sequence ms) = omega arith
kind_positive hs (choice needed ms) = omega arith
kind_positive hs (choice optional ms) = omega arith
kind_positive hs (list m) = omega arith

-- no member is higher than the highest
pub below_highest : (hs ms : List ℕ) (m : ℕ) → Memᴰ m ms → height_in hs m ≤ highest hs ms
unfolding highest
below_highest hs [] m x' = elim x' [ ]
below_highest hs (n ∷ ms) m (Memᴰ.head e) = omega (arith, ap (height_in hs) e)
below_highest hs (n ∷ ms) m (Memᴰ.tail later) = omega (arith, below_highest hs ms m later)

-- and none is lower than the lowest
pub above_lowest : (hs ms : List ℕ) (m : ℕ) → Memᴰ m ms → lowest hs ms ≤ height_in hs m
unfolding lowest
above_lowest hs [] m x' = elim x' [ ]
above_lowest hs (n ∷ []) m (Memᴰ.head e) = omega (arith, ap (height_in hs) e)
above_lowest hs (n ∷ []) m (Memᴰ.tail later) = absurd (Memᴰ.not-nil later)
above_lowest hs (n ∷ n' ∷ ms) m (Memᴰ.head e) = omega (arith, ap (height_in hs) e)
above_lowest hs (n ∷ n' ∷ ms) m (Memᴰ.tail later) = omega (arith, above_lowest hs (n' ∷ ms) m later)

-- the least member of a choice is a member
pub least_member_lem : (hs ms : List ℕ) → 0 < length ms → Memᴰ (least_member hs ms) ms
unfolding least_member pick
least_member_lem hs [] h = absurd (omega arith)
least_member_lem hs (m ∷ []) h = Memᴰ.head refl
least_member_lem hs (m ∷ n ∷ ms) h = go (leb (height_in hs m) (height_in hs (least_member hs (n ∷ ms)))) (least_member_lem hs (n ∷ ms) (omega arith))
  where
    go : (b : Bool) → Memᴰ (least_member hs (n ∷ ms)) (n ∷ ms) → Memᴰ (pick b m (least_member hs (n ∷ ms))) (m ∷ n ∷ ms)
    go true later = Memᴰ.head refl
    go false later = Memᴰ.tail later

-- and is as high as the lowest member
pub least_height : (hs ms : List ℕ) → 0 < length ms → height_in hs (least_member hs ms) ≡ lowest hs ms
unfolding least_member lowest pick
least_height hs [] h = absurd (omega arith)
least_height hs (m ∷ []) h = refl
least_height hs (m ∷ n ∷ ms) h = go (leb (height_in hs m) (height_in hs (least_member hs (n ∷ ms)))) refl (least_height hs (n ∷ ms) (omega arith))
  where
    go : (b : Bool) → leb (height_in hs m) (height_in hs (least_member hs (n ∷ ms))) ≡ b → height_in hs (least_member hs (n ∷ ms)) ≡ lowest hs (n ∷ ms)
        → height_in hs (pick b m (least_member hs (n ∷ ms))) ≡ min (height_in hs m) (lowest hs (n ∷ ms))
    go true e later = omega (arith, leb-true (height_in hs m) (height_in hs (least_member hs (n ∷ ms))) e)
    go false e later = omega (arith, leb-false (height_in hs m) (height_in hs (least_member hs (n ∷ ms))) e)

-- ---- the least solution

-- heights that satisfy 01's equations
unfoldable pub Solves : Table → List ℕ → Type 0
Solves T hs = hs ≡ map (height_of_kind hs) T

-- each type has a height
pub heights-length : (T : Table) → length (heights T) ≡ length T
unfolding heights
heights-length T = rounds_length T (length T)

-- those of a sound table do
pub heights_solve : (T : Table) → SoundTable T → Solves T (heights T)
unfolding Solves height_of height_in kind_of
heights_solve T sound =
    ext_get_or 0 (heights T) (map (height_of_kind (heights T)) T) (heights-length T ∙ sym (length-map T (height_of_kind (heights T)))) (λ t here. each t (rw heights-length at here))
  where
    each : (t : ℕ) → t < length T → get_or (heights T) t 0 ≡ get_or (map (height_of_kind (heights T)) T) t 0
    each t exists = finite_height T t exists (sound.finite t exists) ∙ sym (get_d_of_map (height_of_kind (heights T)) T t empty 0 exists)

-- lower heights of members give lower heights of kinds
module _ (hs gs : List ℕ) (lower : (t : ℕ) → height_in hs t ≤ height_in gs t) where
  highest_lower : (ms : List ℕ) → highest hs ms ≤ highest gs ms
  unfolding highest
  highest_lower [] = omega arith
  highest_lower (m ∷ ms) = omega (arith, lower m, highest_lower ms)

  lowest_lower : (ms : List ℕ) → lowest hs ms ≤ lowest gs ms
  unfolding lowest
  lowest_lower [] = omega arith
  lowest_lower (m ∷ []) = lower m
  lowest_lower (m ∷ n ∷ ms) = omega (arith, lower m, lowest_lower (n ∷ ms))

  pub kind_lower : (κ : Kind) → height_of_kind hs κ ≤ height_of_kind gs κ
  unfolding height_of_kind
  kind_lower text = omega arith
  kind_lower empty = omega arith
  kind_lower (sequence ms) = omega (arith, highest_lower ms)
  kind_lower (choice needed ms) = omega (arith, lowest_lower ms)
  kind_lower (choice optional ms) = omega arith
  kind_lower (list m) = omega arith

-- by a solution a type has the height of its kind
solution_height : (T : Table) (hs : List ℕ) → Solves T hs → (t : ℕ) → t < length T → height_in hs t ≡ height_of_kind hs (kind_of T t)
unfolding Solves height_in kind_of
solution_height T hs solves t exists = ap (λ (gs : List ℕ). get_or gs t 0) solves ∙ get_d_of_map (height_of_kind hs) T t empty 0 exists

-- no round is above a solution
rounds_least : (T : Table) (hs : List ℕ) → Solves T hs → (n t : ℕ) → height_in (heights_to T n) t ≤ height_in hs t
rounds_least T hs solves zero t = omega (arith, height_first T t)
rounds_least T hs solves (suc n) t = go (leb (length T) t) refl (rounds_least T hs solves n)
  where
    go : (b : Bool) → leb (length T) t ≡ b → ((m : ℕ) → height_in (heights_to T n) m ≤ height_in hs m) → height_in (heights_to T (suc n)) t ≤ height_in hs t
    go true e before = omega (arith, height_beyond T (suc n) t (leb-true (length T) t e))
    go false e before =
        omega
        (arith, height_round T n t (leb-false (length T) t e), solution_height T hs solves t (leb-false (length T) t e), kind_lower (heights_to T n) hs before (kind_of T t))

-- no solution is lower than the heights, in any table
pub heights_least : (T : Table) (hs : List ℕ) → Solves T hs → (t : ℕ) → height_of T t ≤ height_in hs t
unfolding height_of heights
heights_least T hs solves t = rounds_least T hs solves (suc (length T)) t

-- ---- check 6 refuses no type that has a finite instance

-- what bounds the height of a type's kind in all rounds bounds the type's
type_bounded : (T : Table) (m bound : ℕ) → ((n : ℕ) → height_of_kind (heights_to T n) (kind_of T m) ≤ bound) → (n : ℕ) → height_in (heights_to T n) m ≤ bound
type_bounded T m bound kinds zero = omega (arith, height_first T m)
type_bounded T m bound kinds (suc n) = go (leb (length T) m) refl
  where
    go : (b : Bool) → leb (length T) m ≡ b → height_in (heights_to T (suc n)) m ≤ bound
    go true e = omega (arith, height_beyond T (suc n) m (leb-true (length T) m e))
    go false e = omega (arith, height_round T n m (leb-false (length T) m e), kinds n)

-- a choice of either kind is at most one higher than its lowest member
choice_height : (hs : List ℕ) (need : Need) (ms : List ℕ) → height_of_kind hs (choice need ms) ≤ suc (lowest hs ms)
unfolding height_of_kind
choice_height hs needed ms = omega arith
choice_height hs optional ms = omega arith

-- an instance bounds the heights of all rounds
instance_bounds : (T : Table) {κ : Kind} {k : Content} → Holds T κ k → (n : ℕ) → height_of_kind (heights_to T n) κ ≤ suc (levels k)
unfolding height_of_kind highest lowest levels
instance_bounds T no_character n = omega arith
instance_bounds T (one_character ok more) n = omega arith
instance_bounds T nothing n = omega arith
instance_bounds T no_member n = omega arith
instance_bounds T (one_member {m} {ms} {k} {r} first others) n =
    omega (arith, type_bounded T m (suc (levels k)) (instance_bounds T first) n, instance_bounds T others n)
instance_bounds T (chosen {need} {m} {ms} {k} member held) n =
    omega
    (arith, choice_height (heights_to T n) need ms, above_lowest (heights_to T n) ms m member, type_bounded T m (suc (levels k)) (instance_bounds T held) n)
instance_bounds T left_out n = omega arith
instance_bounds T no_item n = omega arith
instance_bounds T (one_item first others) n = omega arith

-- where the highest height of members is not 0, some type has it
highest-reached : (hs ms : List ℕ) (h : ℕ) → highest hs ms ≡ suc h → (m : ℕ) × (height_in hs m ≡ suc h)
unfolding highest
highest-reached hs [] h e = absurd (omega arith)
highest-reached hs (m ∷ ms) h e = go (eqb (height_in hs m) (suc h)) refl (highest-reached hs ms h)
  where
    go : (b : Bool) → eqb (height_in hs m) (suc h) ≡ b → (highest hs ms ≡ suc h → (m : ℕ) × (height_in hs m ≡ suc h)) → (m : ℕ) × (height_in hs m ≡ suc h)
    go true q later = (m, eqb-true (height_in hs m) (suc h) q)
    go false q later = later (omega (arith, eqb-false (height_in hs m) (suc h) q))

-- and so with the lowest
lowest-reached : (hs ms : List ℕ) (h : ℕ) → lowest hs ms ≡ suc h → (m : ℕ) × (height_in hs m ≡ suc h)
unfolding lowest
lowest-reached hs [] h e = absurd (omega arith)
lowest-reached hs (m ∷ []) h e = (m, e)
lowest-reached hs (m ∷ n ∷ ms) h e = go (eqb (height_in hs m) (suc h)) refl (lowest-reached hs (n ∷ ms) h)
  where
    go : (b : Bool) → eqb (height_in hs m) (suc h) ≡ b → (lowest hs (n ∷ ms) ≡ suc h → (m : ℕ) × (height_in hs m ≡ suc h)) → (m : ℕ) × (height_in hs m ≡ suc h)
    go true q later = (m, eqb-true (height_in hs m) (suc h) q)
    go false q later = later (omega (arith, eqb-false (height_in hs m) (suc h) q))

-- below a kind that is higher than 1 there is a type that is exactly one lower
one_lower : (hs : List ℕ) (κ : Kind) (h : ℕ) → height_of_kind hs κ ≡ suc (suc h) → (m : ℕ) × (height_in hs m ≡ suc h)
unfolding height_of_kind
one_lower hs text h e = absurd (omega arith)
one_lower hs empty h e = absurd (omega arith)
one_lower hs (sequence ms) h e = highest-reached hs ms h (omega arith)
one_lower hs (choice needed ms) h e = lowest-reached hs ms h (omega arith)
one_lower hs (choice optional ms) h e = absurd (omega arith)
one_lower hs (list m) h e = absurd (omega arith)

-- a type's height that is not 0 is in the list of heights
height_in_lem : (hs : List ℕ) (t h : ℕ) → height_in hs t ≡ suc h → Memᴰ (suc h) hs
unfolding height_in
height_in_lem [] t h e = absurd (omega arith)
height_in_lem (x ∷ hs) zero h e = Memᴰ.head (sym e)
height_in_lem (x ∷ hs) (suc t) h e = Memᴰ.tail (height_in_lem hs t h e)

-- and a number that has such a height is a type
height_exists : (T : Table) (n t h : ℕ) → height_in (heights_to T n) t ≡ suc h → t < length T
height_exists T n t h e = go (leb (length T) t) refl
  where
    go : (b : Bool) → leb (length T) t ≡ b → t < length T
    go true p = absurd (omega (arith, height_beyond T n t (leb-true (length T) t p)))
    go false p = leb-false (length T) t p

-- So where a height is below the round's number, all lower ones occur in the round too.
every_height : (T : Table) (n h t : ℕ) → height_in (heights_to T n) t ≡ suc h → suc h < n → (i : ℕ) → i ≤ h → Memᴰ (suc i) (heights_to T n)
every_height T n zero t e low i small = height_in_lem (heights_to T n) t i (omega arith)
every_height T n (suc h) t e low i small = go (leb i h) refl (every_height T n h)
  where
    go : (b : Bool) → leb i h ≡ b
        → ((m : ℕ) → height_in (heights_to T n) m ≡ suc h → suc h < n → (j : ℕ) → j ≤ h → Memᴰ (suc j) (heights_to T n)) → Memᴰ (suc i) (heights_to T n)
    go true p below =
        let kind-height : height_of_kind (heights_to T n) (kind_of T t) ≡ suc (suc h) = sym (settled T n t (height_exists T n t (suc h) e) (omega arith)) ∙ e in
        let lower = one_lower (heights_to T n) (kind_of T t) h kind-height in
        below lower.0 lower.1 (omega arith) i (leb-true i h p)
    go false p below = height_in_lem (heights_to T n) t i (omega (arith, leb-false i h p))

-- a list without one of its entries still has all others
taken_out : (a : ℕ) (xs : List ℕ) → Memᴰ a xs
    → (ys : List ℕ) × (length xs ≡ suc (length ys)) × ((b : ℕ) → (b ≡ a → ⊥) → Memᴰ b xs → Memᴰ b ys)
taken_out a [] x' = elim x' [ ]
taken_out a (x ∷ xs) (Memᴰ.head e) = (xs, refl, others)
  where
    others : (b : ℕ) → (b ≡ a → ⊥) → Memᴰ b (x ∷ xs) → Memᴰ b xs
    others b other (Memᴰ.head q) = absurd (other (q ∙ sym e))
    others b other (Memᴰ.tail here) = here
taken_out a (x ∷ xs) (Memᴰ.tail later) = go (taken_out a xs later)
  where
    go : (ys : List ℕ) × (length xs ≡ suc (length ys)) × ((b : ℕ) → (b ≡ a → ⊥) → Memᴰ b xs → Memᴰ b ys)
        → (ys : List ℕ) × (suc (length xs) ≡ suc (length ys)) × ((b : ℕ) → (b ≡ a → ⊥) → Memᴰ b (x ∷ xs) → Memᴰ b ys)
    go r = (x ∷ r.0, ap suc r.1, others)
      where
        others : (b : ℕ) → (b ≡ a → ⊥) → Memᴰ b (x ∷ xs) → Memᴰ b (x ∷ r.0)
        others b other (Memᴰ.head q) = Memᴰ.head q
        others b other (Memᴰ.tail here) = Memᴰ.tail (r.2 b other here)

-- a list in which all numbers from 1 to h occur is at least h long
pigeonhole : (h : ℕ) (xs : List ℕ) → ((i : ℕ) → i < h → Memᴰ (suc i) xs) → h ≤ length xs
pigeonhole zero xs all = omega arith
pigeonhole (suc h) xs all =
    let rest = taken_out (suc h) xs (all h (omega arith)) in
    omega (arith, rest.1, pigeonhole h rest.0 (λ i small. rest.2 (suc i) (omega arith) (all i (omega arith))))

-- a height that is below some round's number is at most the number of types
low_finite : (T : Table) (n t h : ℕ) → height_in (heights_to T (suc n)) t ≡ h → h ≤ n → h ≤ length T
low_finite T n t zero e low = omega arith
low_finite T n t (suc h) e low =
    omega (arith, rounds_length T n, pigeonhole (suc h) (heights_to T (suc n)) (λ i small. every_height T (suc n) h t e (omega arith) i (omega arith)))

-- the second half of check 6: a type that has a finite instance passes it
pub instance_finite : (T : Table) (t : ℕ) → Instance T t → has_instance T t ≡ true
unfolding Instance has_instance height_of heights
instance_finite T t has = le-leb (height_in (heights_to T (suc (length T))) t) (length T) finite
  where
    bound : ℕ
    bound = suc (levels has.0)

    bounded : (n : ℕ) → height_in (heights_to T n) t ≤ bound
    bounded = type_bounded T t bound (instance_bounds T has.1)

    late : ℕ
    late = bound + length T

    rises : height_in (heights_to T (suc (length T))) t ≤ height_in (heights_to T (suc late)) t
    rises = rw add-suc at (rounds_rise T bound (suc (length T)) t)

    finite : height_in (heights_to T (suc (length T))) t ≤ length T
    finite = omega (arith, rises, low_finite T late t (height_in (heights_to T (suc late)) t) refl (omega (arith, bounded (suc late))))

-- ---- the mark of check 6

-- a type without a finite instance, and none below it
pub record LowestEndless (T : Table) (t : ℕ) : Type 0 where
  pub exists : t < length T
  pub endless : has_instance T t ≡ false
  pub lower_finite : (u : ℕ) → u < t → has_instance T u ≡ true

-- a search from type `from` on fails at the first height that is too large
first_endless_lem : (types from : ℕ) (hs : List ℕ) (t : ℕ) → first_endless types from hs ≡ fails t
    → (i : ℕ) × (t ≡ from + i) × (i < length hs) × (leb (get_or hs i 0) types ≡ false) × ((j : ℕ) → j < i → leb (get_or hs j 0) types ≡ true)
unfolding first_endless
first_endless_lem types from [] t e = let z : ◌≡◌ {A = ℕ} 0 1 = cc in absurd (omega arith)
first_endless_lem types from (h ∷ hs) t e = go (leb h types) refl (first_endless_lem types (suc from) hs t)
  where
    go : (b : Bool) → leb h types ≡ b
        → (first_endless types (suc from) hs ≡ fails t
        → (i : ℕ) × (t ≡ suc from + i) × (i < length hs) × (leb (get_or hs i 0) types ≡ false) × ((j : ℕ) → j < i → leb (get_or hs j 0) types ≡ true))
        → (i : ℕ) × (t ≡ from + i) × (i < length (h ∷ hs)) × (leb (get_or (h ∷ hs) i 0) types ≡ false) × ((j : ℕ) → j < i → leb (get_or (h ∷ hs) j 0) types ≡ true)
    go true q later =
        let found = later (sym (pick_true (leb h types) _ _ q) ∙ e) in
        (suc found.0, found.1 ∙ suc-add from found.0 ∙ sym (add-suc from found.0), omega (arith, found.2), found.3, lower found)
      where
        lower : (found : (i : ℕ) × (t ≡ suc from + i) × (i < length hs) × (leb (get_or hs i 0) types ≡ false) × ((j : ℕ) → j < i → leb (get_or hs j 0) types ≡ true))
            → (j : ℕ) → j < suc found.0 → leb (get_or (h ∷ hs) j 0) types ≡ true
        lower found zero less = q
        lower found (suc j) less = found.4 j (omega arith)
    go false q later =
        let here : fails from ≡ fails t = sym (pick_false (leb h types) _ _ q) ∙ e in
        let at : t ≡ from = cc in
        (0, omega arith, omega arith, q, λ j less. absurd (omega arith))

pub endless_lowest : (T : Table) (t : ℕ) → endless_type T ≡ fails t → LowestEndless T t
unfolding endless_type has_instance height_of height_in
endless_lowest T t e =
    let found = first_endless_lem (length T) 0 (heights T) t e in
    let at : found.0 ≡ t = sym (found.1 ∙ zero-add found.0) in
    record {
      exists = omega (arith, found.2, heights-length T, at);
      endless = rw at at found.3;
      lower_finite = λ u less. found.4 u (omega (arith, at));
    }
