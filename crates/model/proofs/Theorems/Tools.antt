-- Laws of the tools of `Basics` and of tests, used by all theorems.
use Rattle.std.specs.Prelude.{◌≡◌, Bool, true, false, not, ◌&&◌, ◌||◌, ◌↔◌, ◌⊎◌, length, get_or, eqb}
use Rattle.std.proofs.Math.Path.{refl}
use Rattle.std.proofs.Common.{ap, ◌∙◌, inl, inr, arith, eqb-true, eq-eqb}
use mathlib.Core.List.{List, [], ◌∷◌, Memᴰ}
use Rattle.std.proofs.Math.Logic.Iff as iff
use Rattle.std.proofs.Math.Option.{Option, none, some}
use Prim.Native.Nat.{ℕ, zero, suc, ◌+◌, ◌-◌, ◌≤◌, ◌<◌}
use Rattle.std.proofs.lemmas.Bool.{eqb-false, not-true}
use Rattle.model.specs.Definitions.Basics.{pick, entry, member_of, some_of, or_next, first_found}

-- a choice by a test whose answer is known
pub pick_true {ℓ} : {X : Type ℓ} (b : Bool) (x y : X) → b ≡ true → pick b x y ≡ x
unfolding pick
pick_true b x y e = rw e

pub pick_false {ℓ} : {X : Type ℓ} (b : Bool) (x y : X) → b ≡ false → pick b x y ≡ y
unfolding pick
pick_false b x y e = rw e

-- a choice by the opposite test
pub pick_not {ℓ} : {X : Type ℓ} (b : Bool) (x y : X) → pick (not b) x y ≡ pick b y x
unfolding pick
pick_not true x y = refl
pick_not false x y = refl

-- a test can't be both
pub true_false {ℓ} : {X : Type ℓ} {b : Bool} → b ≡ true → b ≡ false → X
true_false {b = b} p q = let z : ◌≡◌ {A = ℕ} 0 1 = cc in absurd (omega arith)

-- something and nothing are not the same
pub some_none {ℓ} : {A : Type 0} {X : Type ℓ} {a : A} {o : Option A} → o ≡ some a → o ≡ none → X
some_none {a = a} {o} p q = let z : ◌≡◌ {A = ℕ} 0 1 = cc in absurd (omega arith)

-- both parts of a conjunction of tests
pub and_left : (a b : Bool) → (a && b) ≡ true → a ≡ true
and_left true b e = refl
and_left false b e = e

pub and_right : (a b : Bool) → (a && b) ≡ true → b ≡ true
and_right true b e = e
and_right false b e = true_false e refl

pub and_both : {a b : Bool} → a ≡ true → b ≡ true → (a && b) ≡ true
and_both {a} {b} p q = rw (p, q)

-- a member by the test is a member
pub member_sound : (t : ℕ) (ms : List ℕ) → member_of t ms ≡ true → Memᴰ t ms
unfolding member_of
member_sound t [] e = true_false e refl
member_sound t (m ∷ ms) e = go (eqb t m) refl (member_sound t ms)
  where
    go : (b : Bool) → eqb t m ≡ b → (member_of t ms ≡ true → Memᴰ t ms) → Memᴰ t (m ∷ ms)
    go true q later = Memᴰ.head (eqb-true t m q)
    go false q later = Memᴰ.tail (later (rw q at e))

-- an entry is a member
pub entry_member : {A : Type 0} (p : ℕ) (xs : List A) {x : A} → entry p xs ≡ some x → Memᴰ x xs
unfolding entry
entry_member zero xs {x} e = some_none e refl
entry_member (suc p) [] {x} e = some_none e refl
entry_member (suc zero) (y ∷ xs) {x} e = let same : x ≡ y = cc in Memᴰ.head same
entry_member (suc (suc p)) (y ∷ xs) {x} e = Memᴰ.tail (entry_member (suc p) xs e)

-- an entry stands at its position
pub entry_at : {A : Type 0} (d : A) (p : ℕ) (xs : List A) (m : A) → entry p xs ≡ some m → (1 ≤ p) × (p ≤ length xs) × (get_or xs (p - 1) d ≡ m)
unfolding entry
entry_at d zero xs m e = some_none e refl
entry_at d (suc p) [] m e = some_none e refl
entry_at d (suc zero) (x ∷ xs) m e = (omega arith, omega arith, cc)
entry_at d (suc (suc p)) (x ∷ xs) m e =
    let later = entry_at d (suc p) xs m e in
    let less : suc (suc p) - 1 ≡ suc p = omega arith in
    let less' : suc p - 1 ≡ p = omega arith in
    let same : get_or xs p d ≡ m = rw less' at later.2 in
    (omega arith, omega (arith, later.1), rw less same)

-- and what stands at a position is an entry
pub at_entry : {A : Type 0} (d : A) (i : ℕ) (xs : List A) → i < length xs → entry (suc i) xs ≡ some (get_or xs i d)
unfolding entry
at_entry d i [] h = absurd (omega arith)
at_entry d zero (x ∷ xs) h = refl
at_entry d (suc i) (x ∷ xs) h = at_entry d i xs (omega arith)

pub one_plus : (j : ℕ) → 1 + j ≡ suc j
one_plus j = omega arith

-- ---- tests and what they decide

-- a test passes exactly where a fact holds
abbrev pub Decides : Bool → Type 0 → Type 0
Decides b P = (b ≡ true) ↔ P

-- where it doesn't hold, the test fails
pub refuted : {P : Type 0} (b : Bool) → Decides b P → (P → ⊥) → b ≡ false
refuted true d h = absurd (h (d.0 refl))
refuted false d h = refl

-- where the test failed, it doesn't hold
pub denied : {P : Type 0} → Decides false P → P → ⊥
denied d h = true_false (d.1 h) refl

-- one of two tests
pub either : {P Q : Type 0} (a b : Bool) → Decides a P → Decides b Q → Decides (a || b) (P ⊎ Q)
either true b d e = (λ h. inl (d.0 refl), λ h. refl)
either {P} {Q} false b d e = (λ h. inr (e.0 h), right)
  where
    right : P ⊎ Q → b ≡ true
    right (inl h) = absurd (denied d h)
    right (inr h) = e.1 h

-- both of two tests
pub both : {P Q : Type 0} (a b : Bool) → Decides a P → Decides b Q → Decides (a && b) (P × Q)
both a b d e = (λ h. (d.0 (and_left a b h), e.0 (and_right a b h)), λ h. and_both (d.1 h.0) (e.1 h.1))

-- a test of equality
pub equal : (a b : ℕ) → Decides (eqb a b) (a ≡ b)
equal a b = (eqb-true a b, eq-eqb a b)

-- a test that some entry passes
pub some_passes : {A : Type 0} {P : A → Type 0} (test : A → Bool) → ((x : A) → Decides (test x) (P x)) → (xs : List A)
    → Decides (some_of test xs) ((x : A) × Memᴰ x xs × P x)
unfolding some_of
some_passes {A} {P} test d xs = (found xs, λ s. passed xs s.0 s.1 s.2)
  where
    found : (xs : List A) → some_of test xs ≡ true → (x : A) × Memᴰ x xs × P x
    found [] e = true_false e refl
    found (y ∷ xs) e = go (test y) refl (found xs)
      where
        go : (b : Bool) → test y ≡ b → (some_of test xs ≡ true → (x : A) × Memᴰ x xs × P x) → (x : A) × Memᴰ x (y ∷ xs) × P x
        go true q later = (y, Memᴰ.head refl, (d y).0 q)
        go false q later = let s = later (rw q at e) in (s.0, Memᴰ.tail s.1, s.2)

    passed : (xs : List A) (x : A) → Memᴰ x xs → P x → some_of test xs ≡ true
    passed [] x x4 h = elim x4 [ ]
    passed (y ∷ xs) x (Memᴰ.head same) h = rw (← same, (d x).1 h)
    passed (y ∷ xs) x (Memᴰ.tail i) h = go (test y) (passed xs x i h)
      where
        go : (b : Bool) → some_of test xs ≡ true → (b || some_of test xs) ≡ true
        go true later = refl
        go false later = later

-- and one that none passes
pub none_passes : {A : Type 0} {P : A → Type 0} (test : A → Bool) → ((x : A) → Decides (not (test x)) (P x)) → (xs : List A)
    → Decides (not (some_of test xs)) ((x : A) → Memᴰ x xs → P x)
none_passes {A} {P} test d xs = (each, none-does)
  where
    some-does : Decides (some_of test xs) ((x : A) × Memᴰ x xs × (test x ≡ true))
    some-does = some_passes test (λ x. iff.rfl) xs

    each : not (some_of test xs) ≡ true → (x : A) → Memᴰ x xs → P x
    each e x i = (d x).0 (go (test x) refl)
      where
        go : (b : Bool) → test x ≡ b → not (test x) ≡ true
        go true q = true_false (some-does.1 (x, i, q)) (not-true _ e)
        go false q = rw q

    none-does : ((x : A) → Memᴰ x xs → P x) → not (some_of test xs) ≡ true
    none-does all = ap not (refuted _ some-does (λ s. true_false s.2 (not-true _ ((d s.0).1 (all s.0 s.1)))))

-- ---- the first that is there

module _ {A : Type 0} (found : ℕ → Option A) where
  -- it is there, and nothing is at the numbers before
  pub record FirstAt (i k : ℕ) (x : A) : Type 0 where
    pub number : ℕ
    pub from : i ≤ number
    pub below : number < i + k
    pub there : found number ≡ some x
    pub none_before : (m : ℕ) → i ≤ m → m < number → found m ≡ none

  -- nothing at a number, nor at some behind it
  none_more : {i n : ℕ} → found i ≡ none → ((m : ℕ) → suc i ≤ m → m < n → found m ≡ none) → (m : ℕ) → i ≤ m → m < n → found m ≡ none
  none_more {i} {n} here later m from less = go (eqb m i) refl
    where
      go : (b : Bool) → eqb m i ≡ b → found m ≡ none
      go true e = rw (eqb-true m i e) here
      go false e = later m (omega (arith, eqb-false m i e)) less

  -- what is there at the first number is what is found
  found_here : (i k : ℕ) {x y : A} → found i ≡ some y → first_found found i (suc k) ≡ some x → some y ≡ some x
  unfolding first_found or_next
  found_here i k q e = rw q at e

  pub first_there : (i k : ℕ) {x : A} → first_found found i k ≡ some x → FirstAt i k x
  unfolding first_found or_next
  first_there i zero e = some_none e refl
  first_there i (suc k) {x} e = go (found i) refl (first_there (suc i) k)
    where
      go : (o : Option A) → found i ≡ o → (first_found found (suc i) k ≡ some x → FirstAt (suc i) k x) → FirstAt i (suc k) x
      go (some y) q later =
          record { number = i; from = omega arith; below = omega arith; there = q ∙ found_here i k q e; none_before = λ m from less. absurd (omega arith) }
      go none q later =
          let r = later (rw q at e) in
          record {
            number = r.number;
            from = omega (arith, r.from);
            below = omega (arith, r.below);
            there = r.there;
            none_before = none_more q r.none_before;
          }

  pub first_nowhere : (i k : ℕ) → first_found found i k ≡ none → (m : ℕ) → i ≤ m → m < i + k → found m ≡ none
  unfolding first_found or_next
  first_nowhere i zero e m from less = absurd (omega arith)
  first_nowhere i (suc k) e m from less = go (found i) refl (first_nowhere (suc i) k)
    where
      go : (o : Option A) → found i ≡ o → (first_found found (suc i) k ≡ none → (m : ℕ) → suc i ≤ m → m < suc i + k → found m ≡ none) → found m ≡ none
      go (some y) q later = some_none refl (rw q at e)
      go none q later = none_more q (λ m from less. later (rw q at e) m from (omega arith)) m from less
