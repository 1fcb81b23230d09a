-- Tools of the definitions: a choice by a test, the lowest place at which a check fails, searches in lists.
-- Nothing here is of paper 01 but the sentence on checks in "Refusal answers": a check covers the whole document and
-- reports the lowest place.
use Rattle.std.specs.Prelude.{Bool, true, false, ◌||◌, List, [], ◌∷◌, ℕ, zero, suc, ◌+◌, eqb}
use Rattle.std.proofs.Math.Option.{Option, none, some}

-- the first value where the test passes, else the second
unfoldable pub pick {ℓ} : {X : Type ℓ} → Bool → X → X → X
pick true x y = x
pick false x y = y

-- ---- checks

-- what a check of a whole document finds: nothing wrong, or the lowest place that is
pub data Verdict : Type 0 where
  passes : Verdict
  fails : ℕ → Verdict

-- the verdict of two checks of which the second counts only where the first passes
unfoldable pub or_else : Verdict → Verdict → Verdict
or_else passes v = v
or_else (fails at) v = fails at

-- a machine's answer to one command: on to a next state, or the command is refused
pub data Next (S : Type 0) : Type 0 where
  goes : S → Next S
  stops : Next S

-- the verdict at the command at offset `at`: refused there, or what `onward` says from the next state
unfoldable pub proceed : {S : Type 0} → ℕ → Next S → (S → Verdict) → Verdict
proceed at (goes s) onward = onward s
proceed at stops onward = fails at

-- The lowest place at which a machine refuses the commands `cs`, the first of which stands at offset `at`.
-- Where they run out, `complete` says whether the state may be the last; if not, the place is the offset reached.
module _ {C S : Type 0} (width : C → ℕ) (step : S → C → Next S) (complete : S → Bool) where
  unfoldable pub run : S → ℕ → List C → Verdict
  run s at [] = pick (complete s) passes (fails at)
  run s at (c ∷ cs) = proceed at (step s c) (λ next. run next (at + width c) cs)

-- one answer, then what follows from the next state
unfoldable pub followed : {S : Type 0} → Next S → (S → Next S) → Next S
followed (goes s) onward = onward s
followed stops onward = stops

-- the state that a machine is in after all of some commands, where it takes each
module _ {C S : Type 0} (step : S → C → Next S) where
  unfoldable pub reach : S → List C → Next S
  reach s [] = goes s
  reach s (c ∷ cs) = followed (step s c) (λ next. reach next cs)

-- a machine goes on to a state where a test passes
unfoldable pub goes_if : {S : Type 0} → Bool → S → Next S
goes_if true s = goes s
goes_if false s = stops

-- ---- lists

-- whether a number is in a list
unfoldable pub member_of : ℕ → List ℕ → Bool
member_of t [] = false
member_of t (m ∷ ms) = eqb t m || member_of t ms

-- the entry at a position counted from 1
unfoldable pub entry : {A : Type 0} → ℕ → List A → Option A
entry zero xs = none
entry (suc p) [] = none
entry (suc zero) (x ∷ xs) = some x
entry (suc (suc p)) (x ∷ xs) = entry (suc p) xs

-- whether some entry passes a test
unfoldable pub some_of : {A : Type 0} → (A → Bool) → List A → Bool
some_of test [] = false
some_of test (x ∷ xs) = test x || some_of test xs

-- what is there, handed on
unfoldable pub and_then : {A B : Type 0} → Option A → (A → Option B) → Option B
and_then none f = none
and_then (some a) f = f a

-- what is there, else something else
unfoldable pub or_next : {A : Type 0} → Option A → Option A → Option A
or_next none other = other
or_next (some a) other = some a

-- whether there is something
unfoldable pub is_there : {A : Type 0} → Option A → Bool
is_there none = false
is_there (some a) = true

-- the first that is there of those with the k numbers from i on
unfoldable pub first_found : {A : Type 0} → (ℕ → Option A) → ℕ → ℕ → Option A
first_found found i zero = none
first_found found i (suc k) = or_next (found i) (first_found found (suc i) k)
