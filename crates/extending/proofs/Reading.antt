-- The first operation of some bytes by what stands there, and the one that is read at an offset of a document.
use mathlib.Core.Path.{◌≡◌, refl, ap, ◌∙◌}
use mathlib.Core.Bool.{Bool, true, false}
use mathlib.Core.List.{List, [], ◌∷◌}
use Prim.Native.Nat.{ℕ, suc, ◌+◌, ◌-◌, ◌≤◌, ◌<◌}
use native.Mathlib.Numerals.{add-one}
use native.Mathlib.Omega.{arith}
use lib.ListN.{length, take, drop, get_or, length-drop}
use lib.Seq.{drop-cons}
use lib.Dec.{eqb, ltb}
use borrow.Author.Tests.{ltb-true, ltb-false, le-leb, lt-leb, eqb-true}
use Rattle.model.specs.Definitions.Basics.{pick}
use Rattle.model.specs.Definitions.Extending.{reads, unreadable, type_there, member_there, first_operation}
use Rattle.model.specs.Definitions.Operations.{append_type, append_member}
use Rattle.model.proofs.Theorems.Tools.{pick_true, pick_false}
use Rattle.std.specs.Prelude.{Some, None}
use Rattle.extending.specs.Extending.{ReadAt}
use Rattle.extending.specs.declared.Operation.TheVariants.{NewType, NewMember}

-- ---- of some bytes

-- too few bytes behind the first
no_type_there : (rest : List ℕ) → length rest < 1 → type_there rest ≡ unreadable
unfolding type_there
no_type_there [] few = refl
no_type_there (n ∷ rest) few = absurd (omega arith)

no_member_there : (rest : List ℕ) → length rest < 2 → member_there rest ≡ unreadable
unfolding member_there
no_member_there [] few = refl
no_member_there (t ∷ []) few = refl
no_member_there (t ∷ m ∷ rest) few = absurd (omega arith)

-- another first byte, or too few behind it
none_first : (b : ℕ) (rest : List ℕ) → (b ≡ 0x51 → length rest < 1) → (b ≡ 0x52 → length rest < 2) → first_operation (b ∷ rest) ≡ unreadable
unfolding first_operation
none_first b rest type member = go (eqb b 0x51) (eqb b 0x52) refl refl
  where
    go : (p q : Bool) → eqb b 0x51 ≡ p → eqb b 0x52 ≡ q → first_operation (b ∷ rest) ≡ unreadable
    go true q e f = pick_true _ _ _ e ∙ no_type_there rest (type (eqb-true b 0x51 e))
    go false true e f = pick_false _ _ _ e ∙ pick_true _ _ _ f ∙ no_member_there rest (member (eqb-true b 0x52 f))
    go false false e f = pick_false _ _ _ e ∙ pick_false _ _ _ f

type_first : (n : ℕ) (rest : List ℕ) → n ≤ length rest → first_operation (0x51 ∷ n ∷ rest) ≡ reads (append_type (take n rest)) (2 + n)
unfolding first_operation type_there pick
type_first n rest there = rw (le-leb n (length rest) there)

long_type_first : (n : ℕ) (rest : List ℕ) → length rest < n → first_operation (0x51 ∷ n ∷ rest) ≡ unreadable
unfolding first_operation type_there pick
long_type_first n rest long = rw (lt-leb n (length rest) long)

member_first : (t m : ℕ) (rest : List ℕ) → first_operation (0x52 ∷ t ∷ m ∷ rest) ≡ reads (append_member t m) 3
unfolding first_operation member_there pick
member_first t m rest = refl

-- ---- at an offset

module _ (ops : List ℕ) (at : ℕ) where
  -- the bytes there
  one_there : at < length ops → drop at ops ≡ get_or ops at 0 ∷ drop (at + 1) ops
  one_there h = rw (add-one at) (drop-cons ops at 0 h)

  two_there : at + 1 < length ops → drop at ops ≡ get_or ops at 0 ∷ get_or ops (at + 1) 0 ∷ drop (at + 2) ops
  two_there h =
      let next : suc (at + 1) ≡ at + 2 = omega arith in
      one_there (omega arith) ∙ ap (◌∷◌ (get_or ops at 0)) (drop-cons ops (at + 1) 0 h ∙ rw next)

  three_there : at + 2 < length ops → drop at ops ≡ get_or ops at 0 ∷ get_or ops (at + 1) 0 ∷ get_or ops (at + 2) 0 ∷ drop (at + 3) ops
  three_there h =
      let next : suc (at + 2) ≡ at + 3 = omega arith in
      two_there (omega arith) ∙ ap (λ (l : List ℕ). get_or ops at 0 ∷ get_or ops (at + 1) 0 ∷ l) (drop-cons ops (at + 2) 0 h ∙ rw next)

  -- so many bytes are left
  enough : (k : ℕ) → ltb k (length ops - at) ≡ true → at + k < length ops
  enough k test = omega (arith, ltb-true k (length ops - at) test)

  pub type_read : (n : ℕ) → get_or ops at 0 ≡ 0x51 → ltb 1 (length ops - at) ≡ true → n ≡ get_or ops (at + 1) 0 → n + 2 ≤ length ops - at → ReadAt ops at (Some (NewType n))
  type_read n is two count within =
      let left = enough 1 two in
      let room : n ≤ length (drop (at + 2) ops) = omega (arith, length-drop (at + 2) ops) in
      (omega arith, ap first_operation (two_there left ∙ rw (is, ← count)) ∙ type_first n (drop (at + 2) ops) room)

  pub long_type_read : (n : ℕ) → get_or ops at 0 ≡ 0x51 → ltb 1 (length ops - at) ≡ true → n ≡ get_or ops (at + 1) 0 → length ops - at < n + 2 → ReadAt ops at None
  long_type_read n is two count beyond =
      let left = enough 1 two in
      let long : length (drop (at + 2) ops) < n = omega (arith, length-drop (at + 2) ops) in
      ap first_operation (two_there left ∙ rw (is, ← count)) ∙ long_type_first n (drop (at + 2) ops) long

  pub member_read : (t m : ℕ) → get_or ops at 0 ≡ 0x52 → ltb 2 (length ops - at) ≡ true → t ≡ get_or ops (at + 1) 0 → m ≡ get_or ops (at + 2) 0 → ReadAt ops at (Some (NewMember t m))
  member_read t m is three type member =
      let left = enough 2 three in
      (omega arith, ap first_operation (three_there left ∙ rw (is, ← type, ← member)) ∙ member_first t m (drop (at + 3) ops))

  pub none_read : at < length ops → (get_or ops at 0 ≡ 0x51 → ltb 1 (length ops - at) ≡ false) → (get_or ops at 0 ≡ 0x52 → ltb 2 (length ops - at) ≡ false) → ReadAt ops at None
  none_read some type member =
      let behind = length-drop (at + 1) ops in
      ap first_operation (one_there some)
      ∙ none_first (get_or ops at 0) (drop (at + 1) ops) (λ e. omega (arith, ltb-false 1 (length ops - at) (type e))) (λ e. omega (arith, ltb-false 2 (length ops - at) (member e)))
