-- A whole document, compared with the bytes of an image.
use Rattle.std.specs.Prelude.{Bool, true, false, ◌↔◌, Result, Ok, Err, OnOk, OnErr, is_ok}
use Rattle.std.proofs.Common.{◌≡◌, refl, sym, ap, ◌∙◌, List, [], ◌∷◌, ◌++◌, ℕ, arith, length, length-append, append-nil, eqb, eqb-true, eq-eqb}
use Rattle.model.proofs.Theorems.Tools.{true_false}

-- what a test of a result tells
pub if_ok : {T E P : Type 0} (r : Result T E) → OnOk r P → is_ok r ≡ true → P
if_ok (Ok x) w e = w
if_ok (Err y) w e = true_false e refl

pub if_err : {T E P : Type 0} (r : Result T E) → OnErr r P → is_ok r ≡ false → P
if_err (Ok x) w e = true_false refl e
if_err (Err y) w e = w

empty_list : (l : List ℕ) → length l ≡ 0 → l ≡ []
empty_list [] e = refl
empty_list (x ∷ l) e = absurd (omega (arith, e))

-- a document that begins with the bytes is they exactly where nothing is left
pub nothing_left : {doc bs : List ℕ} {empty : Bool} (left : List ℕ) → doc ≡ bs ++ left → empty ≡ eqb (length left) 0 → (empty ≡ true) ↔ (bs ≡ doc)
nothing_left {doc} {bs} {empty} left e is = (there, back)
  where
    there : empty ≡ true → bs ≡ doc
    there y = sym (e ∙ ap (λ (l : List ℕ). bs ++ l) (empty_list left (eqb-true (length left) 0 (sym is ∙ y))) ∙ append-nil bs)

    back : bs ≡ doc → empty ≡ true
    back same = is ∙ eq-eqb (length left) 0 (omega (arith, ap length e, ap length same, length-append bs left))

-- one that does not is not they
pub other_document : {doc bs : List ℕ} {same : Bool} → ((rest : List ℕ) → doc ≡ bs ++ rest → ⊥) → same ≡ false → (same ≡ true) ↔ (bs ≡ doc)
other_document {bs = bs} differs e = (λ y. true_false y e, λ is. absurd (differs [] (sym is ∙ sym (append-nil bs))))
