-- An arm of a `match` on an enum knows its variants by their places in the enum's declaration. What holds of each of them,
-- whatever their fields, holds of the value that came into the arm.
use Rattle.std.specs.Prelude.{◌≡◌, List, [], ◌∷◌, ℕ}
use Rattle.std.proofs.Common.{inl, inr}
use denote.Enum.Declared.{Record, declared, tag_of}
use types.Run.{OneOf}
use borrow.Enum.Known.{ValuesAt, at, lives_at}

module _ (N : Record) {A : Type 0} (f : N.D → A) (a : A) where
  -- f is a at each of these variants
  abbrev pub Each : List ℕ → Type 0
  Each [] = Unit {0}
  Each (k ∷ ks) = ((v : ValuesAt N.parts k) → a ≡ f (at N k v)) × Each ks

  one : (k : ℕ) → ((v : ValuesAt N.parts k) → a ≡ f (at N k v)) → (x : N.D) → tag_of (declared N) x ≡ k → a ≡ f x
  one k same x e = let told = lives_at N x k e in rw told.1 (same told.0)

  pub in_arm : (ks : List ℕ) → Each ks → (x : N.D) → OneOf ks (tag_of (declared N) x) → a ≡ f x
  in_arm [] each x e = absurd e
  in_arm (k ∷ []) each x e = one k each.0 x e
  in_arm (k ∷ k' ∷ ks) each x (inl e) = one k each.0 x e
  in_arm (k ∷ k' ∷ ks) each x (inr e) = in_arm (k' ∷ ks) each.1 x e
