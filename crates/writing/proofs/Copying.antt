-- The loop of `copy`: what is left to copy gives the whole.
use mathlib.Core.Path.{◌≡◌, sym, ap, ◌∙◌}
use mathlib.Core.List.{List}
use Prim.Native.Nat.{ℕ, ◌+◌, ◌-◌, ◌≤◌, ◌<◌}
use native.Mathlib.Numerals.{add-one}
use native.Mathlib.Omega.{arith}
use lib.ListN.{length, take, drop, get_or, set, length-set, length-take, length-drop}
use lib.Seq.{sets}
use Rattle.writing.specs.Writing.{Writes}
use Rattle.writing.specs.Laws.{part_cons}

-- the bytes of `from` before index i stand in the output, the next one's place is `to`, and those from i to e are left
pub record Copies (from : List ℕ) (a e : ℕ) (old : List ℕ) (at : ℕ) (out : List ℕ) (i to : ℕ) : Type 0 where
  pub high : i ≤ e
  pub place : to + (e - i) ≡ at + (e - a)
  pub long : length out ≡ length old
  pub left : sets out to (take (e - i) (drop i from)) ≡ sets old at (take (e - a) (drop a from))

-- one more byte
pub copies_more : (from : List ℕ) (a e : ℕ) (old : List ℕ) (at : ℕ) (out : List ℕ) (i to : ℕ) → Copies from a e old at out i to
    → i < e → e ≤ length from → Copies from a e old at (set out to (get_or from i 0)) (i + 1) (to + 1)
copies_more from a e old at out i to now less within =
    record {
      high = omega arith;
      place = omega (arith, now.place);
      long = length-set out to (get_or from i 0) ∙ now.long;
      left = rw (add-one to) (ap (sets out to) (sym (part_cons from i e less within)) ∙ now.left);
    }

-- no byte is left
pub copies_all : (from : List ℕ) (a e : ℕ) (old : List ℕ) (at : ℕ) (out : List ℕ) (i to : ℕ) → Copies from a e old at out i to
    → e ≤ i → a ≤ e → e ≤ length from → Writes old out at (take (e - a) (drop a from)) to
copies_all from a e old at out i to now all ordered within =
    let at_end : e - i ≡ 0 = omega arith in
    record {
      written = rw at_end at now.left;
      after = omega (arith, now.place, length-take (e - a) (drop a from), length-drop a from);
    }
