-- A read puts its bytes behind those that are there.
use Rattle.std.proofs.Common.{rules, ◌≡◌, ◌≤◌, take, drop, length, ℕ, ◌+◌, List, ◌++◌, sym, ap, ap₂, ◌∙◌, subst, le_refl, drop_at, length-take-le}
use Rattle.std.proofs.lemmas.Slice.{take-put_mid_below}
use Rattle.std.proofs.KnownBytes.{Consumes-trans}
use Rattle.std.specs.Io.KnownBytes.{Consumes}
use borrow.Rule.Slice.PartMut.{put_mid, post_of}
use lib.Seq.{take-add, take-append-le}
use Rattle.console.proofs.read_full.Goals as goal

-- the first a bytes, and the next n of a part that was lent and written
taken : (a k n : ℕ) (xs ys : List ℕ) → a ≤ length xs → n ≤ length ys → take (a + n) (put_mid a k xs ys) ≡ take a xs ++ take n ys
taken a k n xs ys within fits =
    let part : drop a (put_mid a k xs ys) ≡ ys ++ post_of a k xs = drop_at (take a xs) (ys ++ post_of a k xs) a (length-take-le a xs within) in
    take-add a n (put_mid a k xs ys) ∙ ap₂ (λ f l. f ++ l) (take-put_mid_below a k xs ys a (le_refl a) within) (ap (take n) part ∙ take-append-le n ys (post_of a k xs) fits)

pub loop-done-preserved : goal.loop-done-preserved
loop-done-preserved g c =
    let before = c.loop-done.invariant in
    let read = c.in_ok-n.ensures in
    record {
      within = search rules;
      lost = subst (Consumes _ _) (sym (taken _ _ _ _ _ before.within read.bound.0)) (Consumes-trans _ _ _ _ _ before.lost read.bytes.0);
    }
