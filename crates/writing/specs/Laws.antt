-- Laws of runs of stores, of writers, and of parts of a list.
use Rattle.std.specs.Prelude.{◌≡◌, refl, List, [], ◌∷◌, ◌++◌, ℕ, suc, ◌+◌, ◌-◌, ◌≤◌, ◌<◌, length, take, drop, get_or, set}
use Rattle.std.proofs.Common.{ap, ◌∙◌, add-zero, add-one, arith, length-append, drop-cons}
use Rattle.std.proofs.lemmas.List.Edits.{sets, sets-eq}
use Rattle.std.proofs.Math.Seq.{length-sets, take-append_seam}
use Rattle.writing.specs.Writing.{Writes}

-- two runs of stores, the second where the first ends, are one
pub sets_join : (v w l : List ℕ) (i : ℕ) → sets (sets l i v) (i + length v) w ≡ sets l i (v ++ w)
sets_join [] w l i = rw (add-zero i)
sets_join (a ∷ v) w l i =
    let e : i + suc (length v) ≡ suc i + length v = omega arith in
    rw e (sets_join v w (set l i a) (suc i))

-- what is written after a writer is written after its bytes
pub writes-left : {old new : List ℕ} {at : ℕ} {bs : List ℕ} {next : ℕ} → Writes old new at bs next → (more : List ℕ) → sets new next more ≡ sets old at (bs ++ more)
writes-left {old} {new} {at} {bs} {next} w more = rw (w.written, w.after) (sets_join bs more old at)

-- two writers, the second where the first ends, write the bytes of both
pub writes_then : {old mid new : List ℕ} {at : ℕ} {bs cs : List ℕ} {between next : ℕ} → Writes old mid at bs between → Writes mid new between cs next
    → Writes old new at (bs ++ cs) next
writes_then {bs = bs} {cs} first second =
    record { written = second.written ∙ writes-left first cs; after = omega (arith, first.after, second.after, length-append bs cs) }

-- a writer leaves the output's length
pub writes-length : {old new : List ℕ} {at : ℕ} {bs : List ℕ} {next : ℕ} → Writes old new at bs next → length new ≡ length old
writes-length {old} {at = at} {bs} w = ap length w.written ∙ length-sets old at bs

-- a store writes one byte
pub stored : (out : List ℕ) (at b : ℕ) → Writes out (set out at b) at (b ∷ []) (at + 1)
stored out at b = record { written = refl; after = refl }

-- what was written from the start on stands there
pub written_from_start : {old new : List ℕ} {bs : List ℕ} {next : ℕ} → Writes old new 0 bs next → length bs ≤ length old → take next new ≡ bs
written_from_start {old} {bs = bs} {next} w room =
    let whole = w.written ∙ sets-eq bs old 0 (omega arith) in
    let long : next ≡ length bs = omega (arith, w.after) in
    rw (long, whole) (take-append_seam bs (drop (0 + length bs) old))

-- the part of a list from index i up to index e begins with the element at i
pub part_cons : (l : List ℕ) (i e : ℕ) → i < e → e ≤ length l → take (e - i) (drop i l) ≡ get_or l i 0 ∷ take (e - (i + 1)) (drop (i + 1) l)
part_cons l i e less within =
    let more : e - i ≡ suc (e - (i + 1)) = omega arith in
    let first : drop i l ≡ get_or l i 0 ∷ drop (suc i) l = drop-cons l i 0 (omega arith) in
    rw (more, first, add-one i)
