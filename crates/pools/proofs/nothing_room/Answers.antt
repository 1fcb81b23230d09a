use mathlib.Core.Path.{◌≡◌, refl}
use mathlib.Core.List.{List}
use Prim.Native.Nat.{ℕ, suc, ◌+◌}
use native.Mathlib.Omega.{arith}
use Rattle.pools.specs.Room.{nothing_of, nothing_room}
use Rattle.pools.proofs.Adding.{added_more, added_all}
use Rattle.pools.proofs.nothing_room.Goals as goal

-- one type more
step-more : (source map : List ℕ) (s : ℕ) {one : ℕ} → one ≡ nothing_of source map s → (k : ℕ) → nothing_room source map s (suc k) ≡ one + nothing_room source map (suc s) k
unfolding nothing_room
step-more source map s e k = rw e refl

no_room : (source map : List ℕ) (s : ℕ) → nothing_room source map s 0 ≡ 0
unfolding nothing_room
no_room source map s = refl

pub loop-s-preserved : goal.loop-s-preserved
loop-s-preserved c =
    added_more c.loop-s.invariant (omega arith) c.nothing_of-total.ensures.1 (step-more c.args.source.now c.args.map.now c.loop-s.s c.nothing_of-total.ensures.0)

pub returns : goal.returns
returns c = added_all c.loop-s.invariant (omega arith) (no_room _ _)
