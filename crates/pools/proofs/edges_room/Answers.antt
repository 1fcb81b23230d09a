use mathlib.Core.Path.{◌≡◌, refl}
use mathlib.Core.List.{List}
use Prim.Native.Nat.{ℕ, suc, ◌+◌, ◌*◌}
use native.Mathlib.Omega.{arith}
use lib.ListN.{get_or}
use Rattle.loaded_embedding.specs.Loaded.{lengths_of}
use Rattle.pools.specs.Room.{edge_room}
use Rattle.pools.proofs.Adding.{added_more, added_all}
use Rattle.pools.proofs.edges_room.Goals as goal

-- one edge more
step-more : (map : List ℕ) (i : ℕ) {steps : ℕ} → steps ≡ get_or (lengths_of map) i 0 → (k : ℕ) → edge_room map i (suc k) ≡ 18 * steps + 4 + edge_room map (suc i) k
unfolding edge_room
step-more map i e k = rw e refl

no_room : (map : List ℕ) (i : ℕ) → edge_room map i 0 ≡ 0
unfolding edge_room
no_room map i = refl

pub loop-i-preserved : goal.loop-i-preserved
loop-i-preserved c =
    added_more c.loop-i.invariant (omega arith) (omega (arith, c.steps.ensures.1)) (step-more c.args.map.now c.loop-i.i c.steps.ensures.0)

pub returns : goal.returns
returns c = added_all c.loop-i.invariant (omega arith) (no_room _)
