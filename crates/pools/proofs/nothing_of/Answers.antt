-- `nothing_of` meets its contract: by the code of the kind.
use mathlib.Core.Path.{◌≡◌, refl}
use mathlib.Core.List.{List}
use Prim.Native.Nat.{ℕ, ◌+◌, ◌*◌}
use native.Mathlib.Omega.{arith}
use lib.ListN.{get_or}
use borrow.Author.Tests.{eq-eqb, ne_eqb}
use Rattle.model.specs.Definitions.Basics.{pick}
use Rattle.loaded_table.specs.Loaded.{kinds_of}
use Rattle.loaded_embedding.specs.Loaded.{lengths_of}
use Rattle.pools.specs.Room.{nothing_of}
use Rattle.pools.proofs.nothing_of.Goals as goal

-- an optional choice has the room of its first edge
of-optional : (source map : List ℕ) (s : ℕ) {code steps : ℕ} → code ≡ get_or (kinds_of source) s 0 → code ≡ 4 → steps ≡ get_or (lengths_of map) (s * 16) 0 → 18 * steps + 4 ≡ nothing_of source map s
unfolding nothing_of pick
of-optional source map s told is e = rw (← told, eq-eqb _ 4 is, e) refl

-- another type has none
of_other : (source map : List ℕ) (s : ℕ) {code : ℕ} → code ≡ get_or (kinds_of source) s 0 → (code ≡ 4 → ⊥) → 0 ≡ nothing_of source map s
unfolding nothing_of pick
of_other source map s told is = rw (← told, ne_eqb _ 4 is) refl

pub returns-then-kind-eq-OPTIONAL : goal.returns-then-kind-eq-OPTIONAL
returns-then-kind-eq-OPTIONAL c =
    (of-optional c.args.source.now c.args.map.now c.args.s c.kind.ensures.0 c.if-kind-eq-OPTIONAL.true c.steps.ensures.0, omega (arith, c.steps.ensures.1))

pub returns : goal.returns
returns c =
    (of_other c.args.source.now c.args.map.now c.args.s c.kind.ensures.0 c.if-kind-eq-OPTIONAL.false, omega arith)
