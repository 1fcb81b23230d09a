-- `with_symbol` meets its contract, by the symbol's number.
use mathlib.Core.Path.{◌≡◌, refl}
use Prim.Native.Nat.{ℕ, min}
use native.Mathlib.Omega.{arith}
use Rattle.row_sizes.proofs.Adding.{adds_opening, adds_filler, adds_hole, adds_closing}
use Rattle.row_sizes.proofs.with_symbol.Goals as goal

-- a number that is held, by what std's methods say of it
held-is : {m r : ℕ} (n : ℕ) → m ≡ n → r ≡ min m 60001 → r ≡ min 60001 n
held-is n e f = omega arith

pub returns-then-x-lt-FILLER : goal.returns-then-x-lt-FILLER
returns-then-x-lt-FILLER c =
    adds_opening c.requires c.if-x-lt-FILLER.true refl (held-is _ c.max.ensures c.min.ensures) (held-is _ refl c.min-then-x-lt-FILLER.ensures) refl

pub returns-then-x-lt-CHILD : goal.returns-then-x-lt-CHILD
returns-then-x-lt-CHILD c =
    adds_filler c.requires c.if-x-lt-FILLER.false c.if-x-lt-CHILD.true c.from-t.ensures c.height-height.ensures.0 c.fill-fill.ensures.0 refl
    (held-is _ c.max-then-x-lt-CHILD.ensures c.min-then-x-lt-CHILD.ensures) (held-is _ refl c.min-then-x-lt-CHILD-2.ensures) (held-is _ refl c.min-then-x-lt-CHILD-3.ensures)

pub returns-then-x-le-ITEMS : goal.returns-then-x-le-ITEMS
returns-then-x-le-ITEMS c = adds_hole c.requires c.if-x-lt-CHILD.false c.if-x-le-ITEMS.true

pub returns : goal.returns
returns c = adds_closing c.requires c.if-x-le-ITEMS.false c.saturating_sub.ensures refl refl refl
