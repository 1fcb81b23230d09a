-- `size_rows` meets its contract: the rows of the types before a type are sized.
use mathlib.Core.Path.{◌≡◌}
use Prim.Native.Nat.{ℕ, ◌<◌}
use lib.ListN.{length}
use Rattle.row_sizes.specs.Sizing.{TypeSized}
use Rattle.row_sizes.proofs.size_rows.Given as goal

abbrev pub invariant-loop-s : goal.invariant-loop-s
invariant-loop-s l = (length l.sizes ≡ length l.initial.sizes) × ((i : ℕ) → i < l.s → TypeSized l.source l.target l.pool l.places l.sizes i)
