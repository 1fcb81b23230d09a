-- `size_type` meets its contract: the first rows of the type are sized, and what was stored stays.
use Prim.Native.Nat.{ℕ, ◌<◌}
use Rattle.rows.specs.Rows.{type_row}
use Rattle.row_sizes.specs.Sizing.{Sized, Keeps}
use Rattle.row_sizes.proofs.size_type.Given as goal

abbrev pub invariant-loop-j : goal.invariant-loop-j
invariant-loop-j l = Keeps l.target l.pool l.places l.initial.sizes l.sizes × ((i : ℕ) → i < l.j → Sized l.target l.pool l.places l.sizes (type_row l.s i))
