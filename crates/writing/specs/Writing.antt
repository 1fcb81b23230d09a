-- What writers into a lent output do. `sets out at bs` is the output with the bytes bs from offset `at` on.
use Rattle.std.specs.Prelude.{◌≡◌, List, ℕ, ◌+◌, length}
use Rattle.std.proofs.lemmas.List.Edits.{sets}

-- the bytes bs are written at offset `at`, and `next` is the offset after them
pub record Writes (old new : List ℕ) (at : ℕ) (bs : List ℕ) (next : ℕ) : Type 0 where
  pub written : new ≡ sets old at bs
  pub after : next ≡ at + length bs
