-- Content in a tree document, by its offset.
use Rattle.std.specs.Prelude.{◌≡◌, List, ◌∷◌, ◌++◌, ℕ, drop}
use Rattle.model.specs.Definitions.Content.{Content, bytes}

-- the bytes of the content k begin at offset `from`, and the 32 that closes the element stands after them
pub record ContentAt (tr : List ℕ) (from : ℕ) (k : Content) : Type 0 where
  pub rest : List ℕ
  pub stands : drop from tr ≡ bytes k ++ 0x32 ∷ rest
