-- Where reading fails, by the model's definition of reading.
use Rattle.std.specs.Prelude.{◌≡◌, Bool, true, false, ℕ, suc, Option, MatchOption}
use Rattle.model.specs.Definitions.Content.{Content}
use Rattle.model.specs.Definitions.Image.{Setting}
use Rattle.model.specs.Definitions.Inverse.{Located, opened_at, child_parts, Reading, yields, missing, read_parts, read_to}

-- reading fails at this offset, or it yields something
abbrev pub Loses : Option ℕ → Reading → Type 0
Loses lost r = MatchOption lost ((j : Content) × (r ≡ yields j)) (λ at. r ≡ missing at)

-- one reading fails where another does, and yields something where that does
pub record FailsAs (whole rest : Reading) : Type 0 where
  pub fails : (at : ℕ) → rest ≡ missing at → whole ≡ missing at
  pub succeeds : (j : Content) → rest ≡ yields j → (i : Content) × (whole ≡ yields i)

-- what the children of a source element of type σ are read as, with n levels
abbrev pub children_read : Setting → ℕ → ℕ → Located → Reading
children_read X n σ l = read_parts (λ m a. read_to X n m a) (opened_at l) (child_parts X σ l)

-- whether an own path of a source element is missing: then reading fails at the element itself, else as its children do
abbrev pub OwnPaths : Setting → ℕ → Located → Bool → Type 0
OwnPaths X σ l true = (n : ℕ) → read_to X (suc n) σ l ≡ missing (opened_at l)
OwnPaths X σ l false = (n : ℕ) → FailsAs (read_to X (suc n) σ l) (children_read X n σ l)
