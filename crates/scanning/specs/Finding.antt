-- What a search for a child element finds.
use Rattle.std.specs.Prelude.{◌≡◌, List, ℕ, Option, MatchOption}
use Rattle.std.proofs.Math.Option as model
use Rattle.model.specs.Definitions.Content.{Content}
use Rattle.model.specs.Definitions.Inverse.{Located, located}
use Rattle.scanning.specs.Scanning.{ContentAt}

-- there is a content, and it begins at offset o
pub record FoundContent (tr : List ℕ) (o : ℕ) (sought : model.Option Located) : Type 0 where
  pub content : Content
  pub is : sought ≡ model.some (located o content)
  pub there : ContentAt tr o content

-- the answer finds the content that is sought, or says that there is none
abbrev pub Finds : List ℕ → Option ℕ → model.Option Located → Type 0
Finds tr result sought = MatchOption result (sought ≡ model.none) (λ o. FoundContent tr o sought)
