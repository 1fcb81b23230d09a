-- A tree document that a table accepts: what carrying and bringing back require of it.
use Rattle.std.specs.Prelude.{◌≡◌, List, ℕ, ◌≤◌, length}
use Rattle.model.specs.Definitions.Table.{Table, kind_of}
use Rattle.model.specs.Definitions.Content.{content_of, document}
use Rattle.model.specs.Definitions.Conformance.{Holds}

-- it is a document whose root holds what type 0 holds, and has at most 60,000 bytes
pub record SoundTree (T : Table) (tr : List ℕ) : Type 0 where
  pub form : tr ≡ document 0 (content_of tr)
  pub holds : Holds T (kind_of T 0) (content_of tr)
  pub short : length tr ≤ 60000
