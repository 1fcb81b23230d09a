-- Edges of a source type, and whether one clashes with those before it.
use Rattle.std.specs.Prelude.{Bool, List, [], ◌∷◌, ℕ, zero, suc}
use Rattle.model.specs.Definitions.Basics.{some_of}
use Rattle.model.specs.Definitions.Table.{Kind, Table}
use Rattle.model.specs.Definitions.Embedding.{Edge, TypeMap, edge_of}
use Rattle.model.specs.Definitions.EmbeddingChecks.{clash}

-- the first i of a list of edges, the last of them first, before others
unfoldable pub passed : ℕ → List Edge → List Edge → List Edge
passed zero es earlier = earlier
passed (suc i) [] earlier = earlier
passed (suc i) (e ∷ es) earlier = passed i es (e ∷ earlier)

-- whether edge i clashes with one of the first j
unfoldable pub clashes_below : Table → Kind → TypeMap → ℕ → ℕ → Bool
clashes_below T κ f i j = some_of (λ (d : Edge). clash T κ f.target d.steps (edge_of f i).steps) (passed j f.edges [])

-- check 10 for edge i of a source type of a kind: whether it clashes with an earlier edge
unfoldable pub clashes_at : Table → Kind → TypeMap → ℕ → Bool
clashes_at T κ f i = clashes_below T κ f i i
