-- The checks of edges, edge by edge: what the code asks of edge i of a source type.
use Rattle.std.specs.Prelude.{Bool, not, ◌&&◌, map, ℕ, zero, suc}
use Rattle.model.specs.Definitions.Basics.{Verdict, passes, fails, pick, or_else}
use Rattle.model.specs.Definitions.Table.{Kind, Table, edges_of}
use Rattle.model.specs.Definitions.Embedding.{Edge, TypeMap, Embedding, leaves, first_path, edge_of}
use Rattle.model.specs.Definitions.EmbeddingChecks.{each_type, right_steps, agrees, ends_of, steps_of, clashes_of, wrong_end_verdict, wrong_steps_verdict, path_clash_verdict}
use Rattle.embedding_clash.specs.Edges.{clashes_at}
use Rattle.embedding_ends.specs.Ends.{end_right}
use Rattle.embedding_checks.specs.declared.EdgeCheck.{EdgeCheck}
use Rattle.embedding_checks.specs.declared.EdgeCheck.TheVariants.{Ends, Steps, Clashes, All}

-- the verdict of k checks, the first of them check i
unfoldable pub each_from : (ℕ → Verdict) → ℕ → ℕ → Verdict
each_from check i zero = passes
each_from check i (suc k) = or_else (check i) (each_from check (suc i) k)

-- check 9 for edge i of a source type of a kind: which kinds its steps leave, and that it agrees with the type's first path
unfoldable pub steps_right : Table → Kind → TypeMap → ℕ → Bool
steps_right T κ f i =
    right_steps κ (leaves T f.target (edge_of f i).steps)
    && agrees T κ f.target (first_path (map (λ (e : Edge). e.steps) f.edges)) (edge_of f i).steps

-- ---- the three checks of edges, and all of them at once

-- what a check asks of edge i of a source type of a kind
unfoldable pub edge_right : EdgeCheck → Embedding → Table → Kind → TypeMap → ℕ → Bool
edge_right Ends E T κ f i = end_right E T κ f i
edge_right Steps E T κ f i = steps_right T κ f i
edge_right Clashes E T κ f i = not (clashes_at T κ f i)
edge_right All E T κ f i = end_right E T κ f i && (steps_right T κ f i && not (clashes_at T κ f i))

-- a check of a source type
unfoldable pub type_fault : EdgeCheck → Embedding → Table → Kind → TypeMap → Verdict
type_fault Ends E T κ f = ends_of E T κ f
type_fault Steps E T κ f = steps_of T κ f
type_fault Clashes E T κ f = clashes_of T κ f
type_fault All E T κ f = each_from (λ i. pick (edge_right All E T κ f i) passes (fails (edge_of f i).at)) 0 (edges_of κ)

-- a check of all
abbrev pub first_fault : EdgeCheck → Table → Table → Embedding → Verdict
first_fault Ends S T E = wrong_end_verdict S T E
first_fault Steps S T E = wrong_steps_verdict S T E
first_fault Clashes S T E = path_clash_verdict S T E
first_fault All S T E = each_type (type_fault All E T) S E
