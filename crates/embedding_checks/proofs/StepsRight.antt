-- What check 9 asks of an edge, by what was found of it.
use mathlib.Core.Path.{◌≡◌, refl, sym}
use mathlib.Core.Bool.{Bool, true, false, not}
use mathlib.Core.List.{List, [], ◌∷◌, map}
use Prim.Native.Nat.{ℕ}
use lib.ListN.{get_or}
use borrow.Author.Tests.{not-true, not-false}
use Rattle.model.specs.Definitions.Table.{Kind, Table, is_optional}
use Rattle.model.specs.Definitions.Embedding.{Edge, TypeMap, leaves, first_path, before_choice, same_steps, no_edge, edge_of}
use Rattle.model.specs.Definitions.EmbeddingChecks.{right_steps, agrees}
use Rattle.embedding_checks.specs.Tests.{steps_right}

-- the type's first path is its first edge's
first_edge_lem : (es : List Edge) → first_path (map (λ (e : Edge). e.steps) es) ≡ (get_or es 0 no_edge).steps
unfolding first_path no_edge
first_edge_lem [] = refl
first_edge_lem (e ∷ es) = refl

module _ (T : Table) (κ : Kind) (f : TypeMap) (i : ℕ) {kinds : Bool} (found : kinds ≡ right_steps κ (leaves T f.target (edge_of f i).steps)) where
  -- a step leaves a wrong kind
  pub kinds_wrong : not kinds ≡ true → false ≡ steps_right T κ f i
  unfolding steps_right
  kinds_wrong told = rw (sym found, not-true kinds told)

  module _ (right : not kinds ≡ false) where
    -- none does, and the source type is no optional choice
    pub nothing_more : is_optional κ ≡ false → true ≡ steps_right T κ f i
    unfolding steps_right agrees
    nothing_more e = rw (sym found, not-false kinds right, e)

    -- it is one: the first path decides
    pub first-decides : is_optional κ ≡ true → {same : Bool} → same ≡ same_steps (before_choice T f.target (edge_of f 0).steps) (before_choice T f.target (edge_of f i).steps) → same ≡ steps_right T κ f i
    unfolding steps_right agrees edge_of
    first-decides e agreed = rw (sym found, not-false kinds right, e, first_edge_lem f.edges) agreed
