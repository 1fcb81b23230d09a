-- Check 8, edge by edge.
use Rattle.std.specs.Prelude.{Bool, true, [], ◌∷◌, ℕ, get_or, eqb}
use Rattle.model.specs.Definitions.Table.{Kind, text, empty, sequence, choice, list, Table, kind_of, is_text}
use Rattle.model.specs.Definitions.Embedding.{TypeMap, Embedding, target_of, end_of, edge_of}

-- check 8 for edge i of a source type of a kind: a character path ends at a text type, any other at what the member is mapped to
unfoldable pub end_right : Embedding → Table → Kind → TypeMap → ℕ → Bool
end_right E T text f i = is_text (kind_of T (end_of T f.target (edge_of f i).steps))
end_right E T empty f i = true
end_right E T (sequence ms) f i = eqb (end_of T f.target (edge_of f i).steps) (target_of E (get_or ms i 0))
end_right E T (choice need ms) f i = eqb (end_of T f.target (edge_of f i).steps) (target_of E (get_or ms i 0))
end_right E T (list m) f i = eqb (end_of T f.target (edge_of f i).steps) (target_of E (get_or (m ∷ []) i 0))
