-- Whether the search finds something.
use Rattle.std.proofs.Common.{◌∙◌}
use native.Mathlib.Omega.{arith}
use Rattle.embedding_clash.proofs.Arrays.{type_at}
use Rattle.embedding_clash.proofs.Searching.{clashes_found}
use Rattle.embedding_clash.proofs.clash.clashes_before.Goals as goal

-- the edge is one of the type's
pub returns : goal.returns
returns c =
    c.is_some.ensures
    ∙ clashes_found _ _ _ _ _ c.first_clash.result (omega (arith, c.requires.edge_exists, (type_at c.requires.ready _ c.requires.type_exists).edges_due_lem)) c.first_clash.ensures
