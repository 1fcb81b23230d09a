-- `child_depth` meets its contract: by the number of the edge.
use mathlib.Core.Path.{ap, ◌∙◌}
use Prim.Native.Nat.{ℕ, ◌+◌, ◌*◌}
use lib.ListN.{get_or}
use Rattle.loaded_embedding.specs.Loaded.{lengths_of}
use Rattle.measuring.proofs.child_depth.Goals as goal

pub returns : goal.returns
returns c =
    (c.steps.ensures.0 ∙ ap (λ (n : ℕ). get_or (lengths_of c.args.map.now) (c.args.s * 16 + n) 0) c.edge_of-edge.ensures, c.steps.ensures.1)
