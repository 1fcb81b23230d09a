-- The root's target is the first.
use mathlib.Core.Path.{sym, ap, ◌∙◌}
use Prim.Native.Nat.{ℕ}
use lib.Dec.{eqb}
use Rattle.loaded_embedding.specs.Loaded.{targets_of, starts_of, lengths_of}
use Rattle.model.specs.Definitions.EmbeddingChecks.{root_to_root}
use Rattle.embedding_clash.proofs.Arrays.{root_target}
use Rattle.embedding_ends.proofs.root.root_to_root.Goals as goal

pub returns : goal.returns
unfolding root_to_root
returns c = λ em S h. ap (λ (t : ℕ). eqb t 0) (c.target.ensures.0 ∙ sym (root_target em S (targets_of c.args.map.now) (starts_of c.args.map.now) (lengths_of c.args.map.now) h))
