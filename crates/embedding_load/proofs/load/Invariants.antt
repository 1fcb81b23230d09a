-- `load` meets its contract. The invariant is `EmbeddingLoading` of Turns.antt, the measure what is left of the document.
use mathlib.Core.Path.{◌≡◌}
use Prim.Native.Nat.{◌-◌}
use lib.ListN.{length}
use Rattle.loaded_table.specs.Loaded.{table_by}
use Rattle.embedding_load.specs.Loading.{loaded_at}
use Rattle.embedding_load.proofs.Turns.{EmbeddingLoading}
use Rattle.embedding_load.proofs.load.Given as goal

abbrev pub invariant-loop-c : goal.invariant-loop-c
invariant-loop-c l = (length l.map ≡ 2112) × EmbeddingLoading l.em (table_by l.source) (loaded_at l.place l.map) l.at

abbrev pub decreases-loop-c : goal.decreases-loop-c
decreases-loop-c l = length l.em - l.at
