-- What the code says of two paths, as the model's. It knows a kind by its code, so a kind that is left stands without its members.
use Rattle.std.specs.Prelude.{◌≡◌, List, [], ℕ, ◌+◌, ◌*◌, ◌<◌, get_or, Option, Some, None}
use Rattle.std.proofs.Math.Option as maths
use Rattle.embedding_clash.specs.declared.clash.Behind.{Behind}
use Rattle.embedding_clash.specs.declared.clash.Behind.TheVariants.{BothEnd, FirstEnds, SecondEnds, Apart}
use Rattle.embedding_clash.specs.declared.clash.Parting.{Parting}
use Rattle.answers.specs.declared.Reason.{Reason}
use Rattle.answers.specs.declared.Clash.{Clash}
use Rattle.answers.specs.Answers.{reason}
use Rattle.loaded_table.specs.Loaded.{kind_from}
use Rattle.loaded_embedding.specs.Loaded.{starts_of}
use Rattle.model.specs.Definitions.Table.{Kind}
use Rattle.model.specs.Definitions.Embedding as model
use Rattle.model.specs.Definitions.EmbeddingChecks as checks
use Rattle.model.specs.Definitions.EmbeddingChecks.{clash_reason}

abbrev pub behind_by : Behind → model.Behind
behind_by BothEnd = model.both_end
behind_by FirstEnds = model.first_ends
behind_by SecondEnds = model.second_ends
behind_by (Apart left) = model.apart (kind_from left 0 [])

-- what is found of two paths
abbrev pub reason_by : Option Reason → maths.Option checks.Reason
reason_by None = maths.none
reason_by (Some why) = maths.some (reason why)

-- where one of two paths is a beginning of the other, which of them ends, by their numbers of steps
abbrev pub EndsBy : ℕ → ℕ → Behind → Type 0
EndsBy m n BothEnd = m ≡ n
EndsBy m n FirstEnds = m < n
EndsBy m n SecondEnds = n < m
EndsBy m n (Apart left) = ⊥

-- the code's comparison is the model's: the number of shared steps, and what stands behind them as far as it is a reason for a clash
pub record SameParting (r : Parting) (v : model.Parting) : Type 0 where
  pub same_shared : r.shared ≡ v.shared
  pub same_reasons : (κ : Kind) → clash_reason κ (behind_by r.behind) ≡ clash_reason κ v.behind

-- the clash of edges j and i of source type s, in a loaded embedding, whose paths share n steps, for a reason
pub record ClashOf (map : List ℕ) (s j i n : ℕ) (why : Reason) (c : Clash) : Type 0 where
  pub of_type : c.source ≡ s
  pub earlier_is : c.earlier ≡ j + 1
  pub later_is : c.later ≡ i + 1
  pub shared_is : c.shared ≡ n
  pub reason_is : c.reason ≡ why
  pub mark_is : c.mark ≡ get_or (starts_of map) (s * 16 + i) 0
