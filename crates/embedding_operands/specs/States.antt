-- The states and answers of the code's machines as those of the model's.
use Rattle.std.specs.Prelude.{ℕ, true, List, Option, Some, None, ◌<◌}
use Rattle.std.proofs.Math.Option as maths
use Rattle.embedding_operands.specs.declared.limits.Steps.{Steps}
use Rattle.embedding_operands.specs.declared.operands.Reach.{Reach}
use Rattle.embedding_operands.specs.declared.operands.Walk.{Walk}
use Rattle.embedding_form.specs.Left.{left_of}
use Rattle.loaded_table.specs.Loaded.{table_by, types_in, Bounded}
use Rattle.model.specs.Definitions.Basics.{Next, Verdict, goes, stops}
use Rattle.model.specs.Definitions.EmbeddingChecks.{Reached, step_count, path_step}
use Rattle.model.proofs.Theorems.Facts.{WellFormed}

-- the type that a step goes to, if there is one
abbrev pub stepped : Option ℕ → maths.Option ℕ
stepped (Some m) = maths.some m
stepped None = maths.none

-- ---- check 3

abbrev pub count_next : Option ℕ → Next ℕ
count_next (Some n) = goes n
count_next None = stops

-- its verdict on what is left from an offset
abbrev pub limits_left : List ℕ → Steps → ℕ → Verdict
limits_left bs s = left_of step_count (λ n. true) bs s.count

-- ---- check 4

abbrev pub reached : Reach → Reached
reached r = record { start = r.start; now = r.here }

abbrev pub reach_next : Option Reach → Next Reached
reach_next (Some r) = goes (reached r)
reach_next None = stops

-- a walk through a table that is well formed, at types that it has
pub record Within (w : Walk) : Type 0 where
  pub bounded : Bounded w.target.now
  pub well_formed : WellFormed (table_by w.target.now)
  pub start_in : w.reach.start < types_in w.target.now
  pub here_in : w.reach.here < types_in w.target.now

-- its verdict on what is left from an offset
abbrev pub operands_left : List ℕ → Walk → ℕ → Verdict
operands_left bs w = left_of (path_step (table_by w.target.now)) (λ r. true) bs (reached w.reach)
