-- `step_count` meets its contract: a 13th step is refused.
use borrow.Author.Tests.{lt-ltb, le-ltb}
use native.Mathlib.Numerals.{add-one}
use native.Mathlib.Omega.{arith}
use Rattle.model.specs.Definitions.Basics.{goes_if}
use Rattle.model.specs.Definitions.EmbeddingChecks.{step_count}
use Rattle.embedding_operands.proofs.limits.step_count.Goals as goal

pub returns-then-n-lt-MAX_STEPS : goal.returns-then-n-lt-MAX_STEPS
unfolding step_count goes_if
returns-then-n-lt-MAX_STEPS c = rw (c.in-Step.is, lt-ltb c.args.n 12 (omega (arith, c.if-n-lt-MAX_STEPS.true)), add-one c.args.n)

pub returns-else-n-lt-MAX_STEPS : goal.returns-else-n-lt-MAX_STEPS
unfolding step_count goes_if
returns-else-n-lt-MAX_STEPS c = rw (c.in-Step.is, le-ltb _ _ c.if-n-lt-MAX_STEPS.false)
