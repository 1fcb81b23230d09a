-- `with_edge` meets its contract.
use mathlib.Core.Path.{ap₂, ◌∙◌}
use Prim.Native.Nat.{ℕ, ◌+◌}
use Rattle.growing.specs.Growing.{push}
use Rattle.own_rows.proofs.with_edge.Goals as goal

pub returns : goal.returns
returns c = c.pushed.ensures ∙ ap₂ (λ (next left : ℕ). push c.args.e (next + 2) left c.args.hole) c.start-start.ensures.0 c.steps-steps.ensures.0
