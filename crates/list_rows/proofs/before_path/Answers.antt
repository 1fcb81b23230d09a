-- `before_path` meets its contract.
use mathlib.Core.Path.{ap, ◌∙◌}
use Prim.Native.Nat.{ℕ, ◌+◌}
use Rattle.own_rows.specs.OnePath.{one_path}
use Rattle.list_rows.proofs.before_path.Goals as goal

pub returns : goal.returns
returns c =
    c.one_path.ensures ∙ ap (λ (start : ℕ). one_path (start + 2) c.args.cut.depth 145) c.start-start.ensures.0
