-- `entering` meets its contract.
use Rattle.std.proofs.Common.{arith, subst, ℕ, IfSome}
use Rattle.tree_pass.specs.Passing.{Enters}
use Rattle.tree_pass.proofs.Turns.{enters}
use Rattle.tree_pass.proofs.entering.Goals as goal

pub returns : goal.returns
returns c =
    let a = c.args in
    subst (λ (x : ℕ). IfSome c.opening.result (Enters a.table.now a.top a.m a.h x)) c.from-x.ensures
    (enters _ _ _ _ _ c.opening.result c.opening.ensures (omega (arith, c.types.ensures.0, c.if-types-x.false)) c.if-top-ge-MAX_LEVELS.false)
