-- `complete` meets its contract: one law for each arm.
use Rattle.std.proofs.Common.{arith, sym, ap, ◌∙◌, ℕ}
use lib.Dec.{leb}
use Rattle.tree_expected.proofs.Rests.{complete_sequence, complete_choice, complete_other}
use Rattle.tree_expected.proofs.complete.Goals as goal

pub returns-in-2 : goal.returns-in-2
returns-in-2 c = ap (λ (n : ℕ). leb n c.args.h) c.count.ensures.0 ∙ complete_sequence _ _ _ c.requires (sym c.kind.ensures.0 ∙ c.in-2.is)

pub returns-in-3 : goal.returns-in-3
returns-in-3 c = complete_choice c.args.table.now c.args.m c.args.h (sym c.kind.ensures.0 ∙ c.in-3.is)

pub returns-in_default : goal.returns-in_default
returns-in_default c = complete_other c.args.table.now c.args.m c.args.h (λ e. omega (arith, c.kind.ensures.0, e)) (λ e. omega (arith, c.kind.ensures.0, e))
