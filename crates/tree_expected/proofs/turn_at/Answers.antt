-- `turn_at` meets its contract: each answer has its command.
use Rattle.std.proofs.Common.{sym, ◌∙◌}
use Rattle.tree_form.proofs.Commands.{met}
use Rattle.tree_form.proofs.Machines.{stands}
use Rattle.tree_expected.proofs.turn_at.Goals as goal

pub returns-in_err-x : goal.returns-in_err-x
returns-in_err-x c = rw c.from_residual.ensures (record { met = _; reads = stands _ _ c.requires.1 c.in_err-x.ensures; unfit = tt })

pub returns-in_err-opening-in-Opens : goal.returns-in_err-opening-in-Opens
returns-in_err-opening-in-Opens c =
    rw c.from_residual-in_err-opening-in-Opens.ensures
    (record { met = _; reads = met _ _ c.requires.1 c.in_ok-x.ensures c.in-Opens.is; unfit = rw c.from.ensures at c.in_err-opening-in-Opens.ensures })

pub returns-in_ok-opening-in-Opens : goal.returns-in_ok-opening-in-Opens
returns-in_ok-opening-in-Opens c =
    record { reads = met _ _ c.requires.1 c.in_ok-x.ensures c.in-Opens.is; opening = rw c.from.ensures at c.in_ok-opening-in-Opens.ensures }

pub returns-then-is_text : goal.returns-then-is_text
returns-then-is_text c =
    record { reads = met _ _ c.requires.1 c.in_ok-x.ensures c.in-Character.is; text = sym (c.is_text.ensures c.args.h) ∙ c.if-is_text.true }

pub returns-else-is_text : goal.returns-else-is_text
returns-else-is_text c =
    record { met = _; reads = met _ _ c.requires.1 c.in_ok-x.ensures c.in-Character.is; unfit = sym (c.is_text.ensures c.args.h) ∙ c.if-is_text.false }

pub returns-then-complete : goal.returns-then-complete
returns-then-complete c =
    record { reads = met _ _ c.requires.1 c.in_ok-x.ensures c.in-Closes.is; ready = sym c.complete.ensures ∙ c.if-complete.true }

pub returns-else-complete : goal.returns-else-complete
returns-else-complete c =
    record { met = _; reads = met _ _ c.requires.1 c.in_ok-x.ensures c.in-Closes.is; unfit = sym c.complete.ensures ∙ c.if-complete.false }

pub returns-in-End : goal.returns-in-End
returns-in-End c = record { met = _; reads = met _ _ c.requires.1 c.in_ok-x.ensures c.in-End.is; unfit = tt }
