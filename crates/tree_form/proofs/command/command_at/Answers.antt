-- `command_at` meets its contract: one law for each arm.
use Rattle.std.proofs.Common.{arith, rules}
use Rattle.tree_form.proofs.Commands.{opens_at, character_at, open_cut, character_cut, closes_at, end_at, alien_at}
use Rattle.tree_form.proofs.command.command_at.Goals as goal

pub returns-in_err-get-in-48 : goal.returns-in_err-get-in-48
returns-in_err-get-in-48 c = rw c.from_residual.ensures (open_cut _ _ c.in-48.is (omega (arith, c.in_err-get-in-48.ensures.lookup)))

pub returns-in_ok-get-in-48 : goal.returns-in_ok-get-in-48
returns-in_ok-get-in-48 c = let there = c.in_ok-get-in-48.ensures.lookup.3 in rw (there.1 0) (opens_at _ _ c.in-48.is there.0)

pub returns-in_err-get-in-49 : goal.returns-in_err-get-in-49
returns-in_err-get-in-49 c =
    rw c.from_residual-in_err-get-in-49.ensures (character_cut _ _ c.in-49.is (omega (arith, c.in_err-get-in-49.ensures.lookup)))

pub returns-in_ok-get-in-49 : goal.returns-in_ok-get-in-49
returns-in_ok-get-in-49 c = let there = c.in_ok-get-in-49.ensures.lookup.3 in rw (there.1 0) (character_at _ _ c.in-49.is there.0)

pub returns-in-50 : goal.returns-in-50
returns-in-50 c = closes_at _ _ c.in-50.is

pub returns-in-63 : goal.returns-in-63
returns-in-63 c = end_at _ _ c.in-63.is

pub returns-in_default : goal.returns-in_default
returns-in_default c = search (rules, alien_at)
