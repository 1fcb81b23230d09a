-- `checked_at` meets its contract: each answer has its command.
use Rattle.std.proofs.Common.{arith, sym, ◌∙◌}
use Rattle.tree_form.proofs.Commands.{opens_at, character_at, closes_at}
use Rattle.tree_form.proofs.Machines.{stands}
use Rattle.tree_pass.proofs.checked_at.Goals as goal

pub returns-then-holds : goal.returns-then-holds
returns-then-holds c =
    let more = c.requires.more in
    let character = c.holds.ensures c.if-holds.true in (
      record {
        reads = stands _ _ (omega (arith, more)) (character_at _ _ c.in-49.is more);
        text = sym (character.text c.args.h);
      },
      character.fine,
    )

pub returns-then-complete : goal.returns-then-complete
returns-then-complete c =
    let more = c.requires.more in
    record {
      reads = stands _ _ (omega (arith, more)) (closes_at _ _ c.in-50.is);
      ready = sym c.complete.ensures ∙ c.if-complete.true;
    }

pub returns-in_ok-entering-in-48 : goal.returns-in_ok-entering-in-48
returns-in_ok-entering-in-48 c =
    let more = c.requires.more in
    let enters = c.in_ok-entering-in-48.ensures in
    (record { reads = stands _ _ (omega (arith, more)) (opens_at _ _ c.in-48.is more); opening = enters.opening }, enters.exists, enters.room)
