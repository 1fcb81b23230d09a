-- `step` meets its contract: a turn of the machine of check 5.
use mathlib.Core.Path.{◌∙◌}
use borrow.Author.Rules.{rules}
use lib.ListN.{length-set}
use Rattle.table_form.proofs.Loop.{refused, unread, taken}
use Rattle.table_operands.specs.Repeats.{chosen}
use Rattle.table_operands.proofs.Machines.{repeat_machine}
use Rattle.table_operands.proofs.Chosen.{again_there, joins, turned, opens, same_opened, added, same_added, not_inside, ends, leaves}
use Rattle.table_operands.proofs.repeats.MembersCheck.step.Goals as goal

pub returns-in_err-command : goal.returns-in_err-command
returns-in_err-command c =
    let m = c.args.self.now in rw c.from_residual.ensures (unread repeat_machine _ (chosen m.inside m.seen) c.requires.inside c.in_err-command.ensures)

-- a choice begins
pub returns-in-Choice : goal.returns-in-Choice
returns-in-Choice c =
    let m = c.args.self.now in
    let t = taken repeat_machine (chosen m.inside m.seen) _ c.requires.inside c.in_ok-command.ensures (opens _ c.in-Choice.is) c.width-width.ensures in
    let u = turned _ _ t same_opened in
    (u.some, u.within, search rules, u.same)

-- a member that is there already
pub returns-then-self-i : goal.returns-then-self-i
returns-then-self-i c =
    let m = c.args.self.now in
    let there = joins _ c.in-Member.is (again_there _ _ c.if-self.true (rw c.from-i.ensures at c.if-self-i.true)) in
    refused repeat_machine _ (chosen m.inside m.seen) c.requires.inside c.in_ok-command.ensures there

-- one that is not
pub returns-else-self-i : goal.returns-else-self-i
returns-else-self-i c =
    let m = c.args.self.now in
    let moved = joins _ c.in-Member.is (added _ _ c.if-self.true (rw c.from-i.ensures at c.if-self-i.false)) in
    let t = taken repeat_machine (chosen m.inside m.seen) _ c.requires.inside c.in_ok-command.ensures moved c.width-width.ensures in
    let u = turned _ _ t (same_added _ _ c.if-self.true (rw c.requires.fit (search rules))) in
    (u.some, u.within, length-set _ _ _ ∙ c.requires.fit, rw c.from-i.ensures u.same)

-- one outside a choice
pub returns-else-self : goal.returns-else-self
returns-else-self c =
    let m = c.args.self.now in
    let moved = joins _ c.in-Member.is (not_inside m.seen _ c.if-self.false) in
    let t = taken repeat_machine (chosen m.inside m.seen) _ c.requires.inside c.in_ok-command.ensures moved c.width-width.ensures in
    (t.some, t.within, c.requires.fit, t.same)

pub returns-in-End : goal.returns-in-End
returns-in-End c =
    let m = c.args.self.now in
    let t = taken repeat_machine (chosen m.inside m.seen) _ c.requires.inside c.in_ok-command.ensures (ends _ c.in-End.is) c.width-width.ensures in
    (t.some, t.within, c.requires.fit, t.same)

-- a type begins that is no choice
pub returns-in_default : goal.returns-in_default
returns-in_default c =
    let m = c.args.self.now in
    let d = c.in_default in
    let moved = leaves _ _ d.not-Choice d.not-Optional d.not-Member d.not-End in
    let t = taken repeat_machine (chosen m.inside m.seen) _ c.requires.inside c.in_ok-command.ensures moved c.width-width.ensures in
    (t.some, t.within, c.requires.fit, t.same)
