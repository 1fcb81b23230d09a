use mathlib.Core.Path.{ap, ◌∙◌}
use Prim.Native.Nat.{ℕ, ◌+◌, ◌*◌, ◌<◌}
use native.Mathlib.Omega.{arith}
use lib.ListN.{length, get_or}
use Rattle.type_commands.proofs.Reading.{TypeTold, type_told}
use Rattle.type_commands.proofs.Storing.{none_stored, one_stored, all_stored}
use Rattle.type_commands.proofs.put_operands.Goals as goal
use Rattle.type_commands.proofs.put_operands.Goals.{Start, After-set_member-arg-1}

-- what the bytes tell
told : (s : Start) → TypeTold s.args.cs.now
told s = type_told _ s.requires.2

-- the operand that a turn stores is within them
within : (d : After-set_member-arg-1) → d.first_operand-first.result + 2 * d.loop-i.i < length d.args.cs.now
within d =
    omega (arith, (type_told _ d.requires.2).within d.loop-i.i d.loop-i-test.true, d.first_operand-first.ensures)

pub bounds-cs-0 : goal.bounds-cs-0
bounds-cs-0 c = (told (goal.at.bounds-cs-0 c).Start).filled

pub first_operand-first-requires : goal.first_operand-first-requires
first_operand-first-requires c = tt

pub loop-i-init : goal.loop-i-init
loop-i-init c = none_stored _ _ _

pub overflow_add-first : goal.overflow_add-first
overflow_add-first c = omega (arith, within (goal.at.overflow_add-first c).After-set_member-arg-1)

pub bounds-cs-first : goal.bounds-cs-first
bounds-cs-first c = within (goal.at.bounds-cs-first c).After-set_member-arg-1

pub wide-requires : goal.wide-requires
wide-requires c = tt

-- and is the next member
pub loop-i-preserved : goal.loop-i-preserved
loop-i-preserved c =
    let i = c.loop-i.i in
    let operand = ap (λ (f : ℕ). get_or c.args.cs.now (f + 2 * i) 0) c.first_operand-first.ensures ∙ (told (goal.at.loop-i-preserved c).Start).operand i c.loop-i-test.true in
    one_stored c.requires.0 c.requires.1 (omega (arith, c.loop-i-test.true, c.requires.3)) (c.wide.ensures ∙ operand) c.set_member.ensures c.loop-i.invariant

pub returns : goal.returns
returns c =
    all_stored c.requires.0 c.requires.1 (told (goal.at.returns c).Start).many c.loop-i-test.false c.set_count.ensures c.loop-i.invariant
