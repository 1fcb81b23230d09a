-- `members_at_least` meets its contract: where there are members only, they are half as many as the bytes.
use Rattle.type_commands.proofs.Reading.{too_few, enough}
use Rattle.type_commands.proofs.members_at_least.Goals as goal

pub returns-then-cs-least : goal.returns-then-cs-least
returns-then-cs-least c = too_few _ c.args.cs.now c.if-cs-least.true

pub members_only-requires : goal.members_only-requires
members_only-requires c = tt

pub returns : goal.returns
returns c = enough _ c.args.cs.now c.if-cs-least.false c.members_only.ensures
