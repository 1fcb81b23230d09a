-- `carry_prepared` meets its contract: by what measuring and writing promise.
use Rattle.carry_prepared.proofs.Carrying.{carry-too-deep, carry-too-long, carry-no-room, carry-fits, carry_writes}
use Rattle.carry_prepared.proofs.carry_prepared.Goals as goal

pub returns-then-size-gt-MAX_LEVELS : goal.returns-then-size-gt-MAX_LEVELS
returns-then-size-gt-MAX_LEVELS c g = carry-too-deep g c.measure-size.ensures _ c.if-size-gt-MAX_LEVELS.true

pub returns-then-size-gt-MAX_BYTES : goal.returns-then-size-gt-MAX_BYTES
returns-then-size-gt-MAX_BYTES c g = carry-too-long g c.measure-size.ensures _ c.if-size-gt-MAX_LEVELS.false c.if-size-gt-MAX_BYTES.true

pub returns-then-out-size : goal.returns-then-out-size
returns-then-out-size c g = carry-no-room g c.measure-size.ensures _ c.if-size-gt-MAX_LEVELS.false c.if-size-gt-MAX_BYTES.false c.if-out-size.true

pub write-length-requires : goal.write-length-requires
write-length-requires c = record { task = carry-fits c.requires c.measure-size.ensures c.args.out.now c.if-size-gt-MAX_LEVELS.false c.if-size-gt-MAX_BYTES.false c.if-out-size.false; short = c.requires.tree.short }

pub returns : goal.returns
returns c g = carry_writes g c.measure-size.ensures _ c.if-size-gt-MAX_LEVELS.false c.if-size-gt-MAX_BYTES.false c.if-out-size.false _ _ c.write-length.ensures
