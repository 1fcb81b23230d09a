-- `give` meets its contract: there is no room, or what was read is copied and the elements on paths are counted.
use native.Mathlib.Omega.{arith}
use Rattle.inverse.specs.Sources.{source_read}
use Rattle.reading_along.proofs.Answering.{source-no-room, built-less, source-copied}
use Rattle.reading_along.proofs.give.Goals as goal

pub returns-then-out-n : goal.returns-then-out-n
returns-then-out-n c tr counted read = source-no-room _ c.requires.setting.valid counted.tree read _ (omega (arith, c.if-out-n.true))

pub count_path_elements-built-requires : goal.count_path_elements-built-requires
count_path_elements-built-requires c = record { setting = c.requires.setting; conforming = source_read _ c.requires.setting.valid c.requires.reading.1.tree c.requires.reading.2 }

pub left_out-filler-requires : goal.left_out-filler-requires
left_out-filler-requires c = built-less _ c.requires.setting.valid c.requires.reading.1.tree c.requires.reading.2 c.requires.reading.1.count_is c.count_path_elements-built.ensures

pub returns : goal.returns
returns c tr counted read =
    source-copied _ c.requires.setting.valid counted.tree read counted.count_is c.count_path_elements-built.ensures c.left_out-filler.ensures c.if-out-n.false c.copy-length.ensures
