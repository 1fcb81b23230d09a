-- `give` meets its contract: by what the comparison answers.
use Rattle.bringing.proofs.Comparing.{denied, confirmed}
use Rattle.inverse.specs.Sources.{source_read}
use Rattle.bringing.proofs.Answering.{other-image, source-no-room, source-copied}
use Rattle.bringing.proofs.give.Goals as goal

pub is_image-requires : goal.is_image-requires
is_image-requires c = record { setting = c.requires.setting; conforming = source_read _ c.requires.setting.valid c.requires.target c.requires.reading; spans = c.fill_spans.ensures }

pub returns-then-not-is_image : goal.returns-then-not-is_image
returns-then-not-is_image c =
    other-image _ c.requires.setting.valid c.requires.target c.requires.reading _ (denied _ c.is_image.ensures c.if-not-is_image.true)

pub returns-then-out-n : goal.returns-then-out-n
returns-then-out-n c =
    source-no-room _ c.requires.setting.valid c.requires.target c.requires.reading _ (confirmed _ c.is_image.ensures c.if-not-is_image.false) c.if-out-n.true

pub returns : goal.returns
returns c =
    source-copied _ c.requires.setting.valid c.requires.target c.requires.reading _ (confirmed _ c.is_image.ensures c.if-not-is_image.false) c.if-out-n.false c.copy.ensures
