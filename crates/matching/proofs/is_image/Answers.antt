-- `is_image` meets its contract: the document begins with the image, and nothing is left behind it.
use Rattle.std.proofs.Common.{sym, ◌∙◌}
use Rattle.matching.proofs.Whole.{if_ok, if_err, nothing_left, other_document}
use Rattle.matching.proofs.is_image.Goals as goal

pub returns-then-is_ok : goal.returns-then-is_ok
returns-then-is_ok c bs a = nothing_left c.image-found.new.sink.left.now (if_ok _ c.image-found.ensures.taken (sym c.is_ok.ensures.value ∙ c.if-is_ok.true) bs a).stands c.is_empty.ensures

pub returns-else-is_ok : goal.returns-else-is_ok
returns-else-is_ok c bs a = other_document (if_err _ c.image-found.ensures.refused (sym c.is_ok.ensures.value ∙ c.if-is_ok.false) bs a).differs c.if-is_ok.false
