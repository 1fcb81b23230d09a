-- The comparison by the rows that were prepared.
use Rattle.comparing.proofs.fn.is_image.with_rows.Goals as goal

pub is_image-requires : goal.is_image-requires
is_image-requires c = record { spans = c.requires.spans; task = c.requires.task }

pub returns : goal.returns
returns c = c.is_image.ensures
