-- `is_image` meets its contract: by the rows that were prepared.
use Rattle.row_traversal.specs.Whole.{image_asked}
use Rattle.comparing.proofs.is_image.Goals as goal

pub with_rows-requires-clause-takes : goal.with_rows-requires-clause-takes
with_rows-requires-clause-takes c pool places out rows old = (c.requires.spans, (_, image_asked c.requires.setting c.requires.conforming rows))

pub returns : goal.returns
returns c = c.with_rows.ensures.met _ (image_asked c.requires.setting c.requires.conforming c.with_rows.ensures.rows)
