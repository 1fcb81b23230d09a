-- `count_path_elements` meets its contract: by the rows that were prepared.
use Rattle.path_counts.proofs.Counting.{countable, counted}
use Rattle.path_counts.proofs.count_path_elements.Goals as goal

pub with_rows-requires-clause-takes : goal.with_rows-requires-clause-takes
with_rows-requires-clause-takes c pool places out rows old = countable c.requires.setting c.requires.conforming rows

pub returns : goal.returns
returns c = counted c.requires.setting c.requires.conforming c.with_rows.ensures.rows c.with_rows.ensures.met
