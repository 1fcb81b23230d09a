-- `lost_at` meets its contract: where reading is known to fail, the search finds where.
use Rattle.inverse.specs.Sources.{root_there, root_image}
use Rattle.reading_along.proofs.Answering.{found_missing, found_nowhere}
use Rattle.reading_along.proofs.lost_at.Goals as goal

pub find_lost-requires : goal.find_lost-requires
find_lost-requires c = record { image = root_image c.requires.setting c.requires.spans (_, c.requires.target.form) }

pub returns-in-Some : goal.returns-in-Some
returns-in-Some c =
    found_missing _ c.requires.setting.valid c.requires.target (rw c.in-Some.is at (c.find_lost.ensures _ (root_there c.requires.target.form)))

pub returns-in-None : goal.returns-in-None
returns-in-None c =
    found_nowhere _ c.requires.setting.valid c.requires.target c.requires.fails (rw c.in-None.is at (c.find_lost.ensures _ (root_there c.requires.target.form)))
