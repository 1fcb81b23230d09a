-- The machine of check 3. It refuses a command that is no table's.
use mathlib.Core.Path.{◌≡◌, refl}
use mathlib.Core.Bool.{true}
use Rattle.model.specs.Definitions.Basics.{stops}
use Rattle.model.specs.Definitions.Commands.{alien}
use Rattle.model.specs.Definitions.TableChecks.{TableCount, limit_step}
use Rattle.table_form.proofs.Loop.{Machine}

pub limit_stops : (n : TableCount) → limit_step n alien ≡ stops
unfolding limit_step
limit_stops n = refl

abbrev pub limit_machine : Machine TableCount
limit_machine = record { step = limit_step; complete = λ n. true; stops_there = limit_stops }
