-- The machine of check 2. It refuses a command that is no table's.
use mathlib.Core.Path.{◌≡◌, refl}
use Prim.Native.Nat.{zero, suc}
use Rattle.model.specs.Definitions.Basics.{stops}
use Rattle.model.specs.Definitions.Commands.{alien}
use Rattle.model.specs.Definitions.TableChecks.{TableState, no_type, whole, members, table_ended, unknown, table_role, table_move, table_step, table_complete}
use Rattle.table_form.proofs.Loop.{Machine}

-- what has no role in a table is refused in every state
pub unknown_stops : (s : TableState) → table_move s unknown ≡ stops
unfolding table_move
unknown_stops no_type = refl
unknown_stops whole = refl
unknown_stops (members zero) = refl
unknown_stops (members (suc k)) = refl
unknown_stops table_ended = refl

pub form_stops : (s : TableState) → table_step s alien ≡ stops
unfolding table_step table_role
form_stops s = unknown_stops s

abbrev pub form_machine : Machine TableState
form_machine = record { step = table_step; complete = table_complete; stops_there = form_stops }
